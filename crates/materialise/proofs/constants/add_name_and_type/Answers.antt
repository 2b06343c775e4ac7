use Rattle.std.proofs.Common.{[], ◌∷◌, ◌++◌}
use Rattle.making_code.specs.Constants.{needs_name_and_type, needs_text}
use Rattle.std.proofs.lemmas.Result.{on_ok_weaker}
use Rattle.materialise.proofs.ConstantLaws.{pair_means}
use Rattle.materialise.specs.Laws.GrownEdits.{full_then, grows_both, index_later}
use Rattle.materialise.proofs.constants.add_name_and_type.Goals as goal
use Rattle.materialise.specs.Indices.{need_of_text}

pub returns-clause-ok : goal.returns-clause-ok
returns-clause-ok c =
    let name = c.args.name.now in
    let desc = c.args.desc.now in
    let first = index_later c.add_text.new.pool c.add_text-2.new.pool (need_of_text name) c.in_ok-name_index.name_index c.in_ok-name_index.ensures.index c.add_text-2.ensures.more in
    let means = pair_means c.add_text-2.new.pool name desc c.in_ok-name_index.name_index c.in_ok-desc_index.desc_index first c.in_ok-desc_index.ensures.index in
    let both = grows_both c.args.pool.now c.add_text.new.pool c.add_text-2.new.pool (needs_text name) (needs_text desc) c.in_ok-name_index.ensures.ok c.in_ok-desc_index.ensures.ok in
    on_ok_weaker c.add.result
    (λ grows. grows_both c.args.pool.now c.add_text-2.new.pool c.add.new.pool (needs_text name ++ needs_text desc) (needs_name_and_type name desc ∷ []) both (grows (needs_name_and_type name desc) means))
    c.add.ensures.ok

pub returns-clause-full : goal.returns-clause-full
returns-clause-full c = λ reason is.
    let name = c.args.name.now in
    let desc = c.args.desc.now in
    let first = index_later c.add_text.new.pool c.add_text-2.new.pool (need_of_text name) c.in_ok-name_index.name_index c.in_ok-name_index.ensures.index c.add_text-2.ensures.more in
    let means = pair_means c.add_text-2.new.pool name desc c.in_ok-name_index.name_index c.in_ok-desc_index.desc_index first c.in_ok-desc_index.ensures.index in
    let both = grows_both c.args.pool.now c.add_text.new.pool c.add_text-2.new.pool (needs_text name) (needs_text desc) c.in_ok-name_index.ensures.ok c.in_ok-desc_index.ensures.ok in
    full_then c.args.pool.now c.add_text-2.new.pool (needs_text name ++ needs_text desc) (needs_name_and_type name desc ∷ []) reason both
    (c.add.ensures.full reason is (needs_name_and_type name desc) means)
