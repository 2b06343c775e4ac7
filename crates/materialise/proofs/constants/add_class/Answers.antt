use Rattle.std.proofs.Common.{[], ◌∷◌}
use Rattle.making_code.specs.Constants.{needs_class, needs_text}
use Rattle.std.proofs.lemmas.Result.{on_ok_weaker}
use Rattle.materialise.proofs.ConstantLaws.{class_means}
use Rattle.materialise.specs.Laws.GrownEdits.{full_then, grows_both}
use Rattle.materialise.proofs.constants.add_class.Goals as goal

pub returns-clause-ok : goal.returns-clause-ok
returns-clause-ok c =
    let name = c.args.name.now in
    let means = class_means c.add_text.new.pool name c.in_ok-text.text c.in_ok-text.ensures.index in
    on_ok_weaker c.add.result
    (λ grows. grows_both c.args.pool.now c.add_text.new.pool c.add.new.pool (needs_text name) (needs_class name ∷ []) c.in_ok-text.ensures.ok (grows (needs_class name) means))
    c.add.ensures.ok

pub returns-clause-full : goal.returns-clause-full
returns-clause-full c = λ reason is.
    let name = c.args.name.now in
    let means = class_means c.add_text.new.pool name c.in_ok-text.text c.in_ok-text.ensures.index in
    full_then c.args.pool.now c.add_text.new.pool (needs_text name) (needs_class name ∷ []) reason c.in_ok-text.ensures.ok
    (c.add.ensures.full reason is (needs_class name) means)
