use Rattle.std.proofs.Common.{[], ◌∷◌, ◌++◌, sym}
use Rattle.making_code.specs.Constants.{class_needs, name_and_type_needs, needs_class, needs_member}
use Rattle.std.proofs.lemmas.Result.{on_ok_weaker}
use Rattle.materialise.proofs.ConstantLaws.{if_ok, member_means}
use Rattle.materialise.specs.Laws.GrownEdits.{full_then, grows_both, index_later}
use Rattle.materialise.proofs.constants.add_member.Goals as goal
use Rattle.materialise.specs.Indices.{kind_needed}

pub returns-clause-ok : goal.returns-clause-ok
returns-clause-ok c =
    let class = c.args.class.now in
    let name = c.args.name.now in
    let desc = c.args.desc.now in
    let kind = kind_needed c.args.kind in
    let class_is = index_later c.add_class.new.pool c.add_name_and_type.new.pool (needs_class class) c.in_ok-class_index.class_index c.in_ok-class_index.ensures.index c.add_name_and_type.ensures.more in
    let means = member_means c.add_name_and_type.new.pool kind class name desc c.in_ok-class_index.class_index c.in_ok-member.member c.reference_to.result class_is c.in_ok-member.ensures.index (sym c.reference_to.ensures) in
    let both = grows_both c.args.pool.now c.add_class.new.pool c.add_name_and_type.new.pool (class_needs class) (name_and_type_needs name desc) c.in_ok-class_index.ensures.ok c.in_ok-member.ensures.ok in
    on_ok_weaker c.add.result
    (λ grows. grows_both c.args.pool.now c.add_name_and_type.new.pool c.add.new.pool (class_needs class ++ name_and_type_needs name desc) (needs_member kind class name desc ∷ []) both (grows (needs_member kind class name desc) means))
    c.add.ensures.ok

pub returns-clause-index : goal.returns-clause-index
returns-clause-index c =
    let class = c.args.class.now in
    let name = c.args.name.now in
    let desc = c.args.desc.now in
    let kind = kind_needed c.args.kind in
    let class_is = index_later c.add_class.new.pool c.add_name_and_type.new.pool (needs_class class) c.in_ok-class_index.class_index c.in_ok-class_index.ensures.index c.add_name_and_type.ensures.more in
    let means = member_means c.add_name_and_type.new.pool kind class name desc c.in_ok-class_index.class_index c.in_ok-member.member c.reference_to.result class_is c.in_ok-member.ensures.index (sym c.reference_to.ensures) in
    if_ok c.add.result (λ index known. known (needs_member kind class name desc) means) c.add.ensures.index

pub returns-clause-full : goal.returns-clause-full
returns-clause-full c = λ reason is.
    let class = c.args.class.now in
    let name = c.args.name.now in
    let desc = c.args.desc.now in
    let kind = kind_needed c.args.kind in
    let class_is = index_later c.add_class.new.pool c.add_name_and_type.new.pool (needs_class class) c.in_ok-class_index.class_index c.in_ok-class_index.ensures.index c.add_name_and_type.ensures.more in
    let means = member_means c.add_name_and_type.new.pool kind class name desc c.in_ok-class_index.class_index c.in_ok-member.member c.reference_to.result class_is c.in_ok-member.ensures.index (sym c.reference_to.ensures) in
    let both = grows_both c.args.pool.now c.add_class.new.pool c.add_name_and_type.new.pool (class_needs class) (name_and_type_needs name desc) c.in_ok-class_index.ensures.ok c.in_ok-member.ensures.ok in
    full_then c.args.pool.now c.add_name_and_type.new.pool (class_needs class ++ name_and_type_needs name desc) (needs_member kind class name desc ∷ []) reason both
    (c.add.ensures.full reason is (needs_member kind class name desc) means)
