use Rattle.std.proofs.Common.{rules, ◌≡◌, Some}
use Rattle.class_model.specs.PoolChecks.{class_at, descriptor_at, name_at}
use Rattle.materialise.proofs.ConstantLaws.{if_ok, last_of_member}
use Rattle.materialise.proofs.meant.add_member_of.Goals as goal
use Rattle.materialise.specs.Indices.{kind_needed}

pub returns-clause-index : goal.returns-clause-index
returns-clause-index c =
    let from = c.args.from.now in
    let class_is : class_at c.args.from.now c.args.class ≡ Some c.in-Some.class.now = search rules in
    let name_is : name_at c.args.from.now c.args.member ≡ Some c.in-Some-utf8.name.now = search rules in
    let desc_is : descriptor_at c.args.from.now c.args.member ≡ Some c.in-Some-utf8-2.desc.now = search rules in
    if_ok c.add_member.result
    (λ index known. last_of_member c.add_member.new.pool (kind_needed c.args.kind) (class_at from c.args.class) (name_at from c.args.member) (descriptor_at from c.args.member) c.in-Some.class.now c.in-Some-utf8.name.now c.in-Some-utf8-2.desc.now index class_is name_is desc_is known)
    c.add_member.ensures.index
