use Rattle.std.proofs.Common.{rules, ◌≡◌, Some}
use Rattle.class_model.specs.PoolChecks.{utf8_at}
use Rattle.materialise.proofs.ConstantLaws.{if_ok, last_of_class}
use Rattle.materialise.proofs.meant.add_class_of.Goals as goal

pub returns-in-Some-clause-index : goal.returns-in-Some-clause-index
returns-in-Some-clause-index c =
    let is : utf8_at c.args.from.now c.args.name ≡ Some c.in-Some.name.now = search rules in
    if_ok c.add_class.result
    (λ index known. last_of_class c.add_class.new.pool (utf8_at c.args.from.now c.args.name) c.in-Some.name.now index is known)
    c.add_class.ensures.index
