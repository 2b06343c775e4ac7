use Rattle.std.proofs.Common.{rules, ◌≡◌, Some}
use Rattle.class_model.specs.PoolChecks.{utf8_at}
use Rattle.materialise.proofs.ConstantLaws.{if_ok, last_of_string}
use Rattle.materialise.proofs.meant.add_string_of.Goals as goal

pub returns-in-Some-clause-index : goal.returns-in-Some-clause-index
returns-in-Some-clause-index c =
    let is : utf8_at c.args.from.now c.args.text ≡ Some c.in-Some.text.now = search rules in
    if_ok c.add_string.result
    (λ index known. last_of_string c.add_string.new.pool (utf8_at c.args.from.now c.args.text) c.in-Some.text.now index is known)
    c.add_string.ensures.index
