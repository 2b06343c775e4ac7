use Rattle.std.proofs.Common.{◌∙◌, get_or, ap}
use Rattle.class_tree.specs.Inner.InterfaceNumbers.{with_number}
use Rattle.class_tree.proofs.NewNumbers.{one_more}
use Rattle.class_tree.proofs.interfaces.append_new.Goals as goal

pub loop-number-preserved : goal.loop-number-preserved
loop-number-preserved c =
    let at = c.loop-number.number-index in
    (c.in_ok-push_new.ensures.list ∙ ap (λ list. with_number list (get_or c.args.numbers.now at 0)) c.loop-number.invariant.0 ∙ one_more c.args.list.now c.args.numbers.now at c.loop-number-test.true, c.in_ok-push_new.ensures.marks)
