use Rattle.class_tree.proofs.NewNumbers.{mark_only, none_marked, one_cleared}
use Rattle.class_tree.proofs.interfaces.unmark.Goals as goal

pub loop-number-init : goal.loop-number-init
loop-number-init c = mark_only c.args.marks.now c.args.list.now c.requires

pub loop-number-preserved : goal.loop-number-preserved
loop-number-preserved c = one_cleared c.loop-number.marks c.args.list.now c.loop-number.number-index c.loop-number-test.true c.loop-number.invariant

pub returns : goal.returns
returns c = none_marked c.loop-number.marks c.args.list.now c.loop-number.number-index c.loop-number-test.false c.loop-number.invariant
