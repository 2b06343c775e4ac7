use Rattle.class_tree.specs.Headers.{headers_of}
use Rattle.class_rewrite.proofs.AddedMarks.{but_next}
use Rattle.class_rewrite.proofs.marked_classes.mark_but_object.Goals as goal

pub loop-name-preserved : goal.loop-name-preserved
loop-name-preserved c =
    but_next (headers_of c.args.tree.now) c.args.names.now c.loop-name.name-index c.name-item.result c.args.marks.now c.loop-name.marks c.mark_other.new.marks
    c.loop-name-test.true c.name-item.is c.loop-name.invariant c.mark_other.ensures
