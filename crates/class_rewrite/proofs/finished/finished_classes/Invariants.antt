use Rattle.class_rewrite.proofs.finished.finished_classes.Given as goal
use Rattle.class_rewrite.specs.Inner.Finishing.{AreFinished}

abbrev pub invariant-loop-number : goal.invariant-loop-number
invariant-loop-number l =
    AreFinished l.tree l.drafts l.additions.extended l.additions.finals.items l.additions.privates.items l.number l.classes
