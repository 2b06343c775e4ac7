use Rattle.std.proofs.Common.{drop}
use Rattle.std.specs.Vec.Iter.{into_iter_items}
use Rattle.code_drafts.proofs.JoinLaws.{SoFar}
use Rattle.code_drafts.proofs.placing.join.Given as goal
use Rattle.code_drafts.specs.Inner.Parts.{parts_of}

abbrev pub invariant-loop-at : goal.invariant-loop-at
invariant-loop-at l =
    SoFar (parts_of l.blocks l.ends l.fn.items.items) l.joined
    (parts_of (drop l.at l.blocks) (drop l.at l.ends) (into_iter_items l.left))
