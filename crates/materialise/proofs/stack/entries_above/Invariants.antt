use Rattle.std.proofs.Common.{drop}
use Rattle.materialise.proofs.StackLaws.{SoFar}
use Rattle.materialise.proofs.stack.entries_above.Given as goal

abbrev pub invariant-loop-place : goal.invariant-loop-place
invariant-loop-place l =
    SoFar l.sites l.vtype-items (drop l.locals l.state.slots) l.entries.items l.place l.below
