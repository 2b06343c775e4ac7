use Rattle.std.proofs.Common.{take}
use Rattle.plan_flow.specs.Inner.Blocks.{AreMarked}
use Rattle.plan_flow.proofs.heads.mark_all.Given as goal

abbrev pub invariant-loop-to : goal.invariant-loop-to
invariant-loop-to l = AreMarked l.initial.heads.items l.heads.items (take l.to-index l.points)
