use Rattle.std.proofs.Common.{◌-◌, length}
use Rattle.verify_folder.specs.Inner.Active.{AreCheckedAt}
use Rattle.verify_folder.proofs.typing.Typing.begin.Given as goal

abbrev pub invariant-loop-handler : goal.invariant-loop-handler
invariant-loop-handler l = AreCheckedAt l.self l.before.locals l.at l.active

abbrev pub decreases-loop-handler : goal.decreases-loop-handler
decreases-loop-handler l = length l.active.table.items - l.active.begun
