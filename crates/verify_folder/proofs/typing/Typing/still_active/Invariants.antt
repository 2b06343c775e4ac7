use Rattle.std.proofs.Common.{take}
use Rattle.verify_folder.specs.Inner.Active.{AreStill}
use Rattle.verify_folder.proofs.typing.Typing.still_active.Given as goal

abbrev pub invariant-loop-handler : goal.invariant-loop-handler
invariant-loop-handler l = AreStill l.self l.before.locals l.at (take l.handler-index l.active) l.still.items
