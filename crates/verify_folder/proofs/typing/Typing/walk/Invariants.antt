use Rattle.std.proofs.Common.{drop}
use Rattle.verify_folder.proofs.Walking.{IsOnWalk}
use Rattle.verify_folder.specs.Inner.Active.{AreInForce, AreKnown}
use Rattle.verify_folder.proofs.typing.Typing.walk.Given as goal

abbrev pub invariant-loop-placed : goal.invariant-loop-placed
invariant-loop-placed l = IsOnWalk l.self l.frames l.flows (drop l.placed-index l.placed-items) × AreInForce l.self l.active × AreKnown l.active l.flows
