use Rattle.std.proofs.Common.{drop}
use Rattle.verify_folder.proofs.Passing.{IsPassing}
use Rattle.verify_folder.specs.Inner.Active.{AreInForce, AreKnown}
use Rattle.verify_folder.proofs.typing.Typing.pass_all.Given as goal

abbrev pub invariant-loop-placed : goal.invariant-loop-placed
invariant-loop-placed l = IsPassing l.self l.flows (drop l.placed-index l.placed-items) × AreInForce l.self l.active × AreKnown l.active l.flows
