use Rattle.verify_folder.specs.Inner.Active.{AreInForce, AreKnown}
use Rattle.verify_folder.proofs.typing.Typing.flows_before.Given as goal

abbrev pub invariant-loop-placed : goal.invariant-loop-placed
invariant-loop-placed l = AreInForce l.self l.active × AreKnown l.active l.flows
