use Rattle.std.proofs.Common.{◌-◌}
use Rattle.std.specs.Vec.Iter.{into_iter_items}
use Rattle.code_emit.proofs.PutLaws.{InstrsLeft}
use Rattle.code_emit.proofs.making.put_instrs.Given as goal

abbrev pub invariant-loop : goal.invariant-loop
invariant-loop l = InstrsLeft l.fn.instrs l.fn.kept l.kept (into_iter_items l.left) (l.count - l.counter)
