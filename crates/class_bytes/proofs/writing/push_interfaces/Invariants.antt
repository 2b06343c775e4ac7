use Rattle.class_model.specs.Spelling.{u2}
use Rattle.pool_bytes.specs.Items.{IsU2}
use Rattle.class_bytes.proofs.Pushing.{Pushed}
use Rattle.class_bytes.proofs.writing.push_interfaces.Given as goal

abbrev pub invariant-loop-interface : goal.invariant-loop-interface
invariant-loop-interface l = Pushed u2 IsU2 l.fn.out.items l.out.items l.interfaces l.interface-index
