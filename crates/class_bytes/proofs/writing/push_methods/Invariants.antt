use Rattle.class_model.specs.Spelling.{method_bytes}
use Rattle.class_bytes.specs.Numbers.{MethodNumbers}
use Rattle.class_bytes.proofs.Pushing.{Pushed}
use Rattle.class_bytes.proofs.writing.push_methods.Given as goal

abbrev pub invariant-loop-method : goal.invariant-loop-method
invariant-loop-method l = Pushed method_bytes MethodNumbers l.fn.out.items l.out.items l.methods l.method-index
