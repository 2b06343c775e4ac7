use Rattle.std.proofs.Common.{◌≡◌, map, take}
use Rattle.class_model.specs.ClassOf.{entered_method}
use Rattle.class_bytes.specs.Inner.Cut.{methods_of}
use Rattle.class_bytes.proofs.entering.enter_methods.Given as goal

abbrev pub invariant-loop-method : goal.invariant-loop-method
invariant-loop-method l = l.all ≡ map (entered_method l.pool) (methods_of (take l.method-index l.methods))
