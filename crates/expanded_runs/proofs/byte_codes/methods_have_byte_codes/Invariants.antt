use Rattle.std.proofs.Common.{◌≡◌, ◌<◌, ℕ, Some, slice_get}
use Rattle.class_model.specs.Cutting.{IsBytes}
use Rattle.class_model.specs.MethodCode.{code_of}
use Rattle.class_model.specs.declared.class_file.CodePart.{CodePart}
use Rattle.class_model.specs.declared.class_file.Method.{Method}
use Rattle.expanded_runs.proofs.byte_codes.methods_have_byte_codes.Given as goal

abbrev pub invariant-loop-method : goal.invariant-loop-method
invariant-loop-method l = (number : ℕ) (method : Method) (part : CodePart) → number < l.method-index → slice_get l.methods number ≡ Some method → code_of method.attrs ≡ Some part → IsBytes part.code
