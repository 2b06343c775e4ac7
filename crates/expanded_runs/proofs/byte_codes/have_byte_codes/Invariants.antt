use Rattle.std.proofs.Common.{◌≡◌, ◌<◌, ℕ, Some, slice_get}
use Rattle.class_model.specs.Cutting.{IsBytes}
use Rattle.class_model.specs.MethodCode.{code_of}
use Rattle.class_model.specs.declared.class_file.ClassFile.{ClassFile}
use Rattle.class_model.specs.declared.class_file.CodePart.{CodePart}
use Rattle.class_model.specs.declared.class_file.Method.{Method}
use Rattle.expanded_runs.proofs.byte_codes.have_byte_codes.Given as goal

abbrev pub invariant-loop-class : goal.invariant-loop-class
invariant-loop-class l = (at number : ℕ) (class : ClassFile) (method : Method) (part : CodePart) → at < l.class-index → slice_get l.classes at ≡ Some class → slice_get class.methods number ≡ Some method → code_of method.attrs ≡ Some part → IsBytes part.code
