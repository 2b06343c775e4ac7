-- Codes that are bytes, class by class and method by method.
use Rattle.std.proofs.Common.{◌≡◌, ℕ, List, Option, Some, None, slice_get, option_and_then, option_map, refl, subst}
use Rattle.std.proofs.lemmas.Option.{none-some, same_Some}
use Rattle.class_model.specs.Cutting.{IsBytes}
use Rattle.class_model.specs.MethodCode.{code_of}
use Rattle.class_model.specs.declared.class_file.ClassFile.{ClassFile}
use Rattle.class_model.specs.declared.class_file.CodePart.{CodePart}
use Rattle.class_model.specs.declared.class_file.Method.{Method}
use Rattle.class_model.specs.declared.class_file.MethodAt.{MethodAt}
use Rattle.class_tree.specs.Headers.{Classes, headers_of}
use Rattle.expanded_runs.specs.ByteCodes.{HaveByteCodes}
use Rattle.member_link.specs.Scope.{Scope, scope_of}

-- the codes of these classes are bytes
abbrev pub AreByteCodes : List ClassFile → Type 0
AreByteCodes classes =
    (at number : ℕ) (class : ClassFile) (method : Method) (part : CodePart)
    → slice_get classes at ≡ Some class
    → slice_get class.methods number ≡ Some method
    → code_of method.attrs ≡ Some part
    → IsBytes part.code

abbrev scope_with : Classes → ClassFile → Method → CodePart → Scope
scope_with classes class method part = record { headers = headers_of classes; class = class; method = method; part = part }

pub have_byte_codes : (classes : Classes) → AreByteCodes classes.folder → HaveByteCodes classes
have_byte_codes classes are = record { each = λ at scope is. of_class at scope (slice_get classes.folder at.class) refl is } where
  of_code : (at : MethodAt) (scope : Scope) (class : ClassFile) (method : Method) → slice_get classes.folder at.class ≡ Some class → slice_get class.methods at.method ≡ Some method → (part : Option CodePart) → code_of method.attrs ≡ part → option_map (scope_with classes class method) part ≡ Some scope → IsBytes scope.part.code
  of_code at scope class method here there None none is = absurd (none-some scope is)
  of_code at scope class method here there (Some part) some is = subst (λ (one : Scope). IsBytes one.part.code) (same_Some (scope_with classes class method part) scope is) (are at.class at.method class method part here there some)

  of_method : (at : MethodAt) (scope : Scope) (class : ClassFile) → slice_get classes.folder at.class ≡ Some class → (method : Option Method) → slice_get class.methods at.method ≡ method → option_and_then (scope_of (headers_of classes) class) method ≡ Some scope → IsBytes scope.part.code
  of_method at scope class here None none is = absurd (none-some scope is)
  of_method at scope class here (Some method) there is = of_code at scope class method here there (code_of method.attrs) refl is

  of_class : (at : MethodAt) (scope : Scope) (class : Option ClassFile) → slice_get classes.folder at.class ≡ class → option_and_then (λ (class : ClassFile). option_and_then (scope_of (headers_of classes) class) (slice_get class.methods at.method)) class ≡ Some scope → IsBytes scope.part.code
  of_class at scope None none is = absurd (none-some scope is)
  of_class at scope (Some class) here is = of_method at scope class here (slice_get class.methods at.method) refl is
