-- The methods of a folder that have code: what their scopes have.
use Rattle.std.proofs.Common.{◌≡◌, slice_get, Option, Some, None, option_map, refl, subst}
use Rattle.std.specs.Prelude.{option_and_then}
use Rattle.std.proofs.lemmas.Option.{none-some, same_Some}
use Rattle.class_model.specs.MethodCode.{code_of}
use Rattle.class_model.specs.declared.class_file.ClassFile.{ClassFile}
use Rattle.class_model.specs.declared.class_file.CodePart.{CodePart}
use Rattle.class_model.specs.declared.class_file.Method.{Method}
use Rattle.class_model.specs.declared.class_file.MethodAt.{MethodAt}
use Rattle.class_tree.specs.Headers.{Classes, headers_of}
use Rattle.member_link.specs.Scope.{Scope, scope_at, scope_of}

pub record IsScopeAt (classes : Classes) (at : MethodAt) (s : Scope) : Type 0 where
  pub of_folder : slice_get classes.folder at.class ≡ Some s.class
  pub of_class : slice_get s.class.methods at.method ≡ Some s.method
  pub has_code : code_of s.method.attrs ≡ Some s.part
  pub headers : s.headers ≡ headers_of classes

module _ (classes : Classes) (at : MethodAt) (s : Scope) where
  of_part : (file : ClassFile) → slice_get classes.folder at.class ≡ Some file
      → (method : Method) → slice_get file.methods at.method ≡ Some method
      → (part : Option CodePart) → code_of method.attrs ≡ part
      → option_map (λ (part : CodePart). let own : Scope = record { headers = headers_of classes; class = file; method = method; part = part } in own) part
      ≡ Some s
      → IsScopeAt classes at s
  of_part file of_folder method of_class None coded is = absurd (none-some s is)
  of_part file of_folder method of_class (Some part) coded is =
      let own : Scope = record { headers = headers_of classes; class = file; method = method; part = part } in
      subst (IsScopeAt classes at) (same_Some own s is)
      (record { of_folder = of_folder; of_class = of_class; has_code = coded; headers = refl })

  of_method : (file : ClassFile) → slice_get classes.folder at.class ≡ Some file
      → (method : Option Method) → slice_get file.methods at.method ≡ method
      → option_and_then (scope_of (headers_of classes) file) method ≡ Some s
      → IsScopeAt classes at s
  of_method file of_folder None of_class is = absurd (none-some s is)
  of_method file of_folder (Some method) of_class is = of_part file of_folder method of_class (code_of method.attrs) refl is

  of_file : (file : Option ClassFile) → slice_get classes.folder at.class ≡ file
      → option_and_then (λ (file : ClassFile). option_and_then (scope_of (headers_of classes) file) (slice_get file.methods at.method)) file
      ≡ Some s
      → IsScopeAt classes at s
  of_file None of_folder is = absurd (none-some s is)
  of_file (Some file) of_folder is = of_method file of_folder (slice_get file.methods at.method) refl is

  pub scope_is_at : scope_at classes at ≡ Some s → IsScopeAt classes at s
  scope_is_at is = of_file (slice_get classes.folder at.class) refl is
