-- Each method of a tree that has code was read.
use Rattle.std.proofs.Common.{◌≡◌, ℕ, List, slice_get, Option, Some, None, option_map, option_and_then, refl, subst}
use Rattle.std.specs.List.{AllByRecursion}
use Rattle.std.proofs.lemmas.Option.{none-some, same_Some}
use Rattle.class_model.specs.ClassOf.{ClassOf}
use Rattle.class_model.specs.Laws.Lists.{at_index}
use Rattle.class_model.specs.MethodCode.{code_of}
use Rattle.class_model.specs.Spelling.{class_bytes}
use Rattle.class_model.specs.declared.class_file.ClassFile.{ClassFile}
use Rattle.class_model.specs.declared.class_file.CodePart.{CodePart}
use Rattle.class_model.specs.declared.class_file.Method.{Method}
use Rattle.class_model.specs.declared.class_file.MethodAt.{MethodAt}
use Rattle.class_tree.specs.Headers.{Classes, Headers, IsClassFile, headers_of}
use Rattle.code_bytes.specs.Codes.{HasReadMethods, IsReadMethod}
use Rattle.member_link.specs.Scope.{Scope, scope_at, scope_of}

abbrev WasRead : Scope → Type 0
WasRead s = IsReadMethod s.class.pool s.method

of_code : (headers : Headers) (class : ClassFile) (method : Method) (s : Scope) → IsReadMethod class.pool method → (part : Option CodePart) → option_map (λ (p : CodePart). record { headers = headers; class = class; method = method; part = p }) part ≡ Some s → WasRead s
of_code headers class method s read (Some part) is = subst WasRead (same_Some (record { headers = headers; class = class; method = method; part = part }) s is) read
of_code headers class method s read None is = absurd (none-some s is)

pub method_was_read :
    (classes : Classes)
    → AllByRecursion IsClassFile classes.folder
    → ((bytes : List ℕ) (class : ClassFile) → ClassOf bytes class → HasReadMethods class)
    → (at : MethodAt) (s : Scope)
    → scope_at classes at ≡ Some s
    → IsReadMethod s.class.pool s.method
method_was_read classes files law at s is = of_class (slice_get classes.folder at.class) refl is
  where
    of_method : (class : ClassFile) → HasReadMethods class → (method : Option Method) → slice_get class.methods at.method ≡ method → option_and_then (scope_of (headers_of classes) class) method ≡ Some s → WasRead s
    of_method class read None at_method is = absurd (none-some s is)
    of_method class read (Some method) at_method is = of_code (headers_of classes) class method s (at_index (IsReadMethod class.pool) class.methods at.method method read at_method) (code_of method.attrs) is

    of_class : (class : Option ClassFile) → slice_get classes.folder at.class ≡ class → option_and_then (λ (c : ClassFile). option_and_then (scope_of (headers_of classes) c) (slice_get c.methods at.method)) class ≡ Some s → WasRead s
    of_class None at_class is = absurd (none-some s is)
    of_class (Some class) at_class is = of_method class (law (class_bytes class) class (at_index IsClassFile classes.folder at.class class files at_class)) (slice_get class.methods at.method) refl is
