-- The local units of a method that was read hold its arguments.
use Rattle.std.proofs.Common.{◌≡◌, ◌+◌, ◌≤◌, ℕ, Bool, true, false, List, [], ◌∷◌, ◌++◌, length, map, Option, Some, None, IfSome, IsSome, IsFalse, refl, sym, subst}
use Rattle.std.specs.List.{AllByRecursion}
use Rattle.class_model.specs.Checks.{AllHold, Check, Fault, asked_if, check}
use Rattle.class_model.specs.ClassOf.{ClassOf, entered_attr, entered_method, methods_checks}
use Rattle.class_model.specs.Code.{code_part}
use Rattle.class_model.specs.Laws.Checks.{first_holds, others_hold}
use Rattle.class_model.specs.Laws.ClassFiles.{methods_place, parts_hold}
use Rattle.class_model.specs.Laws.Codes.{code_has}
use Rattle.class_model.specs.Laws.Lists.{at_index}
use Rattle.class_model.specs.Members.{Signature, attrs_checks, has_named, is_named}
use Rattle.class_model.specs.Methods.{Home, code, content_checks, home_of, method_attr_checks, method_checks, method_signature, units_at_call}
use Rattle.class_model.specs.Pool.{Constants}
use Rattle.class_model.specs.PoolChecks.{text_or_empty, utf8_at}
use Rattle.class_model.specs.Spelling.{attr_bytes, class_bytes, method_bytes}
use Rattle.class_model.specs.Values.{IsRaw}
use Rattle.class_model.specs.declared.class_file.Attr.{Attr}
use Rattle.class_model.specs.declared.class_file.Attr.TheVariants.{Code, Raw}
use Rattle.class_model.specs.declared.class_file.ClassFile.{ClassFile}
use Rattle.class_model.specs.declared.class_file.CodePart.{CodePart}
use Rattle.class_model.specs.declared.class_file.Method.{Method}
use Rattle.class_model.specs.declared.class_file.MethodAt.{MethodAt}
use Rattle.class_model.specs.declared.fault.FileRule.TheVariants as rules
use Rattle.class_tree.specs.Headers.{Classes, IsClassFile}
use Rattle.code_bytes.specs.Codes.{HasReadMethods}
use Rattle.expanded_code.specs.Laws.CutMethods.{AreRaw, class_cut}
use Rattle.inline_expand.proofs.ReadMethods.{method_was_read}
use Rattle.member_link.specs.Laws.Scopes.{scope_is_at}
use Rattle.inline_expand.specs.Inner.Steps.{IsCallable}
use Rattle.member_link.specs.Scope.{Scope, own_descriptor, scope_at}

-- ---- the code of a method

abbrev HasCallUnits : Constants → ℕ → ℕ → Attr → Type 0
HasCallUnits pool flags desc (Code name part) = IfSome (utf8_at pool desc) (λ text. units_at_call flags text ≤ part.max_locals)
HasCallUnits pool flags desc (Raw name bytes) = Unit {0}

-- what is asked of the content of an attribute that is named Code
abbrev named_checks : Home → Method → List Attr → ℕ → Option CodePart → List (Check Fault)
named_checks home method before at content = check at rules.Twice (IsFalse (has_named home.pool code before)) ∷ content_checks home method at content

attr_has : (home : Home) (method : Method) (before : List Attr) (at : ℕ) (attr : Attr) → IsRaw attr → AllHold (method_attr_checks home method before at attr)
    → HasCallUnits home.pool method.flags method.desc (entered_attr home.pool attr)
attr_has home method before at (Code name part) raw hold = absurd raw
attr_has home method before at (Raw name bytes) raw hold = by (is_named home.pool code (Raw name bytes)) refl hold.1 where
  of_content : (content : Option CodePart) → code_part bytes ≡ content → is_named home.pool code (Raw name bytes) ≡ true → AllHold (named_checks home method before at content)
      → HasCallUnits home.pool method.flags method.desc (entered_attr home.pool (Raw name bytes))
  of_content None is named h = absurd h.1.0
  of_content (Some part) is named h = rw (named, is) h.1.1.0

  by : (named : Bool) → is_named home.pool code (Raw name bytes) ≡ named → AllHold (asked_if named (named_checks home method before at (code_part bytes)))
      → HasCallUnits home.pool method.flags method.desc (entered_attr home.pool (Raw name bytes))
  by true is h = of_content (code_part bytes) refl is h
  by false is h = rw is tt

attrs_have : (home : Home) (method : Method) (before : List Attr) (at : ℕ) (attrs : List Attr) → AllByRecursion IsRaw attrs → AllHold (attrs_checks (method_attr_checks home method) before at attrs)
    → AllByRecursion (HasCallUnits home.pool method.flags method.desc) (map (entered_attr home.pool) attrs)
attrs_have home method before at [] raw hold = tt
attrs_have home method before at (attr ∷ attrs) raw hold =
    let own = method_attr_checks home method before at attr in
    let others = attrs_checks (method_attr_checks home method) (before ++ attr ∷ []) (at + length (attr_bytes attr)) attrs in (
      attr_has home method before at attr raw.0 (first_holds own others hold),
      attrs_have home method (before ++ attr ∷ []) (at + length (attr_bytes attr)) attrs raw.1 (others_hold own others hold),
    )

-- ---- the methods of a class file

abbrev MethodHas : Constants → Method → Type 0
MethodHas pool method = AllByRecursion (HasCallUnits pool method.flags method.desc) method.attrs

methods_have : (home : Home) (before : List Signature) (at : ℕ) (methods : List Method) → AllByRecursion AreRaw methods → AllHold (methods_checks home before at methods)
    → AllByRecursion (MethodHas home.pool) (map (entered_method home.pool) methods)
methods_have home before at [] raw hold = tt
methods_have home before at (method ∷ methods) raw hold =
    let own = method_checks home before at method in
    let others = methods_checks home (before ++ method_signature method ∷ []) (at + length (method_bytes method)) methods in (
      attrs_have home method [] (at + 8) method.attrs raw.0 (first_holds own others hold).1.1.1.1.1.1.1.1,
      methods_have home (before ++ method_signature method ∷ []) (at + length (method_bytes method)) methods raw.1 (others_hold own others hold),
    )

class_has : (bytes : List ℕ) (class : ClassFile) → ClassOf bytes class → AllByRecursion (MethodHas class.pool) class.methods
class_has bytes class is =
    let c = is.cut in
    subst (λ (f : ClassFile). AllByRecursion (MethodHas f.pool) f.methods) (sym is.is)
    (methods_have (home_of c) [] (methods_place c + 2) c.methods (class_cut is.version is.rest c is.is_cut) (parts_hold c is.holds).methods)

-- ---- a method by its numbers

abbrev HasUnitsAtCall : Scope → Type 0
HasUnitsAtCall s = IfSome (utf8_at s.class.pool s.method.desc) (λ text. units_at_call s.method.flags text ≤ s.part.max_locals)

units_there : (classes : Classes) → AllByRecursion IsClassFile classes.folder → (at : MethodAt) (s : Scope) → scope_at classes at ≡ Some s → HasUnitsAtCall s
units_there classes files at s is =
    let parts = scope_is_at classes at s is in
    let methods = class_has (class_bytes s.class) s.class (at_index IsClassFile classes.folder at.class s.class files parts.of_folder) in
    code_has (HasCallUnits s.class.pool s.method.flags s.method.desc) (λ (p : CodePart). IfSome (utf8_at s.class.pool s.method.desc) (λ text. units_at_call s.method.flags text ≤ p.max_locals)) (λ name p h. h) s.method.attrs s.part
    (at_index (MethodHas s.class.pool) s.class.methods at.method s.method methods parts.of_class) parts.has_code

fits_call : (s : Scope) → IsSome (utf8_at s.class.pool s.method.desc) → HasUnitsAtCall s → units_at_call s.method.flags (own_descriptor s) ≤ s.part.max_locals
fits_call s there has = by (utf8_at s.class.pool s.method.desc) there has where
  by : (text : Option (List ℕ)) → IsSome text → IfSome text (λ own. units_at_call s.method.flags own ≤ s.part.max_locals) → units_at_call s.method.flags (text_or_empty text) ≤ s.part.max_locals
  by None there has = absurd cc
  by (Some text) there has = has

pub is_callable : (classes : Classes) → AllByRecursion IsClassFile classes.folder → ((bytes : List ℕ) (class : ClassFile) → ClassOf bytes class → HasReadMethods class)
    → (at : MethodAt) (s : Scope) → scope_at classes at ≡ Some s → IsCallable s
is_callable classes files law at s is =
    let read = method_was_read classes files law at s is in
    record { read = read; fits = fits_call s read.there (units_there classes files at s is) }
