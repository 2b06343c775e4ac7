-- The arguments of a method of a class file fit into the local units of its code, as its class file was asked.
use Rattle.std.proofs.Common.{◌≡◌, ◌≤◌, ◌+◌, ℕ, Bool, true, false, List, [], ◌∷◌, ◌++◌, length, map, slice_get, Option, Some, None, IfSome, IsFalse, IsSome, refl, sym, subst}
use Rattle.std.specs.List.{AllByRecursion}
use Rattle.std.proofs.lemmas.Bool.{false≢true}
use Rattle.class_model.specs.Checks.{AllHold, Check, Fault, asked_if, check}
use Rattle.class_model.specs.ClassOf.{ClassOf, entered_attr, entered_method, methods_checks}
use Rattle.class_model.specs.Code.{code_part}
use Rattle.class_model.specs.Laws.Checks.{first_holds, others_hold}
use Rattle.class_model.specs.Laws.ClassFiles.{methods_place, parts_hold}
use Rattle.class_model.specs.Laws.Codes.{code_has}
use Rattle.class_model.specs.Laws.Lists.{at_index}
use Rattle.class_model.specs.Members.{Signature, attrs_checks, has_named, is_named}
use Rattle.class_model.specs.MethodCode.{code_of}
use Rattle.class_model.specs.Methods.{Home, code, content_checks, home_of, method_attr_checks, method_checks, method_signature, units_at_call}
use Rattle.class_model.specs.Pool.{Constants}
use Rattle.class_model.specs.PoolChecks.{text_or_empty, utf8_at}
use Rattle.class_model.specs.Spelling.{attr_bytes, class_bytes, method_bytes}
use Rattle.class_model.specs.Values.{IsRaw}
use Rattle.class_model.specs.declared.class_file.Attr.{Attr}
use Rattle.class_model.specs.declared.class_file.Attr.TheVariants.{Code, Raw}
use Rattle.class_model.specs.declared.class_file.ClassFile.{ClassFile}
use Rattle.class_model.specs.declared.class_file.CodePart.{CodePart}
use Rattle.class_model.specs.declared.class_file.Method.{Method}
use Rattle.class_model.specs.declared.fault.FileRule.TheVariants as rules
use Rattle.class_tree.specs.Headers.{IsClassFile}
use Rattle.expanded_code.specs.Laws.CutMethods.{AreRaw, class_cut}

-- ---- what the code of a method was asked

-- the units at a call fit into the local units of a code
abbrev HasRoom : Option (List ℕ) → ℕ → Attr → Type 0
HasRoom desc flags (Raw name bytes) = Unit {0}
HasRoom desc flags (Code name part) = IfSome desc (λ text. units_at_call flags text ≤ part.max_locals)

abbrev named_checks : Home → Method → List Attr → ℕ → Option CodePart → List (Check Fault)
named_checks home method before at content =
    check at rules.Twice (IsFalse (has_named home.pool code before)) ∷ content_checks home method at content

attr_room : (home : Home) (method : Method) (before : List Attr) (at : ℕ) (attr : Attr) → IsRaw attr
    → AllHold (method_attr_checks home method before at attr)
    → HasRoom (utf8_at home.pool method.desc) method.flags (entered_attr home.pool attr)
attr_room home method before at (Code name part) raw hold = absurd raw
attr_room home method before at (Raw name bytes) raw hold = by (is_named home.pool code (Raw name bytes)) refl hold.1 where
  of_content : (content : Option CodePart) → code_part bytes ≡ content → is_named home.pool code (Raw name bytes) ≡ true
      → AllHold (named_checks home method before at content)
      → HasRoom (utf8_at home.pool method.desc) method.flags (entered_attr home.pool (Raw name bytes))
  of_content None is named h = absurd h.1.0
  of_content (Some part) is named h = rw (named, is) (h.1.1.0)

  by : (named : Bool) → is_named home.pool code (Raw name bytes) ≡ named
      → AllHold (asked_if named (named_checks home method before at (code_part bytes)))
      → HasRoom (utf8_at home.pool method.desc) method.flags (entered_attr home.pool (Raw name bytes))
  by true is h = of_content (code_part bytes) refl is h
  by false is h = rw is tt

attrs_room : (home : Home) (method : Method) (before : List Attr) (at : ℕ) (attrs : List Attr) → AllByRecursion IsRaw attrs
    → AllHold (attrs_checks (method_attr_checks home method) before at attrs)
    → AllByRecursion (HasRoom (utf8_at home.pool method.desc) method.flags) (map (entered_attr home.pool) attrs)
attrs_room home method before at [] raw hold = tt
attrs_room home method before at (attr ∷ attrs) raw hold =
    let own = method_attr_checks home method before at attr in
    let others = attrs_checks (method_attr_checks home method) (before ++ attr ∷ []) (at + length (attr_bytes attr)) attrs in (
      attr_room home method before at attr raw.0 (first_holds own others hold),
      attrs_room home method (before ++ attr ∷ []) (at + length (attr_bytes attr)) attrs raw.1 (others_hold own others hold),
    )

abbrev MethodHasRoom : Constants → Method → Type 0
MethodHasRoom pool method =
    IsSome (utf8_at pool method.desc) × AllByRecursion (HasRoom (utf8_at pool method.desc) method.flags) method.attrs

methods_room : (home : Home) (before : List Signature) (at : ℕ) (methods : List Method) → AllByRecursion AreRaw methods
    → AllHold (methods_checks home before at methods)
    → AllByRecursion (MethodHasRoom home.pool) (map (entered_method home.pool) methods)
methods_room home before at [] raw hold = tt
methods_room home before at (method ∷ methods) raw hold =
    let own = method_checks home before at method in
    let others = methods_checks home (before ++ method_signature method ∷ []) (at + length (method_bytes method)) methods in
    let here = first_holds own others hold in (
      (here.1.1.1.1.1.1.0, attrs_room home method [] (at + 8) method.attrs raw.0 here.1.1.1.1.1.1.1.1),
      methods_room home (before ++ method_signature method ∷ []) (at + length (method_bytes method)) methods raw.1 (others_hold own others hold),
    )

class_room : (bytes : List ℕ) (class : ClassFile) → ClassOf bytes class → AllByRecursion (MethodHasRoom class.pool) class.methods
class_room bytes class is =
    let c = is.cut in
    subst (λ (k : ClassFile). AllByRecursion (MethodHasRoom k.pool) k.methods) (sym is.is)
    (methods_room (home_of c) [] (methods_place c + 2) c.methods (class_cut is.version is.rest c is.is_cut) (parts_hold c is.holds).methods)

-- The units that a method's arguments take at a call fit into the local units of its code.
pub arguments_fit : (class : ClassFile) (number : ℕ) (method : Method) (part : CodePart) → IsClassFile class
    → slice_get class.methods number ≡ Some method
    → code_of method.attrs ≡ Some part
    → units_at_call method.flags (text_or_empty (utf8_at class.pool method.desc)) ≤ part.max_locals
arguments_fit class number method part is there has =
    let room = at_index (MethodHasRoom class.pool) class.methods number method (class_room (class_bytes class) class is) there in
    by (utf8_at class.pool method.desc) room.0
    (code_has (HasRoom (utf8_at class.pool method.desc) method.flags)
    (λ (p : CodePart). IfSome (utf8_at class.pool method.desc) (λ text. units_at_call method.flags text ≤ p.max_locals))
    (λ name p room. room) method.attrs part room.1 has) where
      by : (desc : Option (List ℕ)) → IsSome desc → IfSome desc (λ text. units_at_call method.flags text ≤ part.max_locals)
          → units_at_call method.flags (text_or_empty desc) ≤ part.max_locals
      by None some fits = absurd (false≢true some)
      by (Some text) some fits = fits
