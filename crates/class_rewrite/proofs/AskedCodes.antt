-- What a class file was asked of the Code of one of its methods.
use Rattle.std.proofs.Common.{◌≡◌, ◌≤◌, ◌+◌, ℕ, zero, suc, Bool, List, [], ◌∷◌, ◌++◌, length, slice_get, Some, IfSome, IsSome, subst}
use Rattle.std.specs.List.{AllByRecursion}
use Rattle.std.specs.Prelude.{IsFalse}
use Rattle.std.proofs.lemmas.Option.{none-some, same_Some}
use Rattle.class_model.specs.Checks.{AllHold, asked_if, check}
use Rattle.class_model.specs.ClassOf.{methods_checks}
use Rattle.class_model.specs.Laws.Checks.{first_holds, others_hold}
use Rattle.class_model.specs.Members.{Signature, attrs_checks, has_named}
use Rattle.class_model.specs.MethodCode.{code_of}
use Rattle.class_model.specs.Methods.{Home, code, code_content, content_checks, method_attr_checks, method_checks, method_signature, units_at_call}
use Rattle.class_model.specs.PoolChecks.{utf8_at}
use Rattle.class_model.specs.Spelling.{attr_bytes, method_bytes}
use Rattle.class_model.specs.Values.{IsParted, MethodIsParted}
use Rattle.class_model.specs.declared.class_file.Attr.{Attr}
use Rattle.class_model.specs.declared.class_file.Attr.TheVariants.{Code, Raw}
use Rattle.class_model.specs.declared.class_file.CodePart.{CodePart}
use Rattle.class_model.specs.declared.class_file.Method.{Method}
use Rattle.class_model.specs.declared.fault.FileRule.TheVariants as rules

module _ (home : Home) where
  -- it has its descriptor, and room for its arguments
  pub record HasRoom (method : Method) (part : CodePart) : Type 0 where
    pub there : IsSome (utf8_at home.pool method.desc)
    pub units : IfSome (utf8_at home.pool method.desc) (λ text. units_at_call method.flags text ≤ part.max_locals)

  attrs_asked : (method : Method) (part : CodePart) (before : List Attr) (at : ℕ) (attrs : List Attr)
      → AllHold (attrs_checks (method_attr_checks home method) before at attrs)
      → AllByRecursion (IsParted home.pool) attrs
      → code_of attrs ≡ Some part
      → IfSome (utf8_at home.pool method.desc) (λ text. units_at_call method.flags text ≤ part.max_locals)
  attrs_asked method part before at [] h parted is = absurd (none-some part is)
  attrs_asked method part before at (Raw name bytes ∷ attrs) h parted is =
      let attr : Attr = Raw name bytes in
      attrs_asked method part (before ++ attr ∷ []) (at + length (attr_bytes attr)) attrs
      (others_hold (method_attr_checks home method before at attr) (attrs_checks (method_attr_checks home method) (before ++ attr ∷ []) (at + length (attr_bytes attr)) attrs) h)
      parted.1 is
  attrs_asked method part before at (Code name own ∷ attrs) h parted is =
      let attr : Attr = Code name own in
      let one = first_holds (method_attr_checks home method before at attr) (attrs_checks (method_attr_checks home method) (before ++ attr ∷ []) (at + length (attr_bytes attr)) attrs) h in
      let asked = subst (λ (b : Bool). AllHold (asked_if b (check at rules.Twice (IsFalse (has_named home.pool code before)) ∷ content_checks home method at (code_content attr)))) parted.0 one.1 in
      subst (λ (q : CodePart). IfSome (utf8_at home.pool method.desc) (λ text. units_at_call method.flags text ≤ q.max_locals)) (same_Some own part is) asked.1.1.0

  pub methods_asked : (before : List Signature) (at : ℕ) (methods : List Method) (number : ℕ) (method : Method) (part : CodePart)
      → AllHold (methods_checks home before at methods)
      → AllByRecursion (MethodIsParted home.pool) methods
      → slice_get methods number ≡ Some method
      → code_of method.attrs ≡ Some part
      → HasRoom method part
  methods_asked before at [] number method part h parted got is = absurd (none-some method got)
  methods_asked before at (first ∷ methods) zero method part h parted got is =
      let next = before ++ method_signature first ∷ [] in
      let own = first_holds (method_checks home before at first) (methods_checks home next (at + length (method_bytes first)) methods) h in
      let same = same_Some first method got in
      subst (λ (m : Method). code_of m.attrs ≡ Some part → HasRoom m part) same (λ is. record {
        there = own.1.1.1.1.1.1.0;
        units = attrs_asked first part [] (at + 8) first.attrs own.1.1.1.1.1.1.1.1 parted.0 is;
      }) is
  methods_asked before at (first ∷ methods) (suc number) method part h parted got is =
      let next = before ++ method_signature first ∷ [] in
      methods_asked next (at + length (method_bytes first)) methods number method part
      (others_hold (method_checks home before at first) (methods_checks home next (at + length (method_bytes first)) methods) h) parted.1 got is
