-- Fields and methods of a written class pass the checks of a class file.
use Rattle.std.proofs.Common.{◌≡◌, ◌+◌, ◌&&◌, ◌||◌, not, ℕ, Bool, true, false, List, [], ◌∷◌, ◌++◌, length, map, refl, sym, ap, subst, ◌∙◌, append-nil, append_assoc}
use Rattle.std.specs.List.{AllByRecursion}
use Rattle.std.specs.Prelude.{IsFalse, IsTrue}
use Rattle.std.proofs.lemmas.Bool.{false≢true}
use Rattle.std.proofs.lemmas.List.Folds.{list_any-append}
use Rattle.class_model.specs.Checks.{AllHold, Check, Fault, asked_if, check}
use Rattle.class_model.specs.ClassOf.{fields_checks, methods_checks}
use Rattle.class_model.specs.Laws.Checks.{both_hold, first_holds, others_hold}
use Rattle.class_model.specs.Members.{INTERFACE, PRIVATE, PROTECTED, PUBLIC, STATIC, IsConstantValue, Signature, attr_name_check, attrs_checks, constant_value, field_attr_checks, field_checks, field_signature, fits_field, has, has_named, is_named, one_visibility, raw_content}
use Rattle.class_model.specs.Methods.{Home, code, code_content, content_checks, method_attr_checks, method_checks, method_signature, part_checks}
use Rattle.class_model.specs.Pool.{Constants}
use Rattle.class_model.specs.PoolChecks.{utf8_at}
use Rattle.class_model.specs.Spelling.{attr_bytes, field_bytes, method_bytes}
use Rattle.class_model.specs.Values.{IsParted, MethodIsParted}
use Rattle.class_model.specs.declared.class_file.Attr.{Attr}
use Rattle.class_model.specs.declared.class_file.Attr.TheVariants.{Raw, Code}
use Rattle.class_model.specs.declared.class_file.CodePart.{CodePart}
use Rattle.class_model.specs.declared.class_file.Field.{Field}
use Rattle.class_model.specs.declared.class_file.Method.{Method}
use Rattle.class_model.specs.declared.fault.FileRule.TheVariants as rules
use Rattle.written_files.proofs.WrittenClasses.Flags.{protected_stays, public_stays, static_stays, was_private}
use Rattle.member_link.specs.Machine.Replaced.{without_flags}
use Rattle.type_rules.specs.Grown.{AreGrownFields, IsGrownField}
use Rattle.written_files.specs.WrittenClasses.{AreKeptMethods, IsCodeFor, IsKeptMethod, kept_as_it_was, kept_with_code, with_code}

-- ---- fields

module _ (pool : Constants) (class_flags : ℕ) where
  -- the attributes of a field of this descriptor, which is static or not
  abbrev asks : ℕ → Bool → List Attr → ℕ → Attr → List (Check Fault)
  asks desc static before at attr =
      attr_name_check pool at attr
      ∷ asked_if (static && is_named pool constant_value attr)
      (check at rules.Twice (IsFalse (has_named pool constant_value before))
      ∷ check at rules.Constant (IsConstantValue pool (utf8_at pool desc) (raw_content attr))
      ∷ [])

  visible : (a b c d e : Bool) → (d ≡ true → c ≡ true)
      → (not ((a && c) || ((a && b) || (c && b))) && e) ≡ true
      → (not ((a && d) || ((a && b) || (d && b))) && e) ≡ true
  visible a b c false true to is = elim a as (λ a. (not ((a && c) || ((a && b) || (c && b))) && true) ≡ true → (not ((a && false) || ((a && b) || (false && b))) && true) ≡ true) [
    | true ↦ elim b as (λ b. (not ((true && c) || ((true && b) || (c && b))) && true) ≡ true → (not ((true && false) || ((true && b) || (false && b))) && true) ≡ true) [ true ↦ elim c as (λ c. (not ((true && c) || ((true && true) || (c && true))) && true) ≡ true → (not ((true && false) || ((true && true) || (false && true))) && true) ≡ true) [ true ↦ λ e. e | false ↦ λ e. e ] | false ↦ λ e. refl ]
    | false ↦ λ e. refl
  ] is
  visible a b c d false to is = absurd (and_false (not ((a && c) || ((a && b) || (c && b)))) is) where
    and_false : (x : Bool) → (x && false) ≡ true → ⊥
    and_false true e = false≢true e
    and_false false e = false≢true e
  visible a b true true true to is = is
  visible a b false true true to is = absurd (false≢true (to refl))

  field_holds : (before : List Signature) (at : ℕ) (field : Field) (cleared : ℕ)
      → AllHold (field_checks pool class_flags before at field)
      → AllHold (field_checks pool class_flags before at (record field { flags = without_flags field.flags cleared }))
  field_holds before at field cleared h =
      let flags = without_flags field.flags cleared in
      let public = public_stays field.flags cleared in
      let protected = protected_stays field.flags cleared in
      let static = static_stays field.flags cleared in
      let fits : fits_field class_flags flags ≡ true =
      subst (λ (x : Bool). (not ((x && has flags PRIVATE) || ((x && has flags PROTECTED) || (has flags PRIVATE && has flags PROTECTED))) && (not (has class_flags INTERFACE) || has flags STATIC)) ≡ true) (sym public)
      (subst (λ (x : Bool). (not ((has field.flags PUBLIC && has flags PRIVATE) || ((has field.flags PUBLIC && x) || (has flags PRIVATE && x))) && (not (has class_flags INTERFACE) || has flags STATIC)) ≡ true) (sym protected)
      (subst (λ (x : Bool). (not ((has field.flags PUBLIC && has flags PRIVATE) || ((has field.flags PUBLIC && has field.flags PROTECTED) || (has flags PRIVATE && has field.flags PROTECTED))) && (not (has class_flags INTERFACE) || x)) ≡ true) (sym static)
      (visible (has field.flags PUBLIC) (has field.flags PROTECTED) (has field.flags PRIVATE) (has flags PRIVATE) (not (has class_flags INTERFACE) || has field.flags STATIC)
      (was_private field.flags cleared) h.0))) in (
        fits,
        (
          h.1.0,
          (
            h.1.1.0,
            (
              h.1.1.1.0,
              (
                h.1.1.1.1.0,
                (
                  h.1.1.1.1.1.0,
                  subst (λ (x : Bool). AllHold (attrs_checks (asks field.desc x) [] (at + 8) field.attrs)) (sym static) h.1.1.1.1.1.1,
                ),
              ),
            ),
          ),
        ),
      )

  pub fields_hold : (before : List Signature) (at : ℕ) (fields news : List Field)
      → AreGrownFields fields news
      → AllHold (fields_checks pool class_flags before at fields)
      → AllHold (fields_checks pool class_flags before at news)
  fields_hold before at [] [] grown h = tt
  fields_hold before at [] (new ∷ news) grown h = absurd grown
  fields_hold before at (field ∷ fields) [] grown h = absurd grown
  fields_hold before at (field ∷ fields) (new ∷ news) grown h =
      let first = field_checks pool class_flags before at field in
      let next = before ++ field_signature field ∷ [] in
      let rest = fields_checks pool class_flags next (at + length (field_bytes field)) fields in
      let also : Field = record field { flags = without_flags field.flags grown.0.cleared } in
      subst (λ (x : Field). AllHold (fields_checks pool class_flags before at (x ∷ news))) (sym grown.0.rest)
      (both_hold (field_checks pool class_flags before at also) (fields_checks pool class_flags next (at + length (field_bytes field)) news)
      (field_holds before at field grown.0.cleared (first_holds first rest h))
      (fields_hold next (at + length (field_bytes field)) fields news grown.1 (others_hold first rest h)))

-- ---- methods

named_with : (pool : Constants) (name : List ℕ) (part : CodePart) (attrs : List Attr)
    → has_named pool name (with_code part attrs) ≡ has_named pool name attrs
named_with pool name part [] = refl
named_with pool name part (Raw index bytes ∷ attrs) =
    ap (λ (b : Bool). is_named pool name (Raw index bytes) || b) (named_with pool name part attrs)
named_with pool name part (Code index old ∷ attrs) =
    ap (λ (b : Bool). is_named pool name (Code index old) || b) (named_with pool name part attrs)

-- what is asked of methods does not depend on the place of the first
abbrev pub MovesMethods : Type 0
MovesMethods =
    (home : Home) (at other : ℕ) (methods : List Method) → AllHold (methods_checks home [] at methods)
    → AllHold (methods_checks home [] other methods)

module _ (home : Home) where
  named_more : (before others : List Attr) (one other : Attr)
      → has_named home.pool code others ≡ has_named home.pool code before
      → is_named home.pool code other ≡ is_named home.pool code one
      → has_named home.pool code (others ++ other ∷ []) ≡ has_named home.pool code (before ++ one ∷ [])
  named_more before others one other same alike =
      list_any-append (is_named home.pool code) others (other ∷ [])
      ∙ rw (same, alike) (sym (list_any-append (is_named home.pool code) before (one ∷ [])))

  module _ (old : Method) (part : CodePart) (is : IsCodeFor home old part) where
    abbrev new : Method
    new = record old { attrs = with_code part old.attrs }

    attrs_hold : (before others : List Attr) (at other : ℕ) (attrs : List Attr)
        → has_named home.pool code others ≡ has_named home.pool code before
        → AllByRecursion (IsParted home.pool) attrs
        → AllHold (attrs_checks (method_attr_checks home old) before at attrs)
        → AllHold (attrs_checks (method_attr_checks home new) others other (with_code part attrs))
    attrs_hold before others at other [] same parted h = tt
    attrs_hold before others at other (Raw name bytes ∷ attrs) same parted h =
        let attr : Attr = Raw name bytes in
        let first = method_attr_checks home old before at attr in
        let rest = attrs_checks (method_attr_checks home old) (before ++ attr ∷ []) (at + length (attr_bytes attr)) attrs in
        let own = first_holds first rest h in
        both_hold (method_attr_checks home new others other attr) (attrs_checks (method_attr_checks home new) (others ++ attr ∷ []) (other + length (attr_bytes attr)) (with_code part attrs))
        (own.0, subst (λ (b : Bool). AllHold (asked_if b (check other rules.Twice (IsFalse (has_named home.pool code others)) ∷ content_checks home new other (code_content attr)))) (sym parted.0) tt)
        (attrs_hold (before ++ attr ∷ []) (others ++ attr ∷ []) (at + length (attr_bytes attr)) (other + length (attr_bytes attr)) attrs (named_more before others attr attr same refl) parted.1 (others_hold first rest h))
    attrs_hold before others at other (Code name given ∷ attrs) same parted h =
        let attr : Attr = Code name given in
        let made : Attr = Code name part in
        let first = method_attr_checks home old before at attr in
        let rest = attrs_checks (method_attr_checks home old) (before ++ attr ∷ []) (at + length (attr_bytes attr)) attrs in
        let own = first_holds first rest h in
        let asked = subst (λ (b : Bool). AllHold (asked_if b (check at rules.Twice (IsFalse (has_named home.pool code before)) ∷ content_checks home old at (code_content attr)))) parted.0 own.1 in
        both_hold (method_attr_checks home new others other made) (attrs_checks (method_attr_checks home new) (others ++ made ∷ []) (other + length (attr_bytes made)) (with_code part attrs))
        (own.0, subst (λ (b : Bool). AllHold (asked_if b (check other rules.Twice (IsFalse (has_named home.pool code others)) ∷ content_checks home new other (code_content made)))) (sym parted.0) (same ∙ asked.0, is.passes other))
        (attrs_hold (before ++ attr ∷ []) (others ++ made ∷ []) (at + length (attr_bytes attr)) (other + length (attr_bytes made)) attrs (named_more before others attr made same refl) parted.1 (others_hold first rest h))

    method_holds : (before : List Signature) (at other : ℕ)
        → MethodIsParted home.pool old
        → AllHold (method_checks home before at old)
        → AllHold (method_checks home before other new)
    method_holds before at other parted h = (
      rw (named_with home.pool code part old.attrs) h.0,
      (
        h.1.0,
        (
          rw (named_with home.pool code part old.attrs) h.1.1.0,
          (
            rw (named_with home.pool code part old.attrs) h.1.1.1.0,
            (
              h.1.1.1.1.0,
              (
                h.1.1.1.1.1.0,
                (
                  h.1.1.1.1.1.1.0,
                  (
                    h.1.1.1.1.1.1.1.0,
                    attrs_hold [] [] (at + 8) (other + 8) old.attrs refl parted h.1.1.1.1.1.1.1.1,
                  ),
                ),
              ),
            ),
          ),
        ),
      ),
    )

  module _ (moves : MovesMethods) where
    method_moves : (before : List Signature) (at other : ℕ) (method : Method)
        → AllHold (method_checks home before at method)
        → AllHold (method_checks home before other method)
    method_moves before at other method h =
        let alone : AllHold (method_checks home [] at method) = (h.0, (refl, h.1.1)) in
        let moved = first_holds (method_checks home [] other method) [] (moves home at other (method ∷ []) (both_hold (method_checks home [] at method) [] alone tt)) in
        (moved.0, (h.1.0, moved.1.1))

    first_of_both : (before : List Signature) (at other : ℕ) (old new : Method) (news : List Method)
        → MethodIsParted home.pool old
        → IsKeptMethod home old new
        → AllHold (method_checks home before at old)
        → ((place : ℕ) → AllHold (methods_checks home (before ++ method_signature old ∷ []) place news))
        → AllHold (methods_checks home before other (new ∷ news))
    first_of_both before at other old _ news parted kept_as_it_was h rest =
        both_hold (method_checks home before other old) (methods_checks home (before ++ method_signature old ∷ []) (other + length (method_bytes old)) news)
        (method_moves before at other old h) (rest (other + length (method_bytes old)))
    first_of_both before at other old _ news parted (kept_with_code part is) h rest =
        let new : Method = record old { attrs = with_code part old.attrs } in
        both_hold (method_checks home before other new) (methods_checks home (before ++ method_signature old ∷ []) (other + length (method_bytes new)) news)
        (method_holds old part is before at other parted h) (rest (other + length (method_bytes new)))

    pub methods_hold : (before : List Signature) (at other : ℕ) (olds news : List Method)
        → AllByRecursion (MethodIsParted home.pool) olds
        → AreKeptMethods home olds news
        → AllHold (methods_checks home before at olds)
        → AllHold (methods_checks home before other news)
    methods_hold before at other [] [] parted kept h = tt
    methods_hold before at other [] (given ∷ news) parted kept h = absurd kept
    methods_hold before at other (old ∷ olds) [] parted kept h = absurd kept
    methods_hold before at other (old ∷ olds) (given ∷ news) parted kept h =
        let first = method_checks home before at old in
        let rest = methods_checks home (before ++ method_signature old ∷ []) (at + length (method_bytes old)) olds in
        first_of_both before at other old given news parted.0 kept.0 (first_holds first rest h)
        (λ place. methods_hold (before ++ method_signature old ∷ []) (at + length (method_bytes old)) place olds news parted.1 kept.1 (others_hold first rest h))

-- methods that are added behind others
pub methods_both : (home : Home) (before : List Signature) (at : ℕ) (methods added : List Method)
    → AllHold (methods_checks home before at methods)
    → ((at : ℕ) → AllHold (methods_checks home (before ++ map method_signature methods) at added))
    → AllHold (methods_checks home before at (methods ++ added))
methods_both home before at [] added h pass =
    subst (λ (names : List Signature). AllHold (methods_checks home names at added)) (append-nil before) (pass at)
methods_both home before at (method ∷ methods) added h pass =
    let next = before ++ method_signature method ∷ [] in
    let first = method_checks home before at method in
    let rest = methods_checks home next (at + length (method_bytes method)) methods in
    both_hold first (methods_checks home next (at + length (method_bytes method)) (methods ++ added)) (first_holds first rest h)
    (methods_both home next (at + length (method_bytes method)) methods added (others_hold first rest h)
    (λ place. subst (λ (names : List Signature). AllHold (methods_checks home names place added))
    (sym (append_assoc before (method_signature method ∷ []) (map method_signature methods))) (pass place)))
