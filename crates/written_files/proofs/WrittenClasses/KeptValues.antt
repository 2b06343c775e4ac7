-- A class that is written of a class file fits its items, and its checks hold.
use Rattle.std.proofs.Common.{◌≡◌, ◌⊎◌, ◌+◌, ◌*◌, ◌-◌, ◌<◌, ◌≤◌, ℕ, suc, Bool, true, false, List, [], ◌∷◌, ◌++◌, length, map, bit_and, Option, Some, None, refl, sym, ap, subst, ◌∙◌, append-nil, append_assoc, arith, length-append}
use Rattle.std.specs.List.{AllByRecursion, flat_map}
use Rattle.std.specs.Prelude.{IsFalse, IsTrue, IsSome}
use Rattle.std.proofs.lemmas.Bool.{false≢true}
use Rattle.class_model.specs.Checks.{AllHold, Check, Fault, asked_if, check}
use Rattle.class_model.specs.ClassOf.{bootstrap_index_checks, class_file_checks, fields_checks, methods_checks}
use Rattle.class_model.specs.Laws.Checks.{both_hold, first_holds, others_hold}
use Rattle.class_model.specs.Laws.ClassFiles.{fields_place, flags_place, methods_place, attrs_place, parts_hold}
use Rattle.class_model.specs.Members.{Signature, attr_name, attrs_checks, class_name_checks, fits_class, interfaces_checks, is_named, is_text, super_checks}
use Rattle.class_model.specs.Methods.{Home, bootstrap_count, class_attr_checks, code, home_of, method_attr_checks, method_checks, method_signature}
use Rattle.class_model.specs.Pool.{Constants}
use Rattle.class_model.specs.PoolChecks.{entries_checks, utf8_at}
use Rattle.class_model.specs.Spelling.{attr_bytes, field_bytes, method_bytes}
use Rattle.class_model.specs.Values.{FieldIsRaw, IsParted, IsRaw, MethodIsParted, TagStands}
use Rattle.class_model.specs.declared.class_file.Attr.{Attr}
use Rattle.class_model.specs.declared.class_file.Attr.TheVariants.{Raw, Code}
use Rattle.class_model.specs.declared.class_file.ClassFile.{ClassFile}
use Rattle.class_model.specs.declared.class_file.CodePart.{CodePart}
use Rattle.class_model.specs.declared.class_file.Field.{Field}
use Rattle.class_model.specs.declared.class_file.Method.{Method}
use Rattle.class_model.specs.declared.fault.FileRule.TheVariants as rules
use Rattle.written_files.proofs.WrittenClasses.KeptParts.{MovesMethods, fields_hold, methods_both, methods_hold}
use Rattle.row_frames.specs.Laws.MorePools.{text_more}
use Rattle.class_bytes.specs.Counts.{FitsAttr, FitsAttrs, FitsCounts, FitsField, FitsFields, FitsMethod, FitsMethods}
use Rattle.member_link.specs.Machine.Replaced.{without_flags}
use Rattle.type_rules.specs.Grown.{AreGrownFields, IsGrownField}
use Rattle.pool_bytes.specs.Items.{EntryFits, IsU2}
use Rattle.class_bytes.specs.Numbers.{AttrNumbers, BodyNumbers, FieldNumbers, FitsNumbers, MethodNumbers}
use Rattle.written_files.specs.WrittenClasses.{AreKeptMethods, IsCodeFor, IsFitting, IsKeptMethod, IsWrittenClass, kept_as_it_was, kept_with_code, with_code}

both_all : {X : Type 0} (P : X → Type 0) (xs ys : List X) → AllByRecursion P xs → AllByRecursion P ys → AllByRecursion P (xs ++ ys)
both_all P [] ys all more = more
both_all P (x ∷ xs) ys all more = (all.0, both_all P xs ys all.1 more)

-- ---- fields

field_numbers : (field : Field) (cleared : ℕ) → FieldNumbers field → FieldNumbers (record field { flags = without_flags field.flags cleared })
field_numbers field cleared n = record { flags = omega (arith, n.flags); name = n.name; desc = n.desc; attrs = n.attrs }

-- what only depends on the attributes, and the numbers
record FieldsFit (fields : List Field) : Type 0 where
  pub fits : AllByRecursion FitsField fields
  pub numbers : AllByRecursion FieldNumbers fields
  pub raw : AllByRecursion FieldIsRaw fields

fields_fit : (fields news : List Field) → AreGrownFields fields news → FieldsFit fields → FieldsFit news × (length news ≡ length fields)
fields_fit [] [] grown h = (record { fits = tt; numbers = tt; raw = tt }, refl)
fields_fit [] (new ∷ news) grown h = absurd grown
fields_fit (field ∷ fields) [] grown h = absurd grown
fields_fit (field ∷ fields) (new ∷ news) grown h =
    let rest = fields_fit fields news grown.1 (record { fits = h.fits.1; numbers = h.numbers.1; raw = h.raw.1 }) in
    subst (λ (x : Field). FieldsFit (x ∷ news) × (length (x ∷ news) ≡ length (field ∷ fields))) (sym grown.0.rest) (
      record {
        fits = (h.fits.0, rest.0.fits);
        numbers = (field_numbers field grown.0.cleared h.numbers.0, rest.0.numbers);
        raw = (h.raw.0, rest.0.raw);
      },
      ap (λ (n : ℕ). suc n) rest.1,
    )

-- ---- methods

module _ (home : Home) where
  record MethodFits (method : Method) : Type 0 where
    pub fits : FitsMethod method
    pub numbers : MethodNumbers method
    pub parted : MethodIsParted home.pool method

  module _ (part : CodePart) (method : Method) (is : IsCodeFor home method part) where
    attrs_fit : (attrs : List Attr) → AllByRecursion FitsAttr attrs → AllByRecursion AttrNumbers attrs → AllByRecursion (IsParted home.pool) attrs
        → AllByRecursion FitsAttr (with_code part attrs) × AllByRecursion AttrNumbers (with_code part attrs)
        × AllByRecursion (IsParted home.pool) (with_code part attrs) × (length (with_code part attrs) ≡ length attrs)
    attrs_fit [] f n p = (tt, tt, tt, refl)
    attrs_fit (Raw name bytes ∷ attrs) f n p =
        let rest = attrs_fit attrs f.1 n.1 p.1 in
        ((f.0, rest.0), (n.0, rest.1), (p.0, rest.2), ap (λ (n : ℕ). suc n) rest.3)
    attrs_fit (Code name old ∷ attrs) f n p =
        let rest = attrs_fit attrs f.1 n.1 p.1 in
        ((is.fits, rest.0), ((n.0.0, is.numbers), rest.1), (p.0, rest.2), ap (λ (n : ℕ). suc n) rest.3)

  method_fits : (old new : Method) → IsKeptMethod home old new → MethodFits old → MethodFits new
  method_fits old _ kept_as_it_was h = h
  method_fits old _ (kept_with_code part is) h =
      let all = attrs_fit part old is old.attrs h.fits.each h.numbers.attrs h.parted in
      record {
        fits = record { count = omega (arith, h.fits.count, all.3); each = all.0 };
        numbers = record { flags = h.numbers.flags; name = h.numbers.name; desc = h.numbers.desc; attrs = all.1 };
        parted = all.2;
      }

  record MethodsFit (methods : List Method) : Type 0 where
    pub fits : AllByRecursion FitsMethod methods
    pub numbers : AllByRecursion MethodNumbers methods
    pub parted : AllByRecursion (MethodIsParted home.pool) methods

  methods_fit : (olds news : List Method) → AreKeptMethods home olds news → MethodsFit olds → MethodsFit news
  methods_fit [] [] kept h = h
  methods_fit [] (new ∷ news) kept h = absurd kept
  methods_fit (old ∷ olds) [] kept h = absurd kept
  methods_fit (old ∷ olds) (new ∷ news) kept h =
      let rest = methods_fit olds news kept.1 (record { fits = h.fits.1; numbers = h.numbers.1; parted = h.parted.1 }) in
      let own = method_fits old new kept.0 (record { fits = h.fits.0; numbers = h.numbers.0; parted = h.parted.0 }) in
      record { fits = (own.fits, rest.fits); numbers = (own.numbers, rest.numbers); parted = (own.parted, rest.parted) }

  same_signatures : (olds news : List Method) → AreKeptMethods home olds news → map method_signature news ≡ map method_signature olds
  same_signatures [] [] kept = refl
  same_signatures [] (new ∷ news) kept = absurd kept
  same_signatures (old ∷ olds) [] kept = absurd kept
  same_signatures (old ∷ olds) (new ∷ news) kept = by new kept.0 (same_signatures olds news kept.1) where
    by : (new : Method) → IsKeptMethod home old new → map method_signature news ≡ map method_signature olds
        → map method_signature (new ∷ news) ≡ map method_signature (old ∷ olds)
    by _ kept_as_it_was e = ap (λ (names : List Signature). method_signature old ∷ names) e
    by _ (kept_with_code part is) e = ap (λ (names : List Signature). method_signature old ∷ names) e

-- ---- attributes are kept as parts over a grown pool too

module _ (pool more : Constants) where
  same_named : (name : List ℕ) (attr : Attr) → IsSome (utf8_at pool (attr_name attr)) → is_named (pool ++ more) name attr ≡ is_named pool name attr
  same_named name attr some = by (utf8_at pool (attr_name attr)) refl where
    by : (o : Option (List ℕ)) → utf8_at pool (attr_name attr) ≡ o → is_named (pool ++ more) name attr ≡ is_named pool name attr
    by None e = absurd (false≢true (subst IsSome e some))
    by (Some text) e = ap (is_text name) (text_more pool more (attr_name attr) text e ∙ sym e)

  parted_more : (attr : Attr) → IsSome (utf8_at pool (attr_name attr)) → IsParted pool attr → IsParted (pool ++ more) attr
  parted_more (Raw name bytes) some is = same_named code (Raw name bytes) some ∙ is
  parted_more (Code name part) some is = same_named code (Code name part) some ∙ is

  module _ (home : Home) (of_pool : home.pool ≡ pool) where
    attrs_parted : (method : Method) (before : List Attr) (at : ℕ) (attrs : List Attr)
        → AllHold (attrs_checks (method_attr_checks home method) before at attrs)
        → AllByRecursion (IsParted pool) attrs
        → AllByRecursion (IsParted (pool ++ more)) attrs
    attrs_parted method before at [] h is = tt
    attrs_parted method before at (attr ∷ attrs) h is =
        let first = method_attr_checks home method before at attr in
        let rest = attrs_checks (method_attr_checks home method) (before ++ attr ∷ []) (at + length (attr_bytes attr)) attrs in (
          parted_more attr (subst (λ (p : Constants). IsSome (utf8_at p (attr_name attr))) of_pool (first_holds first rest h).0) is.0,
          attrs_parted method (before ++ attr ∷ []) (at + length (attr_bytes attr)) attrs (others_hold first rest h) is.1,
        )

    methods_parted : (before : List Signature) (at : ℕ) (methods : List Method)
        → AllHold (methods_checks home before at methods)
        → AllByRecursion (MethodIsParted pool) methods
        → AllByRecursion (MethodIsParted (pool ++ more)) methods
    methods_parted before at [] h is = tt
    methods_parted before at (method ∷ methods) h is =
        let first = method_checks home before at method in
        let rest = methods_checks home (before ++ method_signature method ∷ []) (at + length (method_bytes method)) methods in (
          attrs_parted method [] (at + 8) method.attrs (first_holds first rest h).1.1.1.1.1.1.1.1 is.0,
          methods_parted (before ++ method_signature method ∷ []) (at + length (method_bytes method)) methods (others_hold first rest h) is.1,
        )

-- ---- the whole

abbrev pub HoldsGrown : Type 0
HoldsGrown =
    (class : ClassFile) (more : Constants) (at from : ℕ) → AllHold (class_file_checks class)
    → AllHold (entries_checks class.major (class.pool ++ more) at more)
    → AllHold (bootstrap_index_checks (bootstrap_count class.pool class.attrs) from more)
    → AllHold (class_file_checks (record class { pool = class.pool ++ more }))

abbrev pub MovesAttrs : Type 0
MovesAttrs =
    (pool : Constants) (at other : ℕ) (attrs : List Attr) → AllHold (attrs_checks (class_attr_checks pool) [] at attrs)
    → AllHold (attrs_checks (class_attr_checks pool) [] other attrs)

-- where fields and methods are others that pass
module _ (c : ClassFile) (fields : List Field) (methods : List Method) where
  abbrev also : ClassFile
  also = record c { fields = fields; methods = methods }

  members_hold : MovesAttrs → AllHold (class_file_checks c)
      → AllHold (fields_checks c.pool c.flags [] (fields_place c + 2) fields)
      → ((at : ℕ) → AllHold (methods_checks (home_of c) [] at methods))
      → AllHold (class_file_checks also)
  members_hold moves all of_fields of_methods =
      let pool = entries_checks c.major c.pool 10 c.pool in
      let flags = check (flags_place c) rules.Flags (IsTrue (fits_class c.flags)) ∷ [] in
      let this_class = class_name_checks c.pool (flags_place c + 2) c.this_class in
      let super_class = super_checks c.pool (flags_place c + 4) c.super_class in
      let interfaces = interfaces_checks c.pool (flags_place c + 8) c.interfaces in
      let old_fields = fields_checks c.pool c.flags [] (fields_place c + 2) c.fields in
      let old_methods = methods_checks (home_of c) [] (methods_place c + 2) c.methods in
      let old_attrs = attrs_checks (class_attr_checks c.pool) [] (attrs_place c + 2) c.attrs in
      let dynamics = bootstrap_index_checks (bootstrap_count c.pool c.attrs) 10 c.pool in
      let head = pool ++ flags ++ this_class ++ super_class ++ interfaces in
      let eight = first_holds (head ++ old_fields ++ old_methods ++ old_attrs) dynamics all in
      let seven = first_holds (head ++ old_fields ++ old_methods) old_attrs eight in
      let six = first_holds (head ++ old_fields) old_methods seven in
      let five = first_holds head old_fields six in
      let new_fields = fields_checks c.pool c.flags [] (fields_place also + 2) fields in
      let new_methods = methods_checks (home_of c) [] (methods_place also + 2) methods in
      let new_attrs = attrs_checks (class_attr_checks c.pool) [] (attrs_place also + 2) c.attrs in
      both_hold (head ++ new_fields ++ new_methods ++ new_attrs) dynamics
      (both_hold (head ++ new_fields ++ new_methods) new_attrs
      (both_hold (head ++ new_fields) new_methods (both_hold head new_fields five of_fields) (of_methods (methods_place also + 2)))
      (moves c.pool (attrs_place c + 2) (attrs_place also + 2) c.attrs (others_hold (head ++ old_fields ++ old_methods) old_attrs eight)))
      (others_hold (head ++ old_fields ++ old_methods ++ old_attrs) dynamics all)

module _ (holds_grown : HoldsGrown) (moves_methods : MovesMethods) (moves_attrs : MovesAttrs) (file : ClassFile) (is : IsFitting file) (pool : Constants) (fields : List Field) (methods : List Method) where
  abbrev grown : ClassFile
  grown = record file { pool = pool }

  abbrev class : ClassFile
  class = record file { pool = pool; fields = fields; methods = methods }

  written_fits : IsWrittenClass file class → IsFitting class
  written_fits w =
      let added = w.pool.checked.added in
      let begins : pool ≡ file.pool ++ added = w.pool.checked.is in
      let home = home_of grown in
      let pass = subst (λ (p : Constants). AllHold (entries_checks file.major p 10 added)) (append-nil pool ∙ begins) (w.pool.checked.pass [] 10) in
      let all = subst (λ (p : Constants). AllHold (class_file_checks (record file { pool = p }))) (sym begins)
      (holds_grown file added 10 10 is.value.checks pass (w.pool.checked.calls (bootstrap_count file.pool file.attrs) 10)) in
      let parts = parts_hold grown all in
      let old_parts = parts_hold file is.value.checks in
      let parted = subst (λ (p : Constants). AllByRecursion (MethodIsParted p) file.methods) (sym begins)
      (methods_parted file.pool added (home_of file) refl [] (methods_place file + 2) file.methods old_parts.methods is.value.methods) in
      let of_fields = fields_fit file.fields fields w.fields (record { fits = is.counts.fields.each; numbers = is.numbers.body.fields; raw = is.value.fields }) in
      let of_methods = methods_fit home file.methods w.kept w.are_kept (record { fits = is.counts.methods.each; numbers = is.numbers.body.methods; parted = parted }) in
      record {
        counts = record {
          interfaces = is.counts.interfaces;
          fields = record { count = omega (arith, is.counts.fields.count, of_fields.1); each = of_fields.0.fits };
          methods = record {
            count = w.few;
            each = subst (AllByRecursion FitsMethod) (sym w.methods) (both_all FitsMethod w.kept w.added of_methods.fits w.are_added.fits);
          };
          attrs = is.counts.attrs;
        };
        numbers = record {
          major = is.numbers.major;
          minor = is.numbers.minor;
          pool = w.pool.is_pool;
          constants = subst (AllByRecursion EntryFits) (sym begins) (both_all EntryFits file.pool added is.numbers.constants w.pool.fits);
          body = record {
            flags = is.numbers.body.flags;
            this_class = is.numbers.body.this_class;
            super_class = is.numbers.body.super_class;
            interfaces = is.numbers.body.interfaces;
            fields = of_fields.0.numbers;
            methods = subst (AllByRecursion MethodNumbers) (sym w.methods) (both_all MethodNumbers w.kept w.added of_methods.numbers w.are_added.numbers);
            attrs = is.numbers.body.attrs;
          };
        };
        value = record {
          version = is.value.version;
          tags = subst (AllByRecursion (TagStands file.major)) (sym begins) (both_all (TagStands file.major) file.pool added is.value.tags w.pool.tags);
          fields = of_fields.0.raw;
          methods = subst (AllByRecursion (MethodIsParted pool)) (sym w.methods) (both_all (MethodIsParted pool) w.kept w.added of_methods.parted w.are_added.parted);
          attrs = is.value.attrs;
          checks = members_hold grown fields methods moves_attrs all
              (fields_hold pool file.flags [] (fields_place grown + 2) file.fields fields w.fields parts.fields)
              (λ at. subst (λ (ms : List Method). AllHold (methods_checks home [] at ms)) (sym w.methods)
              (methods_both home [] at w.kept w.added
              (methods_hold home moves_methods [] (methods_place grown + 2) at file.methods w.kept parted w.are_kept parts.methods)
              (λ place. subst (λ (names : List Signature). AllHold (methods_checks home names place w.added)) (sym (same_signatures home file.methods w.kept w.are_kept)) (w.are_added.pass place))));
        };
      }

pub written_is : HoldsGrown → MovesMethods → MovesAttrs → (file also : ClassFile) → IsFitting file → IsWrittenClass file also → IsFitting also
written_is holds_grown moves_methods moves_attrs file also is w =
    subst IsFitting (sym w.rest)
    (written_fits holds_grown moves_methods moves_attrs file is also.pool also.fields also.methods (subst (IsWrittenClass file) w.rest w))
