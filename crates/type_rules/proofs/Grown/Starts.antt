-- What static fields begin with, and the method handles of a pool, are the same in a class file that has grown.
use Rattle.std.proofs.Common.{◌≡◌, ◌∙◌, ◌+◌, ◌++◌, ℕ, suc, Bool, true, false, List, [], ◌∷◌, length, Option, Some, None, IfSome, if◌then◌else◌, refl, sym, ap}
use Rattle.std.specs.Prelude.{IsSome, option_map}
use Rattle.std.specs.List.{AllByRecursion}
use Rattle.class_model.specs.Checks.{AllHold}
use Rattle.class_model.specs.ClassOf.{fields_checks}
use Rattle.class_model.specs.Instructions.{u2_in}
use Rattle.class_model.specs.Laws.Checks.{first_holds, others_hold}
use Rattle.class_model.specs.Members.{IsConstantOf, STATIC, Signature, attr_name, attrs_checks, constant_value, field_attr_checks, field_checks, field_signature, has, is_named, is_text, raw_content}
use Rattle.class_model.specs.Methods.{IsHandle}
use Rattle.class_model.specs.Pool.{Constants, constant_at}
use Rattle.class_model.specs.PoolChecks.{constant_checks, entries_checks, utf8_at}
use Rattle.class_model.specs.Spelling.{attr_bytes, constant_bytes, field_bytes}
use Rattle.class_model.specs.declared.class_file.Attr.{Attr}
use Rattle.class_model.specs.declared.class_file.Field.{Field}
use Rattle.class_model.specs.declared.pool.Const.{Const}
use Rattle.class_model.specs.declared.pool.Const.TheVariants as consts
use Rattle.machine_values.specs.declared.object.Constant.{Constant}
use Rattle.machine_values.specs.declared.object.Constant.TheVariants as objects
use Rattle.member_link.specs.Machine.Classes.{constant_of, handles_in, start_of, starts_from}
use Rattle.member_link.specs.Machine.Codes.{handle_of}
use Rattle.member_link.specs.Machine.Programs.{StartValue, StaticStart, start_string}
use Rattle.member_link.specs.Machine.Replaced.{without_flags}
use Rattle.member_link.specs.References.{Reference}
use Rattle.type_rules.proofs.Grown.Flags.{static_stays}
use Rattle.type_rules.proofs.Grown.Pools.{constant_same, refers_well_same, string_text, text_same}
use Rattle.type_rules.specs.Grown.{AreGrownFields}

module _ (major : ℕ) (pool more : Constants) (place : ℕ) (hold : AllHold (entries_checks major pool place pool)) where
  abbrev later : Constants
  later = pool ++ more

  -- ---- constant values

  value_same : (index : ℕ) (o : Option Const) → constant_at pool index ≡ o → start_of later o ≡ start_of pool o
  value_same index (Some (consts.String text)) e = ap (λ (t : Option (List ℕ)). option_map start_string t) (string_text major pool more place hold index text e)
  value_same index o e = refl

  -- a constant that a field may begin with
  start_same : (descriptor : Option (List ℕ)) (index : ℕ) → IsSome descriptor → IfSome descriptor (λ text. IsConstantOf text (constant_at pool index))
      → start_of later (constant_at later index) ≡ start_of pool (constant_at pool index)
  start_same None index there is = absurd (no_text there) where
    no_text : IsSome {T = List ℕ} None → ⊥
    no_text h = absurd cc
  start_same (Some text) index there is =
      ap (start_of later) (constant_same major pool more place hold (IsConstantOf text) index (λ h. h) is) ∙ value_same index (constant_at pool index) refl

  module _ (field : Field) (described : IsSome (utf8_at pool field.desc)) (static : has field.flags STATIC ≡ true) where
    first_value : (before : List Attr) (at : ℕ) (attrs : List Attr) → AllHold (attrs_checks (field_attr_checks pool field) before at attrs)
        → start_of later (constant_of later attrs) ≡ start_of pool (constant_of pool attrs)
    first_value before at [] h = refl
    first_value before at (attr ∷ attrs) h =
        let own = field_attr_checks pool field before at attr in
        let others = attrs_checks (field_attr_checks pool field) (before ++ attr ∷ []) (at + length (attr_bytes attr)) attrs in
        let asked = first_holds own others h in
        let named : is_named later constant_value attr ≡ is_named pool constant_value attr = ap (is_text constant_value) (text_same major pool more place hold (attr_name attr) asked.0) in
        ap (λ (b : Bool). start_of later (if b then constant_at later (u2_in (raw_content attr) 0) else constant_of later attrs)) named
        ∙ by (is_named pool constant_value attr) (λ is. (rw (static, is) at asked.1).1.0.constant) (first_value (before ++ attr ∷ []) (at + length (attr_bytes attr)) attrs (others_hold own others h)) refl
      where
        by : (b : Bool) → (is_named pool constant_value attr ≡ true → IfSome (utf8_at pool field.desc) (λ text. IsConstantOf text (constant_at pool (u2_in (raw_content attr) 0))))
            → start_of later (constant_of later attrs) ≡ start_of pool (constant_of pool attrs)
            → is_named pool constant_value attr ≡ b
            → start_of later (if b then constant_at later (u2_in (raw_content attr) 0) else constant_of later attrs)
            ≡ start_of pool (if b then constant_at pool (u2_in (raw_content attr) 0) else constant_of pool attrs)
        by true is rest e = start_same (utf8_at pool field.desc) (u2_in (raw_content attr) 0) described (is e)
        by false is rest e = rest

  -- ---- static fields

  abbrev start_items : ℕ → Option StartValue → List StaticStart
  start_items number None = []
  start_items number (Some value) = record { field = number; value = value } ∷ []

  items_are : (entries : Constants) (number : ℕ) (field : Field) (fields : List Field) → starts_from entries number (field ∷ fields)
      ≡ start_items number (if has field.flags STATIC then start_of entries (constant_of entries field.attrs) else None) ++ starts_from entries (suc number) fields
  items_are entries number field fields = by (if has field.flags STATIC then start_of entries (constant_of entries field.attrs) else None) refl where
    by : (o : Option StartValue) → (if has field.flags STATIC then start_of entries (constant_of entries field.attrs) else None) ≡ o
        → starts_from entries number (field ∷ fields)
        ≡ start_items number (if has field.flags STATIC then start_of entries (constant_of entries field.attrs) else None) ++ starts_from entries (suc number) fields
    by None e = rw e refl
    by (Some value) e = rw e refl

  value_of : (field : Field) (at : ℕ) → IsSome (utf8_at pool field.desc) → AllHold (attrs_checks (field_attr_checks pool field) [] at field.attrs)
      → (if has field.flags STATIC then start_of later (constant_of later field.attrs) else None) ≡ (if has field.flags STATIC then start_of pool (constant_of pool field.attrs) else None)
  value_of field at described h = by (has field.flags STATIC) refl where
    by : (b : Bool) → has field.flags STATIC ≡ b
        → (if b then start_of later (constant_of later field.attrs) else None) ≡ (if b then start_of pool (constant_of pool field.attrs) else None)
    by true e = first_value field described e [] at field.attrs h
    by false e = refl

  pub starts_same : (flags : ℕ) (before : List Signature) (at number : ℕ) (olds news : List Field) → AllHold (fields_checks pool flags before at olds) → AreGrownFields olds news
      → starts_from later number news ≡ starts_from pool number olds
  starts_same flags before at number [] [] h grown = refl
  starts_same flags before at number [] (new ∷ news) h grown = absurd grown
  starts_same flags before at number (field ∷ olds) [] h grown = absurd grown
  starts_same flags before at number (field ∷ olds) (new ∷ news) h grown =
      let own = field_checks pool flags before at field in
      let others = fields_checks pool flags (before ++ field_signature field ∷ []) (at + length (field_bytes field)) olds in
      let asked = first_holds own others h in
      let rest = starts_same flags (before ++ field_signature field ∷ []) (at + length (field_bytes field)) (suc number) olds news (others_hold own others h) grown.1 in
      ap (λ (f : Field). starts_from later number (f ∷ news)) grown.0.rest
      ∙ items_are later number (record field { flags = without_flags field.flags grown.0.cleared }) news
      ∙ ap (λ (b : Bool). start_items number (if b then start_of later (constant_of later field.attrs) else None) ++ starts_from later (suc number) news) (static_stays field.flags grown.0.cleared)
      ∙ ap (λ (o : Option StartValue). start_items number o ++ starts_from later (suc number) news) (value_of field (at + 8) asked.1.1.1.1.0 asked.1.1.1.1.1.1)
      ∙ ap (λ (ss : List StaticStart). start_items number (if has field.flags STATIC then start_of pool (constant_of pool field.attrs) else None) ++ ss) rest
      ∙ sym (items_are pool number field olds)

  -- ---- method handles

  one_more : (of : Constants) (kind reference : ℕ) (ones others : Constants) → handles_in of ones ≡ handles_in of others
      → handles_in of (Some (consts.MethodHandle kind reference) ∷ ones) ≡ handles_in of (Some (consts.MethodHandle kind reference) ∷ others)
  one_more of kind reference ones others rest = by (handle_of of kind reference) refl where
    by : (o : Option Constant) → handle_of of kind reference ≡ o
        → handles_in of (Some (consts.MethodHandle kind reference) ∷ ones) ≡ handles_in of (Some (consts.MethodHandle kind reference) ∷ others)
    by None e = rw e rest
    by (Some handle) e = rw e (ap (λ (hs : List Constant). handle ∷ hs) rest)

  -- no handle stands behind others
  none_behind : (of entries behind : Constants) → AllByRecursion (λ entry. ¬ IsHandle entry) behind → handles_in of (entries ++ behind) ≡ handles_in of entries
  none_behind of [] [] none = refl
  none_behind of [] (Some (consts.MethodHandle kind reference) ∷ behind) none = absurd (none.0 tt)
  none_behind of [] (None ∷ behind) none = none_behind of [] behind none.1
  none_behind of [] (Some other ∷ behind) none = none_behind of [] behind none.1
  none_behind of (Some (consts.MethodHandle kind reference) ∷ entries) behind none = one_more of kind reference (entries ++ behind) entries (none_behind of entries behind none)
  none_behind of (None ∷ entries) behind none = none_behind of entries behind none
  none_behind of (Some other ∷ entries) behind none = none_behind of entries behind none

  -- those of the old pool refer to the same
  handles_same : (at : ℕ) (entries : Constants) → AllHold (entries_checks major pool at entries) → handles_in later entries ≡ handles_in pool entries
  handles_same at [] h = refl
  handles_same at (None ∷ entries) h = handles_same at entries h
  handles_same at (Some (consts.MethodHandle kind reference) ∷ entries) h =
      let rest = handles_same (at + length (constant_bytes (consts.MethodHandle kind reference))) entries h.1 in
      let same : handle_of later kind reference ≡ handle_of pool kind reference =
      ap (λ (r : Option Reference). option_map (λ r. objects.Handle kind r.class r.name r.desc) r) (refers_well_same major pool more place hold major kind reference h.0) in
      by same (handle_of pool kind reference) refl rest
    where
      by : handle_of later kind reference ≡ handle_of pool kind reference → (o : Option Constant) → handle_of pool kind reference ≡ o → handles_in later entries ≡ handles_in pool entries
          → handles_in later (Some (consts.MethodHandle kind reference) ∷ entries) ≡ handles_in pool (Some (consts.MethodHandle kind reference) ∷ entries)
      by same None e rest = rw (same, e) rest
      by same (Some handle) e rest = rw (same, e) (ap (λ (hs : List Constant). handle ∷ hs) rest)
  handles_same at (Some other ∷ entries) h =
      handles_same (at + length (constant_bytes other)) entries (others_hold (constant_checks major pool at other) (entries_checks major pool (at + length (constant_bytes other)) entries) h)

  pub handles_kept : AllByRecursion (λ entry. ¬ IsHandle entry) more → handles_in later later ≡ handles_in pool pool
  handles_kept none = none_behind later pool more none ∙ handles_same place pool hold
