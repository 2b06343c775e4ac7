-- What a class file is asked, part by part.
use Rattle.std.proofs.Common.{◌≡◌, ◌+◌, ◌*◌, ℕ, List, [], ◌∷◌, ◌++◌, length, Result, Err, IsTrue, refl, sym, subst, append_assoc}
use Rattle.std.specs.List.{flat_map}
use Rattle.class_model.specs.Answers.{Tells}
use Rattle.class_model.specs.Checks.{Check, check, AllHold, IsFirstFault, fault, Fault}
use Rattle.class_model.specs.ClassOf.{class_file_checks, fields_checks, methods_checks, bootstrap_index_checks}
use Rattle.class_model.specs.Laws.Answers.{goes_on, stops}
use Rattle.class_model.specs.Laws.Checks.{both_hold}
use Rattle.class_model.specs.Members.{fits_class, class_name_checks, super_checks, interfaces_checks, attrs_checks}
use Rattle.class_model.specs.Methods.{class_attr_checks, bootstrap_count, home_of}
use Rattle.class_model.specs.PoolChecks.{entries_checks}
use Rattle.class_model.specs.Spelling.{entry_bytes}
use Rattle.class_model.specs.declared.class_file.ClassFile.{ClassFile}
use Rattle.class_model.specs.declared.fault.ClassFault.{ClassFault}
use Rattle.class_model.specs.declared.fault.ClassFault.TheVariants.{Malformed, Version, NoMemory}
use Rattle.class_model.specs.declared.fault.FileRule.TheVariants as rules
use Rattle.class_bytes.specs.Inner.Parts.{head_checks, fields_len, methods_len, behind_checks}

-- ---- behind the pool

abbrev pub fields_at : ℕ → ClassFile → ℕ
fields_at at c = at + 8 + 2 * length c.interfaces

abbrev pub methods_at : ℕ → ClassFile → ℕ
methods_at at c = fields_at at c + 2 + fields_len c.fields

abbrev pub attrs_at : ℕ → ClassFile → ℕ
attrs_at at c = methods_at at c + 2 + methods_len c.methods

abbrev pub fields_part : ℕ → ClassFile → List (Check Fault)
fields_part at c = fields_checks c.pool c.flags [] (fields_at at c + 2) c.fields

abbrev pub methods_part : ℕ → ClassFile → List (Check Fault)
methods_part at c = methods_checks (home_of c) [] (methods_at at c + 2) c.methods

abbrev pub attrs_part : ℕ → ClassFile → List (Check Fault)
attrs_part at c = attrs_checks (class_attr_checks c.pool) [] (attrs_at at c + 2) c.attrs

module _ (at : ℕ) (c : ClassFile) where
  pub head_stops : {X Y : Type 0} (Is : X → Type 0) (Other : Y → Type 0) (e : ClassFault) → Tells (head_checks c.pool at c) Is (Err e) → Tells (behind_checks at c) Other (Err e)
  head_stops Is Other e told = stops (head_checks c.pool at c) (fields_part at c ++ (methods_part at c ++ attrs_part at c)) Is Other e told

  module _ (head : AllHold (head_checks c.pool at c)) where
    pub fields_stop : {X Y : Type 0} (Is : X → Type 0) (Other : Y → Type 0) (e : ClassFault) → Tells (fields_part at c) Is (Err e) → Tells (behind_checks at c) Other (Err e)
    fields_stop Is Other e told =
        goes_on (head_checks c.pool at c) (fields_part at c ++ (methods_part at c ++ attrs_part at c)) Other (Err e) head
        (stops (fields_part at c) (methods_part at c ++ attrs_part at c) Is Other e told)

    module _ (fields : AllHold (fields_part at c)) where
      pub methods_stop : {X Y : Type 0} (Is : X → Type 0) (Other : Y → Type 0) (e : ClassFault) → Tells (methods_part at c) Is (Err e) → Tells (behind_checks at c) Other (Err e)
      methods_stop Is Other e told =
          goes_on (head_checks c.pool at c) (fields_part at c ++ (methods_part at c ++ attrs_part at c)) Other (Err e) head
          (goes_on (fields_part at c) (methods_part at c ++ attrs_part at c) Other (Err e) fields (stops (methods_part at c) (attrs_part at c) Is Other e told))

      pub attrs_told : {X : Type 0} (Is : X → Type 0) (result : Result X ClassFault) → AllHold (methods_part at c) → Tells (attrs_part at c) Is result → Tells (behind_checks at c) Is result
      attrs_told Is result methods told =
          goes_on (head_checks c.pool at c) (fields_part at c ++ (methods_part at c ++ attrs_part at c)) Is result head
          (goes_on (fields_part at c) (methods_part at c ++ attrs_part at c) Is result fields (goes_on (methods_part at c) (attrs_part at c) Is result methods told))

-- ---- the whole

grouped : (a b c d e f g h i : List (Check Fault)) → a ++ b ++ c ++ d ++ e ++ f ++ g ++ h ++ i ≡ a ++ ((b ++ c ++ d ++ e ++ (f ++ (g ++ h))) ++ i)
grouped a b c d e f g h i = simp append_assoc

-- the place of the flags
abbrev pub flags_at : ClassFile → ℕ
flags_at c = 10 + length (flat_map entry_bytes c.pool)

pub three_parts : (c : ClassFile)
    → class_file_checks c ≡ entries_checks c.major c.pool 10 c.pool ++ (behind_checks (flags_at c) c ++ bootstrap_index_checks (bootstrap_count c.pool c.attrs) 10 c.pool)
three_parts c =
    grouped (entries_checks c.major c.pool 10 c.pool) (check (flags_at c) rules.Flags (IsTrue (fits_class c.flags)) ∷ []) (class_name_checks c.pool (flags_at c + 2) c.this_class)
    (super_checks c.pool (flags_at c + 4) c.super_class) (interfaces_checks c.pool (flags_at c + 8) c.interfaces) (fields_part (flags_at c) c) (methods_part (flags_at c) c)
    (attrs_part (flags_at c) c) (bootstrap_index_checks (bootstrap_count c.pool c.attrs) 10 c.pool)

-- a fault is the first of equal checks, whatever a value would have been
pub same_fault : {X Y : Type 0} (checks others : List (Check Fault)) (Is : X → Type 0) (Other : Y → Type 0) (e : ClassFault) → checks ≡ others → Tells checks Is (Err e) → Tells others Other (Err e)
same_fault checks others Is Other (Malformed at rule) same told = subst (λ (c : List (Check Fault)). IsFirstFault c (fault at rule)) same told
same_fault checks others Is Other NoMemory same told = tt
same_fault checks others Is Other (Version major minor) same told = told

module _ (c : ClassFile) where
  abbrev entries : List (Check Fault)
  entries = entries_checks c.major c.pool 10 c.pool

  abbrev behind : List (Check Fault)
  behind = behind_checks (flags_at c) c

  abbrev dynamics : List (Check Fault)
  dynamics = bootstrap_index_checks (bootstrap_count c.pool c.attrs) 10 c.pool

  pub entries_stop : {X Y : Type 0} (Is : X → Type 0) (Other : Y → Type 0) (e : ClassFault) → Tells (entries_checks c.major c.pool 10 c.pool) Is (Err e) → Tells (class_file_checks c) Other (Err e)
  entries_stop Is Other e told = same_fault (entries ++ (behind ++ dynamics)) (class_file_checks c) Other Other e (sym (three_parts c)) (stops entries (behind ++ dynamics) Is Other e told)

  module _ (hold : AllHold (entries_checks c.major c.pool 10 c.pool)) where
    pub behind_stops : {X Y : Type 0} (Is : X → Type 0) (Other : Y → Type 0) (e : ClassFault) → Tells (behind_checks (flags_at c) c) Is (Err e) → Tells (class_file_checks c) Other (Err e)
    behind_stops Is Other e told =
        same_fault (entries ++ (behind ++ dynamics)) (class_file_checks c) Other Other e (sym (three_parts c))
        (goes_on entries (behind ++ dynamics) Other (Err e) hold (stops behind dynamics Is Other e told))

    module _ (too : AllHold (behind_checks (flags_at c) c)) where
      pub dynamics_stop : {X Y : Type 0} (Is : X → Type 0) (Other : Y → Type 0) (e : ClassFault) → Tells (bootstrap_index_checks (bootstrap_count c.pool c.attrs) 10 c.pool) Is (Err e) → Tells (class_file_checks c) Other (Err e)
      dynamics_stop Is Other e told =
          same_fault (entries ++ (behind ++ dynamics)) (class_file_checks c) Other Other e (sym (three_parts c))
          (goes_on entries (behind ++ dynamics) Other (Err e) hold (goes_on behind dynamics Other (Err e) too (same_fault dynamics dynamics Is Other e refl told)))

      pub all_told : AllHold (bootstrap_index_checks (bootstrap_count c.pool c.attrs) 10 c.pool) → AllHold (class_file_checks c)
      all_told last = subst AllHold (sym (three_parts c)) (both_hold entries (behind ++ dynamics) hold (both_hold behind dynamics too last))
