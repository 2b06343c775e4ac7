-- Local units that are the same in both runs: what is read is the same, and they stay so where the same is stored.
use Rattle.std.proofs.Common.{◌≡◌, ◌+◌, ◌-◌, ◌++◌, nat_le, ℕ, zero, suc, ℤ, Bool, true, false, List, length, replicate, slice_get, slice_set, Option, Some, None, if◌then◌else◌, refl, ap}
use Rattle.class_model.specs.declared.class_file.MethodAt.{MethodAt}
use Rattle.class_model.specs.declared.descriptor.Kind.{Kind}
use Rattle.machine_values.specs.Values.{has_kind, is_wide_value, units_of_values}
use Rattle.machine_values.specs.declared.value.Value.{Value}
use Rattle.member_link.specs.Machine.Beginnings.{frame_with}
use Rattle.member_link.specs.Machine.Locals.{cut_before, incremented, local_value, stored, width_of}
use Rattle.member_link.specs.Machine.Programs.{Code, Program, code_at}
use Rattle.same_runs.specs.Renamings.{Names, SameUnit, no_value, has_value, SameUnits, no_units, and_unit, SameValue, same_int, same_long, same_float, same_double, same_null, same_reference, SameValues, no_values, and_value}
use Rattle.same_runs.specs.SameMoves.{SameStores, no_store, have_store}
use Rattle.same_runs.specs.Laws.Moves.{same_kind, same_wide}

-- units before a store, by what is in the one before it
abbrev pub cut_by : List (Option Value) → ℕ → Option (Option Value) → List (Option Value)
cut_by locals at None = locals
cut_by locals at (Some None) = locals
cut_by locals at (Some (Some value)) = if is_wide_value value then slice_set locals at None else locals

-- units behind a store
abbrev pub stored_by : ℕ → Bool → List (Option Value) → List (Option Value)
stored_by at wide units = if wide then slice_set units (at + 1) None else units

-- two slots, of which both are there or none
data SameSlot (names : Names) : Option (Option Value) → Option (Option Value) → Type 0 where
  no_slot : SameSlot names None None
  a_slot : {one other : Option Value} → SameUnit names one other → SameSlot names (Some one) (Some other)

module _ {names : Names} where
  if_kind : (kind : Kind) {value also : Value} → SameValue names value also
      → SameUnit names (if has_kind kind value then Some value else None) (if has_kind kind also then Some also else None)
  if_kind kind {value = value} {also = also} is = rw (same_kind kind is) (by (has_kind kind value)) where
    by : (b : Bool) → SameUnit names (if b then Some value else None) (if b then Some also else None)
    by true = has_value is
    by false = no_value

  -- the value of a kind in a local
  pub same_local : (kind : Kind) (at : ℕ) {ones others : List (Option Value)} → SameUnits names ones others
      → SameUnit names (local_value kind ones at) (local_value kind others at)
  same_local kind at no_units = no_value
  same_local kind zero (and_unit no_value rest) = no_value
  same_local kind zero (and_unit (has_value is) rest) = if_kind kind is
  same_local kind (suc at) (and_unit one rest) = same_local kind at rest

  -- a unit that is set to the same in both
  pub same_set : (at : ℕ) {ones others : List (Option Value)} {one other : Option Value} → SameUnits names ones others
      → SameUnit names one other
      → SameUnits names (slice_set ones at one) (slice_set others at other)
  same_set at no_units is = no_units
  same_set zero (and_unit first rest) is = and_unit is rest
  same_set (suc at) (and_unit first rest) is = and_unit first (same_set at rest is)

  -- units that are the same are as many
  pub same_size : {ones others : List (Option Value)} → SameUnits names ones others → length others ≡ length ones
  same_size no_units = refl
  same_size (and_unit one rest) = ap suc (same_size rest)

  same_slot : (at : ℕ) {ones others : List (Option Value)} → SameUnits names ones others
      → SameSlot names (slice_get ones at) (slice_get others at)
  same_slot at no_units = no_slot
  same_slot zero (and_unit one rest) = a_slot one
  same_slot (suc at) (and_unit one rest) = same_slot at rest

  same_cut_by : (at : ℕ) {ones others : List (Option Value)} {one other : Option (Option Value)} → SameUnits names ones others
      → SameSlot names one other
      → SameUnits names (cut_by ones at one) (cut_by others at other)
  same_cut_by at are no_slot = are
  same_cut_by at are (a_slot no_value) = are
  same_cut_by at {ones = ones} {others = others} are (a_slot (has_value {one = one} is)) = rw (same_wide is) (by (is_wide_value one)) where
    by : (b : Bool) → SameUnits names (if b then slice_set ones at None else ones) (if b then slice_set others at None else others)
    by true = same_set at are no_value
    by false = are

  same_cut : (at : ℕ) {ones others : List (Option Value)} → SameUnits names ones others
      → SameUnits names (cut_before at ones) (cut_before at others)
  same_cut zero are = are
  same_cut (suc at) {ones = ones} {others = others} are = same_cut_by at are (same_slot at are)

  same_second : (at : ℕ) (wide : Bool) {ones others : List (Option Value)} → SameUnits names ones others
      → SameUnits names (stored_by at wide ones) (stored_by at wide others)
  same_second at true are = same_set (at + 1) are no_value
  same_second at false are = are

  -- a value is stored in both, or in neither
  pub same_stored : (at : ℕ) {value also : Value} {ones others : List (Option Value)} → SameValue names value also
      → SameUnits names ones others
      → SameStores names (stored at value ones) (stored at also others)
  same_stored at {value = value} {also = also} {ones = ones} {others = others} is are =
      rw (same_wide is, same_size are) (by (nat_le (at + width_of value) (length ones))) where
        by : (b : Bool)
            → SameStores names
            (if b then Some (stored_by at (is_wide_value value) (slice_set (cut_before at ones) at (Some value))) else None)
            (if b then Some (stored_by at (is_wide_value value) (slice_set (cut_before at others) at (Some also))) else None)
        by true = have_store (same_second at (is_wide_value value) (same_set at (same_cut at are) (has_value is)))
        by false = no_store

  -- an int that is incremented
  pub same_incremented : (by : ℤ) {value also : Value} → SameValue names value also
      → SameValue names (incremented by value) (incremented by also)
  same_incremented by same_int = same_int
  same_incremented by same_long = same_long
  same_incremented by same_float = same_float
  same_incremented by same_double = same_double
  same_incremented by same_null = same_null
  same_incremented by (same_reference is) = same_reference is

  -- arguments in units
  pub same_arguments : {ones others : List Value} → SameValues names ones others
      → SameUnits names (units_of_values ones) (units_of_values others)
  same_arguments no_values = no_units
  same_arguments (and_value same_int rest) = and_unit (has_value same_int) (same_arguments rest)
  same_arguments (and_value same_long rest) = and_unit (has_value same_long) (and_unit no_value (same_arguments rest))
  same_arguments (and_value same_float rest) = and_unit (has_value same_float) (same_arguments rest)
  same_arguments (and_value same_double rest) = and_unit (has_value same_double) (and_unit no_value (same_arguments rest))
  same_arguments (and_value same_null rest) = and_unit (has_value same_null) (same_arguments rest)
  same_arguments (and_value (same_reference is) rest) = and_unit (has_value (same_reference is)) (same_arguments rest)

-- units with which a method begins, where its arguments are the same
none_same : {names : Names} (count : ℕ) → SameUnits names (replicate count None) (replicate count None)
none_same zero = no_units
none_same (suc count) = and_unit no_value (none_same count)

padded_same : {names : Names} {units also : List (Option Value)} (count : ℕ) → SameUnits names units also
    → SameUnits names (units ++ replicate count None) (also ++ replicate count None)
padded_same count no_units = none_same count
padded_same count (and_unit one rest) = and_unit one (padded_same count rest)

-- A method that runs the same code in two programs begins with the same units, where its arguments are the same.
pub begun_same : (P Q : Program) {names : Names} (at : MethodAt) {units also : List (Option Value)} (held held_also : Option ℕ)
    → code_at Q at ≡ code_at P at
    → SameUnits names units also
    → SameUnits names (frame_with P at units held).locals (frame_with Q at also held_also).locals
begun_same P Q {names = names} at {units = units} {also = also} held held_also codes same = by (code_at P at) refl where
  by : (code : Option Code) → code_at P at ≡ code
      → SameUnits names (frame_with P at units held).locals (frame_with Q at also held_also).locals
  by None is = rw (codes, is) same
  by (Some code) is = rw (codes, is, same_size same) (padded_same (code.locals - length units) same)
