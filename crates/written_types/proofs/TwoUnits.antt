-- Longs and doubles with their second units: behind a store, where types are changed or assigned, and as they are written.
use Rattle.std.proofs.Common.{◌≡◌, ◌+◌, ◌≤◌, ℕ, zero, suc, Bool, true, false, List, [], ◌∷◌, ◌++◌, length, map, replicate, slice_get, Option, Some, None, if◌then◌else◌, refl, sym, ap, subst, ◌∙◌, arith}
use Rattle.std.specs.Prelude.{slice_set}
use Rattle.std.proofs.lemmas.List.{append_assoc}
use Rattle.class_model.specs.Frames.{filled, is_top, is_wide, units, units_of_entries}
use Rattle.class_model.specs.declared.descriptor.Kind.{Kind}
use Rattle.class_model.specs.declared.descriptor.Kind.TheVariants as kinds
use Rattle.class_model.specs.declared.frame.VType.{VType}
use Rattle.class_model.specs.declared.frame.VType.TheVariants as types
use Rattle.class_tree.specs.Headers.{Headers}
use Rattle.flow_code.specs.FlatCode.{FlatCode}
use Rattle.flow_code.specs.ReadTypes.{read_type}
use Rattle.member_link.specs.Assignability.{IsAssignable, from_null, of_names, to_same, to_top}
use Rattle.member_link.specs.Rows.FrameAssignability.{AreAssignable}
use Rattle.member_link.specs.Rows.LocalRows.{HasRoom, cut_before, stored, with_units}
use Rattle.member_link.specs.Rows.Operands.{IsOfKind}
use Rattle.plan_flow.specs.PlanScope.{PlanScope}
use Rattle.making_code.specs.StateFrames.{local_types_from, type_of_slot}
use Rattle.virtual_state.specs.States.{is_unusable}
use Rattle.virtual_state.specs.declared.slot.Slot.{Slot}
use Rattle.virtual_state.specs.declared.slot.Slot.TheVariants.{Plain, Virt, Unusable}
use Rattle.written_types.proofs.SlotTypes.{not_wide, read_as_top, read_wide}
use Rattle.written_types.specs.FitsTypes.{BeginsWithTop, HasType, HavePairs, HaveTypes, HoldPairs}

-- ---- types that are changed

begins_mapped : (change : VType → VType) → change types.Top ≡ types.Top → (all : List VType) → BeginsWithTop all → BeginsWithTop (map change all)
begins_mapped change top [] begins = begins
begins_mapped change top (type ∷ all) begins = ap change begins ∙ top

pub mapped_pairs : (change : VType → VType) → ((type : VType) → is_wide (change type) ≡ is_wide type) → change types.Top ≡ types.Top
    → (all : List VType) → HavePairs all → HavePairs (map change all)
mapped_pairs change wide top [] pairs = tt
mapped_pairs change wide top (type ∷ all) pairs = (
  λ is. begins_mapped change top all (pairs.0 (sym (wide type) ∙ is)),
  mapped_pairs change wide top all pairs.1,
)

-- ---- types that are assigned

wide_assigned : {headers : Headers} {low high : VType} → IsAssignable headers low high → is_wide high ≡ true → is_wide low ≡ true
wide_assigned (to_same type) wide = wide
wide_assigned (to_top type) wide = absurd cc
wide_assigned (from_null name) wide = absurd cc
wide_assigned (of_names low high names) wide = absurd cc

pub top_assigned : {headers : Headers} {low high : VType} → IsAssignable headers low high → low ≡ types.Top → high ≡ types.Top
top_assigned (to_same type) is = is
top_assigned (to_top type) is = refl
top_assigned (from_null name) is = absurd cc
top_assigned (of_names low high names) is = absurd cc

begins_assigned : (headers : Headers) (flat : FlatCode) (lows highs : List VType) → AreAssignable headers lows (map (read_type flat) highs)
    → BeginsWithTop lows → BeginsWithTop highs
begins_assigned headers flat [] highs are begins = absurd begins
begins_assigned headers flat (low ∷ lows) [] are begins = absurd are
begins_assigned headers flat (low ∷ lows) (high ∷ highs) are begins = read_as_top flat high (top_assigned are.0 begins)

pub assigned_pairs : (headers : Headers) (flat : FlatCode) (lows highs : List VType) → AreAssignable headers lows (map (read_type flat) highs)
    → HavePairs lows → HavePairs highs
assigned_pairs headers flat lows [] are pairs = tt
assigned_pairs headers flat [] (high ∷ highs) are pairs = absurd are
assigned_pairs headers flat (low ∷ lows) (high ∷ highs) are pairs = (
  λ wide. begins_assigned headers flat lows highs are.1 (pairs.0 (wide_assigned are.0 (read_wide flat high ∙ wide))),
  assigned_pairs headers flat lows highs are.1 pairs.1,
)

-- ---- the frame that a method begins with

tops_paired : (count : ℕ) → HavePairs (replicate count types.Top)
tops_paired zero = tt
tops_paired (suc count) = (λ wide. absurd cc, tops_paired count)

-- the units of a type, in front of others
pub data UnitsOf (type : VType) : List VType → Type 0 where
  one_unit : is_wide type ≡ false → UnitsOf type (type ∷ [])
  two_units : is_wide type ≡ true → UnitsOf type (type ∷ types.Top ∷ [])

pub units_of : (type : VType) → UnitsOf type (units type)
units_of types.Long = two_units refl
units_of types.Double = two_units refl
units_of types.Top = one_unit refl
units_of types.Int = one_unit refl
units_of types.Float = one_unit refl
units_of types.Null = one_unit refl
units_of types.UninitThis = one_unit refl
units_of (types.Object name) = one_unit refl
units_of (types.Uninit at) = one_unit refl

no_both : {b : Bool} → b ≡ true → b ≡ false → ⊥
no_both one other = cc

units_paired : {type : VType} {own : List VType} → UnitsOf type own → (rest : List VType) → HavePairs rest → HavePairs (own ++ rest)
units_paired (one_unit narrow) rest pairs = (λ wide. absurd (no_both wide narrow), pairs)
units_paired (two_units wide) rest pairs = (λ is. refl, (λ is. absurd cc, pairs))

entries_paired : (entries rest : List VType) → HavePairs rest → HavePairs (units_of_entries entries ++ rest)
entries_paired [] rest pairs = pairs
entries_paired (type ∷ entries) rest pairs =
    subst HavePairs (sym (append_assoc (units type) (units_of_entries entries) rest))
    (units_paired (units_of type) (units_of_entries entries ++ rest) (entries_paired entries rest pairs))

pub filled_paired : (room : ℕ) (entries : List VType) → HavePairs (filled room entries)
filled_paired room entries = entries_paired entries _ (tops_paired _)

-- ---- a store

first_stored : {type : VType} {own : List VType} → UnitsOf type own → (locals : List VType) → HavePairs locals
    → (is_wide type ≡ true → 2 ≤ length locals) → HavePairs (with_units zero own locals)
first_stored units [] pairs room = none units where
  none : {type : VType} {own : List VType} → UnitsOf type own → HavePairs (with_units zero own [])
  none (one_unit narrow) = tt
  none (two_units wide) = tt
first_stored (one_unit narrow) (first ∷ locals) pairs room = (λ wide. absurd (no_both wide narrow), pairs.1)
first_stored (two_units wide) (first ∷ []) pairs room = let some = room wide in absurd (omega (arith, some))
first_stored (two_units wide) (first ∷ second ∷ locals) pairs room = (λ is. refl, (λ is. absurd cc, pairs.1.1))

-- units behind the first one
with_later : (at : ℕ) (own : List VType) (first : VType) (locals : List VType) → with_units (suc at) own (first ∷ locals) ≡ first ∷ with_units at own locals
with_later at [] first locals = refl
with_later at (type ∷ own) first locals =
    let next : suc at + 1 ≡ suc (at + 1) = omega arith in
    ap (λ (n : ℕ). with_units n own (first ∷ slice_set locals at type)) next ∙ with_later (at + 1) own first (slice_set locals at type)

cut_later : (at : ℕ) (first : VType) (locals : List VType) → cut_before (suc (suc at)) (first ∷ locals) ≡ first ∷ cut_before (suc at) locals
cut_later at first locals = by (slice_get locals at) refl where
  by_width : (type : VType) (wide : Bool)
      → (if wide then slice_set (first ∷ locals) (suc at) types.Top else (first ∷ locals)) ≡ first ∷ (if wide then slice_set locals at types.Top else locals)
  by_width type true = refl
  by_width type false = refl

  by : (found : Option VType) → slice_get locals at ≡ found → cut_before (suc (suc at)) (first ∷ locals) ≡ first ∷ cut_before (suc at) locals
  by None none = rw none refl
  by (Some type) some = rw some (by_width type (is_wide type))

stored_first : (type first : VType) (locals : List VType)
    → stored 1 type (first ∷ locals) ≡ (if is_wide first then types.Top else first) ∷ with_units zero (units type) locals
stored_first type first locals = by (is_wide first) refl where
  by : (wide : Bool) → is_wide first ≡ wide
      → stored 1 type (first ∷ locals) ≡ (if wide then types.Top else first) ∷ with_units zero (units type) locals
  by true wide = rw wide (with_later zero (units type) types.Top locals)
  by false narrow = rw narrow (with_later zero (units type) first locals)

stored_later : (at : ℕ) (type first : VType) (locals : List VType)
    → stored (suc (suc at)) type (first ∷ locals) ≡ first ∷ stored (suc at) type locals
stored_later at type first locals =
    ap (with_units (suc (suc at)) (units type)) (cut_later at first locals)
    ∙ with_later (suc at) (units type) first (cut_before (suc at) locals)

begins_stored : (at : ℕ) (type : VType) (locals : List VType) → BeginsWithTop locals → BeginsWithTop (stored (suc at) type locals)
begins_stored at type [] begins = absurd begins
begins_stored zero type (first ∷ locals) begins = subst BeginsWithTop (sym (stored_first type first locals)) (by (is_wide first)) where
  by : (wide : Bool) → (if wide then types.Top else first) ≡ types.Top
  by true = refl
  by false = begins
begins_stored (suc at) type (first ∷ locals) begins = subst BeginsWithTop (sym (stored_later at type first locals)) begins

stored_in_none : (at : ℕ) {type : VType} {own : List VType} → UnitsOf type own → HavePairs (with_units at own [])
stored_in_none at (one_unit narrow) = tt
stored_in_none at (two_units wide) = tt

pub stored_pairs : (at : ℕ) (type : VType) (locals : List VType) → HavePairs locals → (is_wide type ≡ true → at + 2 ≤ length locals)
    → HavePairs (stored at type locals)
stored_pairs zero type locals pairs room = first_stored (units_of type) locals pairs (λ wide. let some = room wide in omega (arith, some))
stored_pairs (suc zero) type [] pairs room = stored_in_none 1 (units_of type)
stored_pairs (suc (suc at)) type [] pairs room = stored_in_none (suc (suc at)) (units_of type)
stored_pairs (suc zero) type (first ∷ locals) pairs room =
    subst HavePairs (sym (stored_first type first locals)) (
      λ wide. absurd (by (is_wide first) refl wide),
      first_stored (units_of type) locals pairs.1 (λ wide. let some = room wide in omega (arith, some)),
    ) where
      by : (b : Bool) → is_wide first ≡ b → is_wide (if b then types.Top else first) ≡ true → ⊥
      by true is wide = absurd cc
      by false is wide = no_both wide is
stored_pairs (suc (suc at)) type (first ∷ locals) pairs room =
    subst HavePairs (sym (stored_later at type first locals)) (
      λ wide. begins_stored at type locals (pairs.0 wide),
      stored_pairs (suc at) type locals pairs.1 (λ wide. let some = room wide in omega (arith, some)),
    )

-- a long or double is stored where its units are there
pub room_of_wide : (kind : Kind) (type : VType) (locals : List VType) (at : ℕ) → IsOfKind kind type → HasRoom kind locals at → is_wide type ≡ true
    → at + 2 ≤ length locals
room_of_wide kinds.Long type locals at is room wide = room
room_of_wide kinds.Double type locals at is room wide = room
room_of_wide kinds.Int type locals at is room wide = absurd (no_both wide (ap is_wide is))
room_of_wide kinds.Float type locals at is room wide = absurd (no_both wide (ap is_wide is))
room_of_wide kinds.Ref types.Long locals at is room wide = absurd is
room_of_wide kinds.Ref types.Double locals at is room wide = absurd is
room_of_wide kinds.Ref other locals at is room wide = absurd cc

-- ---- as they are written

module _ (s : PlanScope) where
  -- the slot of a long or double is plain
  pub plain_pairs : (all rest : List VType) (slots : List Slot) (more : List Bool) → HaveTypes s (map (read_type s.flat) (all ++ rest)) slots
      → map is_unusable slots ≡ map is_top all ++ more → HoldPairs all slots
  plain_pairs [] rest slots more have are = tt
  plain_pairs (type ∷ all) rest [] more have are = tt
  plain_pairs (type ∷ all) rest (slot ∷ slots) more have are = (
    λ wide. by slot have.0 (first are) wide,
    plain_pairs all rest slots more have.1 (rest_same are),
  ) where
    first_of : List Bool → Bool
    first_of [] = false
    first_of (b ∷ bs) = b

    rest_of : List Bool → List Bool
    rest_of [] = []
    rest_of (b ∷ bs) = bs

    first : {ones others : List Bool} → ones ≡ others → first_of ones ≡ first_of others
    first same = ap first_of same

    rest_same : {ones others : List Bool} → ones ≡ others → rest_of ones ≡ rest_of others
    rest_same same = ap rest_of same

    no_top : (type : VType) → is_wide type ≡ true → is_top type ≡ true → ⊥
    no_top types.Long wide top = cc
    no_top types.Double wide top = cc
    no_top other wide top = absurd cc

    by : (slot : Slot) → HasType s (read_type s.flat type) slot → is_unusable slot ≡ is_top type → is_wide type ≡ true → slot ≡ Plain
    by Plain has is wide = refl
    by (Virt site) has is wide = absurd (not_wide s has (read_wide s.flat type ∙ wide))
    by Unusable has is wide = absurd (no_top type wide (sym is))

  written_top : (slot : Slot) → type_of_slot s.flat types.Top slot ≡ types.Top
  written_top Plain = refl
  written_top (Virt site) = refl
  written_top Unusable = refl

  begins_written : (all rest : List VType) (slots : List Slot) → HaveTypes s (map (read_type s.flat) (all ++ rest)) slots → BeginsWithTop all
      → BeginsWithTop (local_types_from s.flat all slots)
  begins_written [] rest slots have begins = absurd begins
  begins_written (type ∷ all) rest [] have begins = absurd have
  begins_written (type ∷ all) rest (slot ∷ slots) have begins =
      ap (λ (t : VType). type_of_slot s.flat t slot) begins ∙ written_top slot

  wide_written : (type : VType) (slot : Slot) → is_wide (type_of_slot s.flat type slot) ≡ true → is_wide type ≡ true
  wide_written type Plain wide = sym (read_wide s.flat type) ∙ wide
  wide_written type (Virt site) wide = absurd cc
  wide_written type Unusable wide = absurd cc

  pub written_pairs : (all rest : List VType) (slots : List Slot) → HaveTypes s (map (read_type s.flat) (all ++ rest)) slots → HavePairs all
      → HavePairs (local_types_from s.flat all slots)
  written_pairs [] rest slots have pairs = tt
  written_pairs (type ∷ all) rest [] have pairs = tt
  written_pairs (type ∷ all) rest (slot ∷ slots) have pairs = (
    λ wide. begins_written all rest slots have.1 (pairs.0 (wide_written type slot wide)),
    written_pairs all rest slots have.1 pairs.1,
  )
