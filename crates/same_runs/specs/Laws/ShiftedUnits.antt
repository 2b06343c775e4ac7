-- Local units that stand in the second run from a base on: what the first reads, the second reads there, and a store keeps them so. Units
-- before the base stay.
use Rattle.std.proofs.Common.{◌≡◌, ◌⊎◌, inl, inr, ◌+◌, ◌≤◌, ℕ, zero, suc, Bool, true, false, ◌++◌, length, length-append, replicate, slice_get, Option, Some, None, if◌then◌else◌, refl, sym, ap, ◌∙◌, arith}
use Rattle.std.proofs.lemmas.Option.{none-some}
use Rattle.class_model.specs.declared.descriptor.Kind.{Kind}
use Rattle.machine_values.specs.Values.{has_kind}
use Rattle.machine_values.specs.declared.value.Value.{Value}
use Rattle.member_link.specs.Machine.Locals.{local_value, stored, width_of}
use Rattle.same_runs.specs.Renamings.{Names, NamesMore, no_value, has_value, SameUnits, no_units, and_unit, SameValue}
use Rattle.same_runs.specs.SameMoves.{KeepsOutside, ShiftedUnits}
use Rattle.same_runs.specs.Laws.Moves.{same_kind, same_width}
use Rattle.same_runs.specs.Laws.Names.{value_more}
use Rattle.same_runs.specs.Laws.Units.{same_size}
use Rattle.same_runs.specs.Laws.Stored.{Has, IsClear, IsStored, Units, stored_is, stores, equal_or}

-- the value of a kind in a local, if it is there
abbrev pub value_of_kind : Kind → Option (Option Value) → Option Value
value_of_kind kind None = None
value_of_kind kind (Some None) = None
value_of_kind kind (Some (Some value)) = if has_kind kind value then Some value else None

-- the value that a local has, of that kind
pub local_is : (kind : Kind) (at : ℕ) (value : Value) (locals : Units) → local_value kind locals at ≡ Some value
    → Has locals at value × (has_kind kind value ≡ true)
local_is kind at value locals is = by (slice_get locals at) refl is where
  by : (found : Option (Option Value)) → slice_get locals at ≡ found → value_of_kind kind found ≡ Some value
      → Has locals at value × (has_kind kind value ≡ true)
  by None e none = cc none
  by (Some None) e none = cc none
  by (Some (Some there)) e same = of (has_kind kind there) refl same where
    of : (b : Bool) → has_kind kind there ≡ b → (if b then Some there else None) ≡ Some value
        → Has locals at value × (has_kind kind value ≡ true)
    of true k some =
        let found : there ≡ value = cc some in (e ∙ ap (λ (v : Value). Some (Some v)) found, sym (ap (has_kind kind) found) ∙ k)
    of false k none = cc none

-- and a value of a kind that is there is that of the local
pub local_has : (kind : Kind) (at : ℕ) (value : Value) (locals : Units) → Has locals at value → has_kind kind value ≡ true
    → local_value kind locals at ≡ Some value
local_has kind at value locals has is = rw (has, is) refl

module _ {names : Names} {base size : ℕ} {ones others : Units} (units : ShiftedUnits names base size ones others) where
  -- they stay so under more names
  pub shifted_more : {more : Names} → NamesMore names more → ShiftedUnits more base size ones others
  shifted_more grows = record {
    holds = λ at value has fits. (let found = units.holds at value has fits in (found.0, found.1, value_more grows found.2));
    count = units.count;
    room = units.room;
  }

  -- the value of a kind in a local
  pub shifted_local : (kind : Kind) (at : ℕ) (value : Value) → local_value kind ones at ≡ Some value → at + width_of value ≤ size
      → (also : Value) × (local_value kind others (base + at) ≡ Some also) × SameValue names value also
  shifted_local kind at value is fits =
      let has = local_is kind at value ones is in
      let found = units.holds at value has.0 fits in
      (found.0, local_has kind (base + at) found.0 others found.1 (same_kind kind found.2 ∙ has.1), found.2)

  -- a value that the first stores, the second stores from the base on
  pub shifted_stored : (at : ℕ) (value also : Value) (behind : Units) → SameValue names value also → stored at value ones ≡ Some behind
      → (behind_also : Units) × (stored (base + at) also others ≡ Some behind_also) × ShiftedUnits names base size behind behind_also
  shifted_stored at value also behind same is = (
    made.0,
    made.1,
    record {
      holds = λ n v has fits. holds n v has fits (equal_or n at);
      count = let old = units.count in let counts = one.count in omega (arith, old, counts);
      room = let old = units.room in let counts = other.count in omega (arith, old, counts);
    },
  ) where
    one : IsStored at value ones behind
    one = stored_is at value ones behind is

    wide : width_of also ≡ width_of value
    wide = same_width same

    made : (behind_also : Units) × (stored (base + at) also others ≡ Some behind_also)
    made =
        stores (base + at) also others
        (let low = one.room in
        let count = units.count in
        let room = units.room in
        let width = wide in omega (arith, low, count, room, width))

    other : IsStored (base + at) also others made.0
    other = stored_is (base + at) also others made.0 made.1

    cleared : (n : ℕ) (v v_also : Value) → width_of v_also ≡ width_of v → IsClear n v at (at + width_of value)
        → IsClear (base + n) v_also (base + at) (base + at + width_of also)
    cleared n v v_also width (inl below) = inl (omega (arith, below, width))
    cleared n v v_also width (inr high) = inr (let same_wide = wide in omega (arith, high, same_wide))

    holds : (n : ℕ) (v : Value) → Has behind n v → n + width_of v ≤ size → (n ≡ at) ⊎ (n ≡ at → ⊥)
        → (v_also : Value) × (Has made.0 (base + n) v_also) × SameValue names v v_also
    holds n v has fits (inl here) =
        let found : Some (Some v) ≡ Some (Some value) = sym has ∙ ap (slice_get behind) here ∙ one.here in
        let value_is : v ≡ value = cc found in
        (also, ap (λ (k : ℕ). slice_get made.0 (base + k)) here ∙ other.here, rw value_is same)
    holds n v has fits (inr differ) =
        let found = units.holds n v (one.was n v differ has) fits in
        (found.0, other.stays (base + n) found.0 (cleared n v found.0 (same_width found.2) (one.apart n v differ has)) found.1, found.2)

  -- a store from the end of the units on leaves them
  pub shifted_stays : (at : ℕ) (value : Value) (behind : Units) → base + size ≤ at → stored at value others ≡ Some behind
      → ShiftedUnits names base size ones behind
  shifted_stays at value behind past is = record {
    holds =
        λ n v has fits. (
        let found = units.holds n v has fits in
        (found.0, other.stays (base + n) found.0 (clear n v found.0 fits (same_width found.2)) found.1, found.2));
    count = units.count;
    room = let old = units.room in let counts = other.count in omega (arith, old, counts);
  } where
    other : IsStored at value others behind
    other = stored_is at value others behind is

    clear : (n : ℕ) (v v_also : Value) → n + width_of v ≤ size → width_of v_also ≡ width_of v
        → IsClear (base + n) v_also at (at + width_of value)
    clear n v v_also fits width = inl (omega (arith, fits, width, past))

-- ---- units outside

pub outside_itself : (base size : ℕ) (units : Units) → KeepsOutside base size units units
outside_itself base size units = record { count = refl; stays = λ at value clear is. is }

-- a store within the units from a base on leaves those outside
pub stored_outside : (base size at : ℕ) (value : Value) (before after : Units) → at + width_of value ≤ size
    → stored (base + at) value before ≡ Some after
    → KeepsOutside base size before after
stored_outside base size at value before after fits is = record {
  count = made.count;
  stays = λ n v clear there. made.stays n v (clears n v clear) there;
} where
  made : IsStored (base + at) value before after
  made = stored_is (base + at) value before after is

  clears : (n : ℕ) (v : Value) → (n + width_of v ≤ base) ⊎ (base + size ≤ n) → IsClear n v (base + at) (base + at + width_of value)
  clears n v (inl low) = inl (omega (arith, low))
  clears n v (inr high) = inr (omega (arith, high, fits))

-- ---- units with which a method begins

none_replicated : (count at : ℕ) (value : Value) → Has (replicate count None) at value → ⊥
none_replicated zero at value is = none-some (Some value) is
none_replicated (suc count) zero value is = cc is
none_replicated (suc count) (suc at) value is = none_replicated count at value is

length_replicated : (count : ℕ) → length (replicate {A = Option Value} count None) ≡ count
length_replicated zero = refl
length_replicated (suc count) = ap suc (length_replicated count)

module _ {names : Names} where
  has_same : {ones others : Units} (less : ℕ) (more : Units) → SameUnits names ones others → (at : ℕ) (value : Value)
      → Has (ones ++ replicate less None) at value
      → (also : Value) × (Has (others ++ more) at also) × SameValue names value also
  has_same less more no_units at value is = absurd (none_replicated less at value is)
  has_same less more (and_unit no_value rest) zero value is = (let wrong : Some None ≡ Some (Some value) = is in cc wrong)
  has_same less more (and_unit (has_value {one = one} {other = other} same) rest) zero value is =
      let found : Some (Some one) ≡ Some (Some value) = is in
      let value_is : value ≡ one = cc found in
      (other, refl, rw value_is same)
  has_same less more (and_unit one rest) (suc at) value is = has_same less more rest at value is

  -- A method begins with the same units, and with others that hold nothing; in the second with no fewer of these.
  pub shifted_begins : {ones others : Units} (less more : ℕ) → less ≤ more → SameUnits names ones others
      → ShiftedUnits names 0 (length ones + less) (ones ++ replicate less None) (others ++ replicate more None)
  shifted_begins {ones = ones} {others = others} less more low are = record {
    holds = λ at value has fits. (
        let found = has_same less (replicate more None) are at value has in
        let from_none : 0 + at ≡ at = omega arith in
        (found.0, ap (slice_get (others ++ replicate more None)) from_none ∙ found.1, found.2));
    count = counted;
    room = roomy;
  } where
    counted : length (ones ++ replicate less None) ≤ length ones + less
    counted = (let sum = length-append ones (replicate less None) in let count = length_replicated less in omega (arith, sum, count))

    roomy : 0 + (length ones + less) ≤ length (others ++ replicate more None)
    roomy =
        let sum = length-append others (replicate more None) in
        let count = length_replicated more in
        let same_count = same_size are in
        omega (arith, sum, count, same_count, low)
