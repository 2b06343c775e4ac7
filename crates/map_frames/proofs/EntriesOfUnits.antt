-- The entries of units, one after the other.
use Rattle.std.proofs.Common.{◌≡◌, ℕ, ◌-◌, ◌≤◌, cond, List, [], ◌∷◌, length, drop, get_or, take, Option, Some, None, IfNone, ap, ◌∙◌, arith}
use Rattle.std.proofs.Math.Seq.{take-length}
use Rattle.class_model.specs.Frames.{is_wide, entries_of_units}
use Rattle.class_model.specs.declared.frame.VType.{VType}
use Rattle.map_frames.specs.Inner.Change.{AreApart}
use Rattle.map_frames.proofs.EntryUnits.{entries-cons}

pub first_of : (units : List VType) (first : VType) (behind : List VType) → 1 ≤ length units → first ≡ get_or units 0 first
    → behind ≡ cond (is_wide first) (drop 1 (take (length units - 1) (drop 1 units))) (take (length units - 1) (drop 1 units)) → entries_of_units units ≡ first ∷ entries_of_units behind
first_of [] first behind some is behind_is = absurd (omega arith)
first_of (type ∷ types) first behind some is behind_is =
    let count : length (type ∷ types) - 1 ≡ length types = omega arith in
    let whole : take (length (type ∷ types) - 1) types ≡ types = ap (λ (n : ℕ). take n types) count ∙ take-length types in
    rw (behind_is, whole, is) (entries-cons type types)

pub no_entries : (units : List VType) → units ≡ [] → entries_of_units units ≡ []
unfolding entries_of_units
no_entries units none = rw none

pub apart_from_none : (units : List VType) → units ≡ [] → (others : List VType) → AreApart (entries_of_units units) others
apart_from_none units none others = rw (no_entries units none) tt

pub none_apart : (units : List VType) → units ≡ [] → (others : List VType) → AreApart others (entries_of_units units)
none_apart units none [] = tt
none_apart units none (other ∷ others) = rw (no_entries units none) tt

-- what holds, holds of nothing
pub if_none : {X : Type 0} (found : Option X) (P : Type 0) → P → IfNone found P
if_none None P holds = holds
if_none (Some x) P holds = tt
