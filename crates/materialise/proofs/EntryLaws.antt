-- The units below each entry of the operand stack are no more than the deepest stack has.
use Rattle.std.proofs.Common.{◌≡◌, ◌+◌, ◌≤◌, ℕ, suc, Bool, true, false, cond, List, [], ◌∷◌, ◌++◌, length, reverse, drop, Option, Some, None, refl, sym, subst, arith}
use Rattle.std.specs.List.{AllByRecursion, filter}
use Rattle.std.proofs.lemmas.List.{reverse-append}
use Rattle.class_model.specs.Frames.{depth}
use Rattle.class_model.specs.declared.frame.VType.{VType}
use Rattle.flow_code.specs.FlatCode.{FlatCode, point_at}
use Rattle.flow_code.specs.WrittenUnits.{greatest_depth}
use Rattle.flow_code.specs.declared.point.Point.{Point}
use Rattle.making_code.specs.MakeCode.{Entry, entries_at, entries_from, entries_in, from_lowest, is_plain, names_in, saved}
use Rattle.materialise.proofs.DepthLaws.{depth_first, no_deeper}
use Rattle.virtual_state.specs.States.{State}
use Rattle.virtual_state.specs.declared.slot.Slot.{Slot}

abbrev pub IsLow : FlatCode → Entry → Type 0
IsLow flat entry = entry.below ≤ greatest_depth flat.points

module _ (flat : FlatCode) where
  entries_low : (place below : ℕ) (types : List VType) (slots : List Slot) → below + depth types ≤ greatest_depth flat.points → AllByRecursion (IsLow flat) (entries_from place below types slots)
  entries_low place below [] slots few = tt
  entries_low place below (type ∷ types) [] few = tt
  entries_low place below (type ∷ types) (slot ∷ slots) few =
      let first = depth_first type types in
      let one = depth_first type [] in
      (omega (arith, few), entries_low (suc place) (below + depth (type ∷ [])) types slots (omega (arith, few, first, one)))

  lowest_low : (sites : List ℕ) (entries : List Entry) → AllByRecursion (IsLow flat) entries → AllByRecursion (IsLow flat) (from_lowest sites entries)
  lowest_low sites [] all = tt
  lowest_low sites (entry ∷ entries) all = by (names_in sites entry.slot) (lowest_low sites entries all.1) where
    by : (test : Bool) → AllByRecursion (IsLow flat) (from_lowest sites entries) → AllByRecursion (IsLow flat) (cond test (entry ∷ entries) (from_lowest sites entries))
    by true rest = all
    by false rest = rest

  filtered_low : (test : Entry → Bool) (entries : List Entry) → AllByRecursion (IsLow flat) entries → AllByRecursion (IsLow flat) (filter test entries)
  filtered_low test [] all = tt
  filtered_low test (entry ∷ entries) all = by (test entry) (filtered_low test entries all.1) where
    by : (passes : Bool) → AllByRecursion (IsLow flat) (filter test entries) → AllByRecursion (IsLow flat) (cond passes (entry ∷ filter test entries) (filter test entries))
    by true rest = (all.0, rest)
    by false rest = rest

  both_low : (front back : List Entry) → AllByRecursion (IsLow flat) front → AllByRecursion (IsLow flat) back → AllByRecursion (IsLow flat) (front ++ back)
  both_low [] back one other = other
  both_low (entry ∷ front) back one other = (one.0, both_low front back one.1 other)

  turned_low : (entries : List Entry) → AllByRecursion (IsLow flat) entries → AllByRecursion (IsLow flat) (reverse entries)
  turned_low [] all = tt
  turned_low (entry ∷ entries) all =
      subst (AllByRecursion (IsLow flat)) (sym (reverse-append (entry ∷ []) entries))
      (both_low (reverse entries) (entry ∷ []) (turned_low entries all.1) (all.0, tt))

module _ (flat : FlatCode) (at : ℕ) (state : State) (sites : List ℕ) where
  at_low : AllByRecursion (IsLow flat) (entries_at flat at state)
  at_low = by (point_at flat at) refl where
    by : (found : Option Point) → point_at flat at ≡ found → AllByRecursion (IsLow flat) (entries_in found state)
    by None is = tt
    by (Some point) is = entries_low flat 0 0 point.typed.stack (drop (length point.typed.locals) state.slots) (let deep = no_deeper flat.points at point is in omega (arith, deep))

  pub above_low : AllByRecursion (IsLow flat) (from_lowest sites (entries_at flat at state))
  above_low = lowest_low flat sites (entries_at flat at state) at_low

  pub saved_low : AllByRecursion (IsLow flat) (saved sites (entries_at flat at state))
  saved_low =
      turned_low flat (filter (λ entry. is_plain entry.slot) (from_lowest sites (entries_at flat at state)))
      (filtered_low flat (λ entry. is_plain entry.slot) (from_lowest sites (entries_at flat at state)) above_low)
