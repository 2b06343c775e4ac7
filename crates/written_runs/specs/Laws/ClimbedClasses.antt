-- A class that is no interface, and that is above another one, is among that one's superclasses, and so in its chain.
use Rattle.std.proofs.Common.{◌≡◌, ◌⊎◌, ◌≤◌, not, ℕ, zero, suc, Bool, true, false, List, [], ◌∷◌, bytes_eq, filter, length, Option, Some, None, IsFalse, IsTrue, refl, sym, ap, subst, ◌∙◌, arith, inl, inr}
use Rattle.std.specs.List.{list_any}
use Rattle.std.proofs.lemmas.Bool.{false≢true, or_left, or_right}
use Rattle.std.proofs.lemmas.Slice.Eq.{bytes_eq-Decides}
use Rattle.class_model.specs.declared.header.Header.{Header}
use Rattle.class_tree.specs.Headers.{Headers, IsThere, Name, all_headers, class_named}
use Rattle.class_tree.specs.Hierarchy.{IsHierarchy, climb, height, superclass_of}
use Rattle.class_tree.specs.Laws.Above.{class_is_climbed, hierarchy_is_rooted, hierarchy_is_sound, low_is_there}
use Rattle.class_tree.specs.Laws.Headers.{class_there, superclass_is}
use Rattle.class_tree.specs.Layouts.{chain, classes_up, superclasses}
use Rattle.class_tree.specs.Names.{is_interface, object}
use Rattle.class_tree.specs.Order.{place_of}
use Rattle.class_tree.specs.Subtype.{IsBelow}
use Rattle.class_tree.specs.declared.place.Place.{Place}

-- it is one of these names
abbrev IsIn : Name → List Name → Type 0
IsIn name [] = ⊥
IsIn name (first ∷ names) = (first ≡ name) ⊎ IsIn name names

fits : (headers : Headers) (fuel : ℕ) (next : Option Place) → climb headers fuel next ≤ fuel
unfolding climb
fits headers zero next = omega arith
fits headers (suc fuel) None = omega arith
fits headers (suc fuel) (Some place) = omega (arith, fits headers fuel (superclass_of headers place))

-- a class is among those upwards of each class at or below it, followed so often
abbrev Reaches : Headers → ℕ → Name → Type 0
Reaches headers fuel high =
    (name : Name) (header : Header)
    → class_named headers name ≡ Some header
    → (name ≡ high) ⊎ IsBelow headers name high
    → height headers (place_of headers name) ≤ fuel
    → IsIn high (classes_up headers fuel (Some name))

climbs : (headers : Headers) → IsHierarchy headers → (fuel : ℕ) (low high : Name) (header above : Header)
    → class_named headers low ≡ Some header
    → class_named headers high ≡ Some above
    → IsFalse (is_interface above)
    → (low ≡ high) ⊎ IsBelow headers low high
    → height headers (place_of headers low) ≤ fuel
    → IsIn high (classes_up headers fuel (Some low))
climbs headers hierarchy zero low high header above is above_is kind up enough =
    let stands = hierarchy.of_name low header is in
    let falls = hierarchy.falls stands.0 header stands.1.at in
    let none : height headers (Some stands.0) ≤ 0 = subst (λ p. height headers p ≤ 0) stands.1.is_place enough in
    absurd (omega (arith, falls, none))
climbs headers hierarchy (suc fuel) low high header above is above_is kind (inl same) enough = inl same
climbs headers hierarchy (suc fuel) low high header above is above_is kind (inr up) enough =
    let sound = hierarchy_is_sound headers hierarchy in
    let next = class_is_climbed headers sound (hierarchy_is_rooted headers hierarchy) up header above is above_is kind in
    let stands = hierarchy.of_name low header is in
    let falls = hierarchy.falls stands.0 header stands.1.at in
    let now : height headers (Some stands.0) ≤ suc fuel = subst (λ p. height headers p ≤ suc fuel) stands.1.is_place enough in
    let left : height headers (place_of headers next.0) ≤ fuel =
    subst (λ p. height headers p ≤ fuel) (superclass_is headers stands.0 header stands.1.at next.0 next.1) (omega (arith, falls, now)) in
    let others : Reaches headers fuel high =
    λ name h named more few. climbs headers hierarchy fuel name high h above named above_is kind more few in
    inr (rw is (rw next.1 (further others next.0 next.2 left))) where
      further : Reaches headers fuel high
          → (name : Name)
          → (name ≡ high) ⊎ IsBelow headers name high
          → height headers (place_of headers name) ≤ fuel
          → IsIn high (classes_up headers fuel (Some name))
      further others name (inl same) left =
          others name above (subst (λ n. class_named headers n ≡ Some above) (sym same) above_is) (inl same) left
      further others name (inr more) left = let c = class_there headers name (low_is_there more) in others name c.0 c.1 (inr more) left

chosen : (high : Name) (names : List Name) → bytes_eq high object ≡ false → IsIn high names
    → IsTrue (list_any (bytes_eq high) (filter (λ name. not (bytes_eq name object)) names))
chosen high [] other is = absurd is
chosen high (first ∷ names) other is = by (bytes_eq first object) refl is (chosen high names other) where
  left_names : List Name
  left_names = filter (λ name. not (bytes_eq name object)) names

  by : (b : Bool) → bytes_eq first object ≡ b → (first ≡ high) ⊎ IsIn high names
      → (IsIn high names → IsTrue (list_any (bytes_eq high) left_names))
      → IsTrue (list_any (bytes_eq high) (filter (λ name. not (bytes_eq name object)) (first ∷ names)))
  by true e (inl same) rest = absurd (false≢true (sym other ∙ ap (λ (name : Name). bytes_eq name object) (sym same) ∙ e))
  by true e (inr later) rest = rw (e) (rest later)
  by false e (inl same) rest =
      rw (e) (or_left (bytes_eq high first) (list_any (bytes_eq high) left_names) ((bytes_eq-Decides high first).1 (sym same)))
  by false e (inr later) rest = rw (e) (or_right (bytes_eq high first) (list_any (bytes_eq high) left_names) (rest later))

pub in_chain : (headers : Headers) → IsHierarchy headers → (low high : Name) (above : Header)
    → IsThere headers low
    → class_named headers high ≡ Some above
    → IsFalse (is_interface above)
    → bytes_eq high object ≡ false
    → (low ≡ high) ⊎ IsBelow headers low high
    → IsTrue (list_any (bytes_eq high) (chain headers low))
in_chain headers hierarchy low high above is_there is kind other up =
    let c = class_there headers low is_there in
    chosen high (superclasses headers low) other
    (climbs headers hierarchy (length (all_headers headers)) low high c.0 above c.1 is kind up
    (fits headers (length (all_headers headers)) (place_of headers low)))
