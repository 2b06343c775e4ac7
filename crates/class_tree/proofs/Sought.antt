-- A class that is sought among the superclasses of a class, upwards.
use Rattle.std.proofs.Common.{◌≡◌, ◌≢◌, ◌⊎◌, ◌↔◌, Option, Some, None, IsSome, IfSome, IsFalse, refl, sym, ap, subst, ◌∙◌, inl, inr}
use Rattle.std.proofs.lemmas.Option.{same_Some}
use Rattle.class_model.specs.declared.header.Header.{Header}
use Rattle.class_tree.proofs.ClassHolds.{is_sound}
use Rattle.class_tree.specs.Headers.{Name, Headers, class_named}
use Rattle.class_tree.specs.Hierarchy.{superclass_of}
use Rattle.class_tree.specs.Laws.Above.{IsReached, class_is_climbed}
use Rattle.class_tree.specs.Laws.Headers.{header_there, no_superclass, superclass_is, superclass_there}
use Rattle.class_tree.specs.Names.{is_interface}
use Rattle.class_tree.specs.Order.{header_at, place_of}
use Rattle.class_tree.specs.Subtype.{IsDirectlyBelow, superclass, IsBelow, directly, onwards}
use Rattle.class_tree.specs.declared.place.Place.{Place}
use Rattle.class_tree.proofs.Climbing.{some_superclass, named_at_place, rooted}
use Rattle.class_tree.proofs.SamePlaces.{place_of_own}
use Rattle.class_tree.proofs.Superclasses.{Placed}
use Rattle.class_tree.proofs.TreeClasses.{HoldsSteps}

-- what is above a class is reached from its superclass
reached_decides : (headers : Headers) → HoldsSteps headers → (place : Place) (header : Header) → header_at headers place ≡ Some header → (above : Place) (high : Header) → header_at headers above ≡ Some high → IsFalse (is_interface high) → IsBelow headers header.name high.name ↔ IsReached headers (superclass_of headers place) high.name
reached_decides headers tree place header at above high above_at kind = (to, from header.super_name refl)
  where
    named : class_named headers header.name ≡ Some header
    named = named_at_place headers tree place header at

    at_superclass : (name : Name) → header.super_name ≡ Some name → (class : Placed headers name) → superclass_of headers place ≡ Some class.place
    at_superclass name some class = superclass_is headers place header at name some ∙ class.is

    to : IsBelow headers header.name high.name → IsReached headers (superclass_of headers place) high.name
    to up =
        let climbed = class_is_climbed headers (is_sound headers tree.hold) (rooted headers tree) up header high named (named_at_place headers tree above high above_at) kind in
        let class = some_superclass headers tree place header at climbed.0 climbed.1 in
        subst (λ (next : Option Place). IsReached headers next high.name) (sym (at_superclass climbed.0 climbed.1 class))
        (class.header, class.at, subst (λ n. (n ≡ high.name) ⊎ IsBelow headers n high.name) (sym class.same) climbed.2)

    from : (super : Option Name) → header.super_name ≡ super → IsReached headers (superclass_of headers place) high.name → IsBelow headers header.name high.name
    from None none reached = absurd (subst (λ (next : Option Place). IsReached headers next high.name) (no_superclass headers place header at none) reached)
    from (Some name) some reached =
        let class = some_superclass headers tree place header at name some in
        let found = subst (λ (next : Option Place). IsReached headers next high.name) (at_superclass name some class) reached in
        let same : found.0.name ≡ name = ap (λ (h : Header). h.name) (same_Some found.0 class.header (sym found.1 ∙ class.at)) ∙ class.same in
        let step = superclass header.name name header named some in
        elim found.2 [
          | inl here ↦ directly header.name high.name (subst (IsDirectlyBelow headers header.name) (sym same ∙ here) step)
          | inr up ↦ onwards header.name name high.name step (subst (λ n. IsBelow headers n high.name) same up)
        ]

-- the one class is above the other where it is reached from this place
pub record IsSought (headers : Headers) (class above : Place) (next : Option Place) : Type 0 where
  pub decides : (low high : Header) → header_at headers class ≡ Some low → header_at headers above ≡ Some high → IsFalse (is_interface high) → IsBelow headers low.name high.name ↔ IsReached headers next high.name
  pub there : IfSome next (λ place. IsSome (header_at headers place))

pub first_sought : (headers : Headers) → HoldsSteps headers → (class above : Place) → IsSought headers class above (superclass_of headers class)
first_sought headers tree class above = record {
  decides = λ low high low_at high_at kind. reached_decides headers tree class low low_at above high high_at kind;
  there = superclass_there headers class;
}

pub sought_more : (headers : Headers) → HoldsSteps headers → (class above place : Place) (header : Header) → header_at headers place ≡ Some header → place ≢ above → IsSought headers class above (Some place) → IsSought headers class above (superclass_of headers place)
sought_more headers tree class above place header at differ sought = record {
  decides = λ low high low_at high_at kind.
      let before = sought.decides low high low_at high_at kind in
      let step = reached_decides headers tree place header at above high high_at kind in
      (λ up. step.0 (not_here high high_at (before.0 up)), λ reached. before.1 (header, at, inr (step.1 reached)));
  there = superclass_there headers place;
}
  where
    not_here : (high : Header) → header_at headers above ≡ Some high → IsReached headers (Some place) high.name → IsBelow headers header.name high.name
    not_here high high_at reached =
        let same = same_Some reached.0 header (sym reached.1 ∙ at) in
        elim reached.2 [
          | inl here ↦ absurd (differ (same_Some place above (sym (place_of_own headers tree place header at) ∙ ap (place_of headers) (ap (λ (h : Header). h.name) (sym same) ∙ here) ∙ place_of_own headers tree above high high_at)))
          | inr up ↦ subst (λ (h : Header). IsBelow headers h.name high.name) same up
        ]

pub sought_here : (headers : Headers) (class above : Place) → IsSought headers class above (Some above) → (low high : Header) → header_at headers class ≡ Some low → header_at headers above ≡ Some high → IsFalse (is_interface high) → IsBelow headers low.name high.name
sought_here headers class above sought low high low_at high_at kind = (sought.decides low high low_at high_at kind).1 (high, high_at, inl refl)

pub sought_nowhere : (headers : Headers) (class above : Place) → IsSought headers class above None → (low high : Header) → header_at headers class ≡ Some low → header_at headers above ≡ Some high → IsFalse (is_interface high) → ¬ IsBelow headers low.name high.name
sought_nowhere headers class above sought low high low_at high_at kind up = (sought.decides low high low_at high_at kind).0 up

-- the class at the next place
pub next_there : (headers : Headers) (next : Option Place) (place : Place) → IfSome next (λ place. IsSome (header_at headers place)) → next ≡ Some place → (header : Header) × (header_at headers place ≡ Some header)
next_there headers next place there is = header_there headers place (subst (λ (next : Option Place). IfSome next (λ place. IsSome (header_at headers place))) is there)
