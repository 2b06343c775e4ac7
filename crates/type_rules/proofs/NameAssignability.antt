-- Assignability of arrays and of classes in a hierarchy.
use Rattle.std.proofs.Common.{◌≡◌, ◌⊎◌, ◌↔◌, refl, subst, inl, inr}
use Rattle.class_tree.specs.Headers.{Name, Headers}
use Rattle.class_tree.specs.Hierarchy.{IsHierarchy}
use Rattle.class_tree.specs.Laws.Arrays.{is_array_of, same_component, not_above_arrays, not_below}
use Rattle.class_tree.specs.Subtype.{AreComponents, none_taken, both_taken, IsBelow, IsArray, IsReferenceComponent, IsAboveArrays}
use Rattle.member_link.specs.Assignability.{IsNameAssignable, to_itself, to_interface, to_class_above, from_array, of_components}
use Rattle.member_link.specs.Forms.{IsInterfaceNamed}

-- two that do not both have a component
abbrev pub AreInnermost : Name → Name → Type 0
AreInnermost low high = (low_component high_component : Name) → IsReferenceComponent low low_component → ¬ IsReferenceComponent high high_component

module _ (headers : Headers) (hierarchy : IsHierarchy headers) where
  of_arrays : {low high : Name} → IsNameAssignable headers low high → (one other : Name) → IsReferenceComponent low one → IsReferenceComponent high other → IsNameAssignable headers one other
  of_arrays (to_itself name) one other is also = subst (IsNameAssignable headers one) (same_component is also) (to_itself one)
  of_arrays (to_interface low high header flat there kind) one other is also = absurd (flat (is_array_of is))
  of_arrays (to_class_above low high up) one other is also = absurd (not_below headers hierarchy.no_array (is_array_of is) up)
  of_arrays (from_array low high deep above) one other is also = absurd (not_above_arrays (is_array_of also) above)
  of_arrays (of_components low high a b low_is high_is inner) one other is also =
      subst (λ name. IsNameAssignable headers name other) (same_component low_is is) (subst (IsNameAssignable headers a) (same_component high_is also) inner)

  -- arrays are as their components are
  pub components_decide : (low high one other : Name) → IsReferenceComponent low one → IsReferenceComponent high other → IsNameAssignable headers low high ↔ IsNameAssignable headers one other
  components_decide low high one other is also = (λ whole. of_arrays whole one other is also, λ inner. of_components low high one other is also inner)

  pub all_components_decide : {low high one other : Name} → AreComponents low high one other → IsNameAssignable headers low high ↔ IsNameAssignable headers one other
  all_components_decide none_taken = (λ whole. whole, λ whole. whole)
  all_components_decide (both_taken one other one_component other_component taken is also) =
      let before = all_components_decide taken in
      let step = components_decide one other one_component other_component is also in
      (λ whole. step.0 (before.0 whole), λ inner. before.1 (step.1 inner))

  of_array : {low high : Name} → IsNameAssignable headers low high → IsArray low → AreInnermost low high → (low ≡ high) ⊎ IsAboveArrays high
  of_array (to_itself name) is last = inl refl
  of_array (to_interface low high header flat there kind) is last = absurd (flat is)
  of_array (to_class_above low high up) is last = absurd (not_below headers hierarchy.no_array is up)
  of_array (from_array low high deep above) is last = inr above
  of_array (of_components low high one other low_is high_is inner) is last = absurd (last one other low_is high_is)

  -- what an array is assignable to that has no component that the other has
  pub array_decides : (low high : Name) → IsArray low → ¬ (low ≡ high) → AreInnermost low high → IsAboveArrays high ↔ IsNameAssignable headers low high
  array_decides low high is differ last = (
    λ above. from_array low high is above,
    λ whole. elim (of_array whole is last) [ inl same ↦ absurd (differ same) | inr above ↦ above ],
  )

  of_class : {low high : Name} → IsNameAssignable headers low high → ¬ IsArray low → (low ≡ high) ⊎ (IsInterfaceNamed headers high ⊎ IsBelow headers low high)
  of_class (to_itself name) flat = inl refl
  of_class (to_interface low high header also there kind) flat = inr (inl (header, there, kind))
  of_class (to_class_above low high up) flat = inr (inr up)
  of_class (from_array low high is above) flat = absurd (flat is)
  of_class (of_components low high one other low_is high_is inner) flat = absurd (flat (is_array_of low_is))

  -- what a class is assignable to that is no interface
  pub class_decides : (low high : Name) → ¬ IsArray low → ¬ (low ≡ high) → ¬ IsInterfaceNamed headers high → IsBelow headers low high ↔ IsNameAssignable headers low high
  class_decides low high flat differ none = (
    λ up. to_class_above low high up,
    λ whole. elim (of_class whole flat) [
      | inl same ↦ absurd (differ same)
      | inr (inl named) ↦ absurd (none named)
      | inr (inr up) ↦ up
    ],
  )
