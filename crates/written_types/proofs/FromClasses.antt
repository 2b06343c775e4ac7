-- From a class assignability is transitive: a class above an interface is java/lang/Object, and each interface is reached at once.
use Rattle.std.proofs.Common.{◌≡◌, Bool, true, false, Some, IsTrue, refl, sym, subst, ◌∙◌, inl, inr}
use Rattle.std.proofs.lemmas.Option.{none-some}
use Rattle.class_model.specs.declared.frame.VType.{VType}
use Rattle.class_model.specs.declared.frame.VType.TheVariants as types
use Rattle.class_model.specs.declared.header.Header.{Header}
use Rattle.class_tree.specs.Headers.{Headers, IsThere, Name, class_named}
use Rattle.class_tree.specs.Hierarchy.{IsHierarchy}
use Rattle.class_tree.specs.Laws.Above.{above_is_there, below_more, class_above_interface, hierarchy_is_rooted, hierarchy_is_sound, there_is_no_array}
use Rattle.class_tree.specs.Laws.Arrays.{is_array_of}
use Rattle.class_tree.specs.Laws.Headers.{class_there}
use Rattle.class_tree.specs.Names.{is_interface, object}
use Rattle.class_tree.specs.Subtype.{IsArray, IsBelow, IsSubtype, itself, below, of_arrays, components, directly}
use Rattle.member_link.specs.Assignability.{IsAssignable, IsNameAssignable, from_array, from_null, of_components, of_names, to_class_above, to_interface, to_itself, to_same, to_top}

module _ (headers : Headers) (hierarchy : IsHierarchy headers) where
  no_array : {name : Name} → IsThere headers name → ¬ IsArray name
  no_array {name} there = there_is_no_array headers (hierarchy_is_sound headers hierarchy) hierarchy.no_array name there

  found_no_array : {name : Name} {header : Header} → class_named headers name ≡ Some header → ¬ IsArray name
  found_no_array {name} {header} found array = none-some header (sym (hierarchy.no_array name array) ∙ found)

  to_object : {low : Name} → IsThere headers low → IsNameAssignable headers low object
  to_object {low} there = elim (hierarchy_is_rooted headers hierarchy low there) [
    | inl same ↦ subst (IsNameAssignable headers low) same (to_itself low)
    | inr up ↦ to_class_above low object up
  ]

  -- above an interface
  over_interface : {low mid high : Name} {header : Header} → IsThere headers low → class_named headers mid ≡ Some header
      → IsTrue (is_interface header)
      → IsBelow headers mid high
      → IsNameAssignable headers low high
  over_interface {low} {mid} {high} {header} there found is up =
      by (class_there headers high (above_is_there headers (hierarchy_is_sound headers hierarchy) up)) where
        of_kind : (above : Header) → class_named headers high ≡ Some above → (kind : Bool) → is_interface above ≡ kind
            → IsNameAssignable headers low high
        of_kind above named true kind = to_interface low high above (no_array there) named kind
        of_kind above named false kind =
            subst (IsNameAssignable headers low)
            (sym (class_above_interface headers (hierarchy_is_sound headers hierarchy) (hierarchy_is_rooted headers hierarchy) up header above found is
            named kind)) (to_object there)

        by : (above : Header) × (class_named headers high ≡ Some above) → IsNameAssignable headers low high
        by above = of_kind above.0 above.1 (is_interface above.0) refl

  through_names : {low mid high : Name} → IsThere headers low → IsNameAssignable headers low mid → IsNameAssignable headers mid high
      → IsNameAssignable headers low high
  through_names there (to_itself name) second = second
  through_names there first (to_itself name) = first
  through_names there first (to_interface mid high header flat found is) = to_interface _ high header (no_array there) found is
  through_names there (to_class_above low mid up) (to_class_above _ high more) = to_class_above low high (below_more up more)
  through_names there (to_class_above low mid up) (from_array _ high array above) =
      absurd (no_array (above_is_there headers (hierarchy_is_sound headers hierarchy) up) array)
  through_names there (to_class_above low mid up) (of_components _ high one other is also names) =
      absurd (no_array (above_is_there headers (hierarchy_is_sound headers hierarchy) up) (is_array_of is))
  through_names there (to_interface low mid header flat found is) (to_class_above _ high up) = over_interface there found is up
  through_names there (to_interface low mid header flat found is) (from_array _ high array above) = absurd (found_no_array found array)
  through_names there (to_interface low mid header flat found is) (of_components _ high one other has also names) =
      absurd (found_no_array found (is_array_of has))
  through_names there (from_array low mid array above) second = absurd (no_array there array)
  through_names there (of_components low mid one other has also names) second = absurd (no_array there (is_array_of has))

  -- What a class is assignable to it is assignable from there on.
  pub from_class : {name : Name} {from type other : VType} → IsThere headers name → from ≡ types.Object name → IsAssignable headers from type
      → IsAssignable headers type other → IsAssignable headers from other
  from_class there is (to_same type) second = second
  from_class {other = other} there is (to_top type) second = of_top second refl where
    of_top : {mid high : VType} → IsAssignable headers mid high → mid ≡ types.Top → IsAssignable headers type high
    of_top (to_same _) same = subst (IsAssignable headers type) (sym same) (to_top type)
    of_top (to_top _) same = to_top type
    of_top (from_null _) same = absurd cc
    of_top (of_names _ _ _) same = absurd cc
  from_class there is (from_null mid) second = absurd cc
  from_class {name} there is (of_names low mid names) second = by second refl where
    by : {middle high : VType} → IsAssignable headers middle high → middle ≡ types.Object mid → IsAssignable headers (types.Object low) high
    by (to_same _) same = subst (IsAssignable headers (types.Object low)) (sym same) (of_names low mid names)
    by (to_top _) same = to_top (types.Object low)
    by (from_null _) same = absurd cc
    by (of_names first high more) same =
        let middle : first ≡ mid = cc in
        let own : low ≡ name = cc in
        of_names low high (through_names (subst (IsThere headers) (sym own) there) names
        (subst (λ (n : Name). IsNameAssignable headers n high) middle more))

  -- what is below a class in the hierarchy is assignable to it
  pub class_below : {low high : Name} → IsThere headers low → IsSubtype headers low high → IsAssignable headers (types.Object low) (types.Object high)
  class_below there sub = of_names _ _ (by there sub) where
    by : {low high : Name} → IsThere headers low → IsSubtype headers low high → IsNameAssignable headers low high
    by there (itself name) = to_itself name
    by there (below low middle high step rest) =
        through_names there (to_class_above low middle (directly low middle step))
        (by (above_is_there headers (hierarchy_is_sound headers hierarchy) (directly low middle step)) rest)
    by there (of_arrays low high array above) = absurd (no_array there array)
    by there (components low high one other has also sub) = absurd (no_array there (is_array_of has))
