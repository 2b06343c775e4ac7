-- What is assignable to a type is assignable to a class above that type. (Interfaces aside: a value of a class type is assignable to each.)
use Rattle.std.proofs.Common.{◌≡◌, ◌⊎◌, Bool, true, false, Some, IsTrue, refl, sym, ap, subst, ◌∙◌, inl, inr}
use Rattle.std.proofs.lemmas.Bool.{false≢true}
use Rattle.std.proofs.lemmas.Option.{none-some, same_Some}
use Rattle.class_model.specs.declared.frame.VType.{VType}
use Rattle.class_model.specs.declared.frame.VType.TheVariants as types
use Rattle.class_model.specs.declared.header.Header.{Header}
use Rattle.class_tree.specs.Headers.{Headers, IsThere, Name, class_named}
use Rattle.class_tree.specs.Hierarchy.{IsHierarchy}
use Rattle.class_tree.specs.Laws.Above.{above_is_there, below_more, class_above_interface, hierarchy_is_rooted, hierarchy_is_sound, low_is_there, nothing_above_object, there_is_no_array}
use Rattle.class_tree.specs.Laws.Arrays.{is_array_of, not_above_arrays}
use Rattle.class_tree.specs.Laws.Headers.{class_there}
use Rattle.class_tree.specs.Names.{cloneable, is_interface, object, serializable}
use Rattle.class_tree.specs.Subtype.{IsAboveArrays, IsArray, IsBelow}
use Rattle.expanded_code.specs.Callees.{IsClass}
use Rattle.member_link.specs.Assignability.{IsAssignable, IsNameAssignable, from_array, from_null, of_components, of_names, to_class_above, to_interface, to_itself, to_same, to_top}

-- the interfaces of arrays are interfaces
pub record ArrayInterfaces (headers : Headers) : Type 0 where
  pub clones : (header : Header) → class_named headers cloneable ≡ Some header → IsTrue (is_interface header)
  pub serializes : (header : Header) → class_named headers serializable ≡ Some header → IsTrue (is_interface header)

-- an object's type names an array or a class that is there
pub record IsKnown (headers : Headers) (type : VType) : Type 0 where
  pub named : (name : Name) → type ≡ types.Object name → IsArray name ⊎ IsThere headers name

no_both : {b : Bool} → b ≡ true → b ≡ false → ⊥
no_both one other = false≢true (sym other ∙ one)

module _ (headers : Headers) (hierarchy : IsHierarchy headers) (arrays : ArrayInterfaces headers) where
  no_array : (name : Name) → IsThere headers name → ¬ IsArray name
  no_array name there = there_is_no_array headers (hierarchy_is_sound headers hierarchy) hierarchy.no_array name there

  no_interface : {name : Name} {header : Header} → class_named headers name ≡ Some header → IsTrue (is_interface header) → ¬ IsClass headers name
  no_interface {header = header} found is class =
      no_both is (ap is_interface (same_Some header class.header (sym found ∙ class.found)) ∙ class.no_interface)

  no_class_array : {name : Name} → IsClass headers name → ¬ IsArray name
  no_class_array {name} class array = none-some class.header (sym (hierarchy.no_array name array) ∙ class.found)

  to_object : (low : Name) → ¬ IsArray low → IsArray low ⊎ IsThere headers low → IsNameAssignable headers low object
  to_object low flat (inl array) = absurd (flat array)
  to_object low flat (inr there) = elim (hierarchy_is_rooted headers hierarchy low there) [
    | inl same ↦ subst (IsNameAssignable headers low) same (to_itself low)
    | inr up ↦ to_class_above low object up
  ]

  -- a class above an interface is java/lang/Object
  above_one : {mid high : Name} {header : Header} → class_named headers mid ≡ Some header → IsTrue (is_interface header) → IsBelow headers mid high
      → IsClass headers high
      → high ≡ object
  above_one {header = header} found is up class =
      class_above_interface headers (hierarchy_is_sound headers hierarchy) (hierarchy_is_rooted headers hierarchy) up header class.header found is
      class.found class.no_interface

  of_arrays : {low mid high : Name} → IsArray low → IsAboveArrays mid → IsBelow headers mid high → IsClass headers high
      → IsNameAssignable headers low high
  of_arrays {high = high} array (inl same) up class =
      absurd (nothing_above_object headers (hierarchy_is_sound headers hierarchy) (hierarchy_is_rooted headers hierarchy)
      (subst (λ (name : Name). IsBelow headers name high) same up))
  of_arrays {low = low} {high = high} array (inr (inl same)) up class =
      let from : IsBelow headers cloneable high = subst (λ (name : Name). IsBelow headers name high) same up in
      let header = class_there headers cloneable (low_is_there from) in
      from_array low high array (inl (above_one header.1 (arrays.clones header.0 header.1) from class))
  of_arrays {low = low} {high = high} array (inr (inr same)) up class =
      let from : IsBelow headers serializable high = subst (λ (name : Name). IsBelow headers name high) same up in
      let header = class_there headers serializable (low_is_there from) in
      from_array low high array (inl (above_one header.1 (arrays.serializes header.0 header.1) from class))

  through_names : {low mid high : Name} → IsNameAssignable headers low mid → IsNameAssignable headers mid high → IsClass headers high
      → IsArray low ⊎ IsThere headers low
      → IsNameAssignable headers low high
  through_names (to_itself name) second class known = second
  through_names first (to_itself name) class known = first
  through_names first (to_interface mid high header flat found is) class known = absurd (no_interface found is class)
  through_names (to_class_above low mid up) (to_class_above _ high more) class known = to_class_above low high (below_more up more)
  through_names (to_class_above low mid up) (from_array _ high array above) class known =
      absurd (no_array mid (above_is_there headers (hierarchy_is_sound headers hierarchy) up) array)
  through_names (to_class_above low mid up) (of_components _ high one other is also names) class known =
      absurd (no_array mid (above_is_there headers (hierarchy_is_sound headers hierarchy) up) (is_array_of is))
  through_names (to_interface low mid header flat found is) (to_class_above _ high up) class known =
      subst (IsNameAssignable headers low) (sym (above_one found is up class)) (to_object low flat known)
  through_names (to_interface low mid header flat found is) (from_array _ high array above) class known =
      absurd (none-some header (sym (hierarchy.no_array mid array) ∙ found))
  through_names (to_interface low mid header flat found is) (of_components _ high one other has also names) class known =
      absurd (none-some header (sym (hierarchy.no_array mid (is_array_of has)) ∙ found))
  through_names (from_array low mid array above) (to_class_above _ high up) class known = of_arrays array above up class
  through_names (from_array low mid array above) (from_array _ high also more) class known = absurd (not_above_arrays also above)
  through_names (from_array low mid array above) (of_components _ high one other has also names) class known =
      absurd (not_above_arrays (is_array_of has) above)
  through_names (of_components low mid one other has also names) (to_class_above _ high up) class known =
      absurd (no_array mid (low_is_there up) (is_array_of also))
  through_names (of_components low mid one other has also names) (from_array _ high array above) class known =
      from_array low high (is_array_of has) above
  through_names (of_components low mid one other has also names) (of_components _ high _ third has_mid has_high more) class known =
      absurd (no_class_array class (is_array_of has_high))

  -- What is assignable to a type is so to a class above that.
  pub through_class : {from to : VType} {name : Name} → IsAssignable headers from to → IsAssignable headers to (types.Object name) → IsClass headers name
      → IsKnown headers from
      → IsAssignable headers from (types.Object name)
  through_class (to_same type) second class known = second
  through_class (to_top type) second class known = absurd (top_first second refl) where
    top_first : {from : VType} {name : Name} → IsAssignable headers from (types.Object name) → from ≡ types.Top → ⊥
    top_first (to_same _) is = cc
    top_first (from_null _) is = cc
    top_first (of_names low high _) is = cc
  through_class {name = name} (from_null mid) second class known = from_null name
  through_class {name = name} (of_names low mid names) second class known = by second refl where
    by : {to : VType} → IsAssignable headers to (types.Object name) → to ≡ types.Object mid → IsAssignable headers (types.Object low) (types.Object name)
    by (to_same _) is =
        let same : name ≡ mid = cc in
        of_names low name (subst (IsNameAssignable headers low) (sym same) names)
    by (from_null _) is = absurd cc
    by (of_names from high second) is =
        let same : from ≡ mid = cc in
        of_names low name (through_names names (subst (λ (n : Name). IsNameAssignable headers n name) same second) class (known.named low refl))
