use Rattle.std.specs.Prelude.{◌≡◌, ◌⊎◌, ◌↔◌, Some}
use Rattle.std.proofs.Common.{inl, inr, sym, ◌∙◌, subst}
use Rattle.class_tree.specs.Headers.{Name, IsThere}
use Rattle.class_tree.specs.Laws.Above.{hierarchy_is_sound, low_is_there, directly_there, there_is_no_array, class_decides}
use Rattle.class_tree.specs.Laws.Arrays.{not_above_arrays}
use Rattle.class_tree.specs.Names.{object}
use Rattle.class_tree.specs.Subtype.{IsArray, IsDirectlyBelow, IsBelow, directly, IsSubtype, itself, below, of_arrays, components}
use Rattle.machine_values.specs.Values.{component_text}
use Rattle.machine_values.specs.declared.object.Shape.{Shape}
use Rattle.member_link.specs.Assignability.{to_class_above}
use Rattle.member_link.specs.Machine.Programs.{Program, headers_in}
use Rattle.member_link.specs.Machine.Shapes.{component_named}
use Rattle.typed_runs.proofs.AssignedNames.{component_is, array_of_text, no_object_array, no_array_interface, above_arrays, array_below, name_assigned}
use Rattle.typed_runs.proofs.Basics.{some_of}
use Rattle.typed_runs.specs.Conforming.{NameConforms, to_below, to_interface, to_object, of_components, ShapeConforms, by_class, by_interface}
use Rattle.typed_runs.specs.TypedPrograms.{Typings, IsTypedProgram}

-- the component of an array, which is taken for another one
pub record ComponentConforms (P : Program) (low component : Name) : Type 0 where
  pub name : Name
  pub is_component : component_named (component_text low) ≡ Some name
  pub conforms : NameConforms P name component

-- what an object is taken for is taken for whatever that is taken for
module _ (P : Program) (T : Typings) (program : IsTypedProgram P T) where
  -- ---- no class is an array, nor below one

  pub class_is_no_array : (name : Name) → IsThere (headers_in P) name → IsArray name → ⊥
  class_is_no_array name there is =
      there_is_no_array (headers_in P) (hierarchy_is_sound (headers_in P) program.hierarchy) program.hierarchy.no_array name there is

  pub not_under_array : {low middle high : Name} → IsDirectlyBelow (headers_in P) low middle → IsSubtype (headers_in P) middle high
      → IsArray high → ⊥
  not_under_array {middle = middle} step rest is =
      class_is_no_array middle (directly_there (headers_in P) (hierarchy_is_sound (headers_in P) program.hierarchy) step)
      (array_below P T program rest is)

  -- ---- what is taken for an array of references is one

  pub subtype_component : {a low component : Name} → component_named (component_text low) ≡ Some component → IsSubtype (headers_in P) a low
      → ComponentConforms P a component
  subtype_component {component = c} has (itself a) =
      record { name = c; is_component = has; conforms = to_below ((program.links.below c c).1 (itself c)) }
  subtype_component {low = low} {component = c} has (below _ middle _ step rest) =
      absurd (not_under_array step rest (array_of_text low c has))
  subtype_component {low = low} {component = c} has (of_arrays _ _ is_array above) =
      absurd (not_above_arrays (array_of_text low c has) above)
  subtype_component {component = c} has (components _ _ one other of_low also sub) =
      let same : other ≡ c = some_of (sym (component_is also) ∙ has) in
      let up : IsSubtype (headers_in P) one c = subst (λ n. IsSubtype (headers_in P) one n) same sub in
      record { name = one; is_component = component_is of_low; conforms = to_below ((program.links.below one c).1 up) }

  pub component_through : {a low component : Name} → component_named (component_text low) ≡ Some component → NameConforms P a low
      → ComponentConforms P a component
  component_through {low = low} has (to_below {low = a} is) = subtype_component has ((program.links.below a low).0 is)
  component_through {low = low} {component = c} has (to_interface is) =
      let e = no_array_interface P T program low (array_of_text low c has) in cc
  component_through {component = c} has to_object = absurd (no_object_array (array_of_text object c has))
  component_through {component = c} has (of_components {low_component = one} {high_component = other} is also conforms) =
      let same : other ≡ c = some_of (sym also ∙ has) in
      record { name = one; is_component = is; conforms = subst (λ n. NameConforms P one n) same conforms }

  -- ---- through a name

  pub then_below : {b c : Name} → IsSubtype (headers_in P) b c → {a : Name} → NameConforms P a b → NameConforms P a c
  then_below (itself _) conforms = conforms
  then_below {b = b} {c = c} (below _ middle _ step rest) {a = a} conforms = by (decides.0 (below b middle c step rest)) where
    decides : IsSubtype (headers_in P) b c ↔ ((b ≡ c) ⊎ IsBelow (headers_in P) b c)
    decides =
        class_decides (headers_in P) (hierarchy_is_sound (headers_in P) program.hierarchy) program.hierarchy.no_array b c
        (class_is_no_array b (low_is_there (directly b middle step)))

    by : (b ≡ c) ⊎ IsBelow (headers_in P) b c → NameConforms P a c
    by (inl same) = subst (λ n. NameConforms P a n) same conforms
    by (inr up) = name_assigned P T program b c (to_class_above b c up) conforms
  then_below (of_arrays _ _ is_array above) conforms = above_arrays P T program above
  then_below (components _ _ one other of_low also sub) conforms =
      let c = component_through (component_is of_low) conforms in
      of_components c.is_component (component_is also) (then_below sub c.conforms)

  pub conforms_through : {b c : Name} → NameConforms P b c → {a : Name} → NameConforms P a b → NameConforms P a c
  conforms_through (to_below {low = b} {high = c} is) conforms = then_below ((program.links.below b c).0 is) conforms
  conforms_through (to_interface is) conforms = to_interface is
  conforms_through to_object conforms = to_object
  conforms_through (of_components is also more) conforms =
      let c = component_through is conforms in of_components c.is_component also (conforms_through more c.conforms)

  pub shape_through : {shape : Shape} {b c : Name} → NameConforms P b c → ShapeConforms P shape b → ShapeConforms P shape c
  shape_through more (by_class is) = by_class (conforms_through more is)
  shape_through more (by_interface number also is) = by_interface number also (conforms_through more is)
