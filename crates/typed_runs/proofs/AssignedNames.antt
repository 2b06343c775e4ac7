use Rattle.std.specs.Prelude.{◌≡◌, ◌==◌, ◌-◌, refl, Bool, true, false, [], ◌∷◌, ◌++◌, length, get_or, Some, IsTrue, if◌then◌else◌}
use Rattle.std.proofs.Common.{arith, inl, inr, ap, sym, ◌∙◌, subst}
use Rattle.std.proofs.lemmas.List.{length_push, take_at}
use Rattle.class_model.specs.Characters.{left_bracket, semicolon}
use Rattle.class_model.specs.declared.header.Header.{Header}
use Rattle.class_tree.specs.Headers.{Name, class_named}
use Rattle.class_tree.specs.Laws.Above.{hierarchy_is_sound, hierarchy_is_rooted, low_is_there, above_is_there, directly_there, nothing_above_object, class_above_interface, there_is_no_array, class_is_subtype}
use Rattle.class_tree.specs.Laws.Arrays.{is_array_of, same_component, not_above_arrays, not_below}
use Rattle.class_tree.specs.Laws.Headers.{class_there}
use Rattle.class_tree.specs.Names.{object, is_interface}
use Rattle.class_tree.specs.Subtype.{IsDirectlyBelow, IsBelow, IsArray, IsReferenceComponent, array, class, IsAboveArrays, IsSubtype, itself, below, of_arrays, components}
use Rattle.machine_values.specs.Values.{component_text}
use Rattle.member_link.specs.Assignability.{IsNameAssignable, to_itself, to_interface as to_interface_name, to_class_above, from_array, of_components as of_component_names}
use Rattle.member_link.specs.Machine.Programs.{Program, headers_in, is_interface_named}
use Rattle.member_link.specs.Machine.Shapes.{component_named}
use Rattle.typed_runs.proofs.Basics.{some_of}
use Rattle.typed_runs.specs.Conforming.{NameConforms, to_below, to_interface, to_object, of_components}
use Rattle.typed_runs.specs.TypedPrograms.{Typings, IsTypedProgram}

-- ---- components

pub component_is : {low component : Name} → IsReferenceComponent low component → component_named (component_text low) ≡ Some component
component_is (array component is) = rw is.1 refl
component_is (class component) = ap Some (take_at component (semicolon ∷ []) (length (component ++ semicolon ∷ []) - 1) (let e = length_push component semicolon in omega (arith, e)))

pub array_of_text : (low component : Name) → component_named (component_text low) ≡ Some component → IsArray low
array_of_text [] component is = cc
array_of_text (first ∷ rest) component is = by (first == left_bracket) refl is where
  by : (b : Bool) → (first == left_bracket) ≡ b → component_named (if b then rest else []) ≡ Some component → IsArray (first ∷ rest)
  by false e is = cc
  by true e is = let same : first ≡ left_bracket = search arith in (rest, ap (λ x. x ∷ rest) same)

pub no_object_array : IsArray object → ⊥
no_object_array is = let e : 106 ≡ left_bracket = ap (λ xs. get_or xs 0 0) is.1 in absurd (omega (arith, e))

module _ (P : Program) (T : Typings) (program : IsTypedProgram P T) where
  -- ---- what is above

  pub interface_is : (name : Name) (header : Header) → class_named (headers_in P) name ≡ Some header → is_interface_named P name ≡ is_interface header
  interface_is name header found = rw found refl

  pub no_array_interface : (name : Name) → IsArray name → is_interface_named P name ≡ false
  no_array_interface name is = rw (program.hierarchy.no_array name is) refl

  -- above an interface is an interface or java/lang/Object
  pub above_interface : {a low high : Name} → IsBelow (headers_in P) low high → IsTrue (is_interface_named P low) → NameConforms P a high
  above_interface {a = a} {low = low} {high = high} up is =
      let sound = hierarchy_is_sound (headers_in P) program.hierarchy in
      let one = class_there (headers_in P) low (low_is_there up) in
      let other = class_there (headers_in P) high (above_is_there (headers_in P) sound up) in
      by other.0 other.1 one.0 one.1 (is_interface other.0) refl where
        by : (header : Header) → class_named (headers_in P) high ≡ Some header → (first : Header) → class_named (headers_in P) low ≡ Some first → (b : Bool) → is_interface header ≡ b → NameConforms P a high
        by header found first first_found true e = to_interface (interface_is high header found ∙ e)
        by header found first first_found false e =
            let sound = hierarchy_is_sound (headers_in P) program.hierarchy in
            let top : high ≡ object =
            class_above_interface (headers_in P) sound (hierarchy_is_rooted (headers_in P) program.hierarchy) up first header first_found (sym (interface_is low first first_found) ∙ is) found e in
            subst (λ n. NameConforms P a n) (sym top) to_object

  -- what arrays are below is an interface or java/lang/Object
  pub above_arrays : {a high : Name} → IsAboveArrays high → NameConforms P a high
  above_arrays {a = a} (inl e) = subst (λ n. NameConforms P a n) (sym e) to_object
  above_arrays {a = a} (inr (inl e)) = subst (λ n. NameConforms P a n) (sym e) (to_interface program.base.of_arrays.0)
  above_arrays {a = a} (inr (inr e)) = subst (λ n. NameConforms P a n) (sym e) (to_interface program.base.of_arrays.1.0)

  -- ---- by the forms of a name that an object is below

  -- a class is taken for what those directly above it are taken for
  pub from_below : {a middle high : Name} → IsDirectlyBelow (headers_in P) a middle → NameConforms P middle high → NameConforms P a high
  from_below {a = a} {middle = middle} {high = high} step (to_below is) = to_below ((program.links.below a high).1 (below a middle high step ((program.links.below middle high).0 is)))
  from_below step (to_interface is) = to_interface is
  from_below step to_object = to_object
  from_below {middle = middle} step (of_components {low_component = component} is also conforms) =
      absurd (there_is_no_array (headers_in P) (hierarchy_is_sound (headers_in P) program.hierarchy) program.hierarchy.no_array middle
      (directly_there (headers_in P) (hierarchy_is_sound (headers_in P) program.hierarchy) step) (array_of_text middle component is))

  pub over_subtype : {a low high : Name} → IsSubtype (headers_in P) a low → IsBelow (headers_in P) low high → NameConforms P a high
  over_subtype {high = high} (itself a) up =
      to_below ((program.links.below a high).1 (class_is_subtype (headers_in P) (hierarchy_is_sound (headers_in P) program.hierarchy) program.hierarchy.no_array up))
  over_subtype (below _ middle _ step rest) up = from_below step (over_subtype rest up)
  over_subtype {high = high} (of_arrays _ low is (inl e)) up =
      absurd (nothing_above_object (headers_in P) (hierarchy_is_sound (headers_in P) program.hierarchy) (hierarchy_is_rooted (headers_in P) program.hierarchy) (subst (λ n. IsBelow (headers_in P) n high) e up))
  over_subtype (of_arrays _ low is (inr (inl e))) up = above_interface up (subst (λ n. IsTrue (is_interface_named P n)) (sym e) program.base.of_arrays.0)
  over_subtype (of_arrays _ low is (inr (inr e))) up = above_interface up (subst (λ n. IsTrue (is_interface_named P n)) (sym e) program.base.of_arrays.1.0)
  over_subtype (components _ low one other is also sub) up = absurd (not_below (headers_in P) program.hierarchy.no_array (is_array_of also) up)

  -- what is below an array of references is one, of components that are below its own
  pub record Component (a low_component : Name) : Type 0 where
    pub component : Name
    pub is_component : component_named (component_text a) ≡ Some component
    pub conforms : NameConforms P component low_component

  pub array_below : {a low : Name} → IsSubtype (headers_in P) a low → IsArray low → IsArray a
  array_below (itself a) is = is
  array_below (below _ middle _ step rest) is =
      absurd (there_is_no_array (headers_in P) (hierarchy_is_sound (headers_in P) program.hierarchy) program.hierarchy.no_array middle
      (directly_there (headers_in P) (hierarchy_is_sound (headers_in P) program.hierarchy) step) (array_below rest is))
  array_below (of_arrays _ low is_array above) is = is_array
  array_below (components _ low one other has also sub) is = is_array_of has

  pub component_below : {a low low_component : Name} → IsReferenceComponent low low_component → IsSubtype (headers_in P) a low → Component a low_component
  component_below {low_component = c} has (itself a) = record { component = c; is_component = component_is has; conforms = to_below ((program.links.below c c).1 (itself c)) }
  component_below has (below _ middle _ step rest) =
      absurd (there_is_no_array (headers_in P) (hierarchy_is_sound (headers_in P) program.hierarchy) program.hierarchy.no_array middle
      (directly_there (headers_in P) (hierarchy_is_sound (headers_in P) program.hierarchy) step) (array_below rest (is_array_of has)))
  component_below has (of_arrays _ low is_array above) = absurd (not_above_arrays (is_array_of has) above)
  component_below {low_component = c} has (components _ low one other of_a also sub) =
      let same : other ≡ c = same_component also has in
      record { component = one; is_component = component_is of_a; conforms = to_below ((program.links.below one c).1 (subst (λ n. IsSubtype (headers_in P) one n) same sub)) }

  pub component_of : {a low low_component : Name} → IsReferenceComponent low low_component → NameConforms P a low → Component a low_component
  component_of {low = low} {low_component = c} has (to_below {low = a} is) = component_below has ((program.links.below a low).0 is)
  component_of {low = low} has (to_interface is) = let e = no_array_interface low (is_array_of has) in cc
  component_of has to_object = absurd (not_above_arrays (is_array_of has) (inl refl))
  component_of {low_component = c} has (of_components {low_component = a_component} {high_component = d} is also conforms) =
      let same : d ≡ c = some_of (sym also ∙ component_is has) in
      record { component = a_component; is_component = is; conforms = subst (λ n. NameConforms P a_component n) same conforms }

  pub name_assigned : (low high : Name) {a : Name} → IsNameAssignable (headers_in P) low high → NameConforms P a low → NameConforms P a high
  name_assigned low high (to_itself _) is = is
  name_assigned low high (to_interface_name _ _ header flat found kind) is = to_interface (interface_is high header found ∙ kind)
  name_assigned low high (from_array _ _ is_array above) is = above_arrays above
  name_assigned low high (to_class_above _ _ up) (to_below {low = a} is) = over_subtype ((program.links.below a low).0 is) up
  name_assigned low high (to_class_above _ _ up) (to_interface is) = above_interface up is
  name_assigned low high (to_class_above _ _ up) to_object =
      absurd (nothing_above_object (headers_in P) (hierarchy_is_sound (headers_in P) program.hierarchy) (hierarchy_is_rooted (headers_in P) program.hierarchy) up)
  name_assigned low high (to_class_above _ _ up) (of_components {high_component = component} is also conforms) =
      absurd (not_below (headers_in P) program.hierarchy.no_array (array_of_text low component also) up)
  name_assigned low high (of_component_names _ _ low_component high_component has also assignable) is =
      let c = component_of has is in
      of_components c.is_component (component_is also) (name_assigned low_component high_component assignable c.conforms)
