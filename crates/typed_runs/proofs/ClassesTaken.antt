use Rattle.std.specs.Prelude.{◌≡◌, ◌⊎◌, ◌||◌, refl, ℕ, zero, suc, Bool, true, false, List, [], ◌∷◌, slice_get, Option, Some, None, IsTrue, is_some, option_map}
use Rattle.std.specs.List.{AllByRecursion, list_any}
use Rattle.std.proofs.Common.{inl, inr, ap, sym, ◌∙◌, subst}
use Rattle.std.proofs.lemmas.Option.{slice_get-map}
use Rattle.class_model.specs.Laws.Lists.{at_index}
use Rattle.class_model.specs.declared.header.Header.{Header}
use Rattle.class_tree.specs.Headers.{Name, class_named, IsThere}
use Rattle.class_tree.specs.Laws.Above.{IsSound, hierarchy_is_sound, hierarchy_is_rooted, low_is_there, there_is_no_array, nothing_above_object, class_above_interface, class_is_subtype, class_decides}
use Rattle.class_tree.specs.Laws.Headers.{class_there}
use Rattle.class_tree.specs.Names.{object, is_interface}
use Rattle.class_tree.specs.Subtype.{IsArray, IsBelow, IsSubtype, itself, of_arrays}
use Rattle.class_tree.specs.declared.place.Place.TheVariants.{Folder as at_folder}
use Rattle.machine_values.specs.Heaps.{Heap, object_at}
use Rattle.machine_values.specs.declared.object.Object.{Object}
use Rattle.machine_values.specs.declared.object.Shape.{Shape}
use Rattle.machine_values.specs.declared.object.Shape.TheVariants as shapes
use Rattle.machine_values.specs.declared.value.Value.{Value}
use Rattle.member_link.specs.Machine.Programs.{Program, RunClass, headers_in, name_of_class, is_interface_named}
use Rattle.member_link.specs.Machine.Shapes.{is_instance, shape_conforms, reference_conforms}
use Rattle.typed_runs.proofs.AssignedNames.{array_of_text, interface_is}
use Rattle.typed_runs.proofs.Basics.{some_of}
use Rattle.typed_runs.specs.Conforming.{HasShape, NameConforms, to_below, to_interface, to_object, of_components, ShapeConforms, by_class, by_interface, HoldsShape}
use Rattle.typed_runs.specs.TypedPrograms.{Typings, IsTypedProgram}

either_first : (a b : Bool) → a ≡ true → (a || b) ≡ true
either_first true b is = refl
either_first false b is = cc

either_second : (a b : Bool) → b ≡ true → (a || b) ≡ true
either_second true b is = refl
either_second false b is = is

any_at : (test : Name → Bool) (names : List Name) (n : ℕ) (name : Name) → slice_get names n ≡ Some name → test name ≡ true
    → list_any test names ≡ true
any_at test [] n name is passes = cc
any_at test (x ∷ names) zero name is passes = either_first (test x) (list_any test names) (ap test (some_of is) ∙ passes)
any_at test (x ∷ names) (suc n) name is passes = either_second (test x) (list_any test names) (any_at test names n name is passes)

-- what a class is taken for is an interface, or above it
abbrev pub IsTaken : Program → Name → Name → Type 0
IsTaken P low high = (is_interface_named P high ≡ true) ⊎ (P.links.below low high ≡ true)

module _ (P : Program) (T : Typings) (program : IsTypedProgram P T) where
  sound : IsSound (headers_in P)
  sound = hierarchy_is_sound (headers_in P) program.hierarchy

  pub no_array_there : (name : Name) → IsThere (headers_in P) name → IsArray name → ⊥
  no_array_there name is_there is = there_is_no_array (headers_in P) sound program.hierarchy.no_array name is_there is

  -- what is above a class that is there is itself or a class above it
  pub class_above : (low high : Name) → IsThere (headers_in P) low → IsSubtype (headers_in P) low high
      → (low ≡ high) ⊎ IsBelow (headers_in P) low high
  class_above low high is_there sub =
      (class_decides (headers_in P) sound program.hierarchy.no_array low high (no_array_there low is_there)).0 sub

  pub none_above_object : {high : Name} → IsBelow (headers_in P) object high → ⊥
  none_above_object up = nothing_above_object (headers_in P) sound (hierarchy_is_rooted (headers_in P) program.hierarchy) up

  -- no class but java/lang/Object is above an interface
  pub object_above_interface : {low high : Name} → IsBelow (headers_in P) low high → is_interface_named P low ≡ true → (above : Header)
      → class_named (headers_in P) high ≡ Some above → is_interface above ≡ false → high ≡ object
  object_above_interface {low = low} up is above found flat =
      let c = class_there (headers_in P) low (low_is_there up) in
      class_above_interface (headers_in P) sound (hierarchy_is_rooted (headers_in P) program.hierarchy) up c.0 above c.1
      (sym (interface_is P T program low c.0 c.1) ∙ is) found flat

  pub below_object : (name : Name) → IsThere (headers_in P) name → P.links.below name object ≡ true
  below_object name is_there = (program.links.below name object).1 (by (hierarchy_is_rooted (headers_in P) program.hierarchy name is_there)) where
    by : (name ≡ object) ⊎ IsBelow (headers_in P) name object → IsSubtype (headers_in P) name object
    by (inl same) = subst (λ n. IsSubtype (headers_in P) name n) same (itself name)
    by (inr up) = class_is_subtype (headers_in P) sound program.hierarchy.no_array up

  pub class_taken : (low high : Name) → IsThere (headers_in P) low → NameConforms P low high → IsTaken P low high
  class_taken low high is_there (to_below is) = inr is
  class_taken low high is_there (to_interface is) = inl is
  class_taken low high is_there to_object = inr (below_object low is_there)
  class_taken low high is_there (of_components {low_component = component} is also conforms) =
      absurd (no_array_there low is_there (array_of_text low component is))

  -- an array is taken for no other array where no array has that name
  pub array_taken : (low high : Name) → IsArray low → (IsArray high → ⊥) → NameConforms P low high → IsTaken P low high
  array_taken low high array flat (to_below is) = inr is
  array_taken low high array flat (to_interface is) = inl is
  array_taken low high array flat to_object = inr ((program.links.below low object).1 (of_arrays low object array (inl refl)))
  array_taken low high array flat (of_components {high_component = component} is also conforms) = absurd (flat (array_of_text high component also))

  -- ---- classes of objects

  -- a class of the folder by its number
  pub numbered_there : (n : ℕ) (class : RunClass) → slice_get P.classes n ≡ Some class → IsThere (headers_in P) (name_of_class P n)
  numbered_there n class is =
      let at : slice_get (headers_in P).folder n ≡ Some class.header =
      slice_get-map (λ (c : RunClass). c.header) P.classes n ∙ ap (λ o. option_map (λ (c : RunClass). c.header) o) is in
      let stands = program.hierarchy.of_place (at_folder n) class.header at in
      rw is (ap is_some stands.found)

  pub interface_there : (name : Name) → is_interface_named P name ≡ true → IsThere (headers_in P) name
  interface_there name is = by (class_named (headers_in P) name) refl where
    by : (o : Option Header) → class_named (headers_in P) name ≡ o → IsThere (headers_in P) name
    by None e = let no : false ≡ true = rw e at is in cc
    by (Some header) e = ap is_some e

  -- ---- instances

  -- an object is taken for a type that is no array: an interface, or one of which it is an instance
  pub shape_taken : (h : Heap) (shape : Shape) (vs : List Value) (name : Name) → (IsArray name → ⊥) → HoldsShape P h shape vs
      → ShapeConforms P shape name
      → (is_interface_named P name ≡ true) ⊎ (is_instance P shape name ≡ true)
  shape_taken h (shapes.Folder class) vs name flat holds (by_class is) =
      class_taken (name_of_class P class) name (numbered_there class holds.found holds.is_class) is
  shape_taken h (shapes.Array desc len) vs name flat holds (by_class is) = array_taken desc name holds.is_array flat is
  shape_taken h (shapes.External class also) vs name flat holds (by_class is) = by (class_taken class name holds.is_there is) where
    by : IsTaken P class name
        → (is_interface_named P name ≡ true) ⊎ ((P.links.below class name || list_any (λ interface. P.links.below interface name) also) ≡ true)
    by (inl e) = inl e
    by (inr e) = inr (either_first (P.links.below class name) (list_any (λ interface. P.links.below interface name) also) e)
  shape_taken h (shapes.External class also) vs name flat holds (by_interface {interface = interface} number is_also is) =
      by (class_taken interface name (interface_there interface (interface_also also number is_also holds.interfaces)) is) where
        interface_also : (names : List Name) (n : ℕ) → slice_get names n ≡ Some interface
            → AllByRecursion (λ x. IsTrue (is_interface_named P x)) names → is_interface_named P interface ≡ true
        interface_also names n is all = at_index (λ x. IsTrue (is_interface_named P x)) names n interface all is

        by : IsTaken P interface name
            → (is_interface_named P name ≡ true) ⊎ ((P.links.below class name || list_any (λ x. P.links.below x name) also) ≡ true)
        by (inl e) = inl e
        by (inr e) =
            inr (either_second (P.links.below class name) (list_any (λ x. P.links.below x name) also) (any_at (λ x. P.links.below x name) also number interface is_also e))

  pub shape_passes : (h : Heap) (shape : Shape) (vs : List Value) (name : Name) → (IsArray name → ⊥) → HoldsShape P h shape vs
      → ShapeConforms P shape name → shape_conforms P shape name ≡ true
  shape_passes h shape vs name flat holds is = by shape (shape_taken h shape vs name flat holds is) where
    by : (s : Shape) → (is_interface_named P name ≡ true) ⊎ (is_instance P s name ≡ true) → shape_conforms P s name ≡ true
    by (shapes.Folder class) (inl e) = either_first (is_interface_named P name) _ e
    by (shapes.Array desc len) (inl e) = either_first (is_interface_named P name) _ e
    by (shapes.External class also) (inl e) = either_first (is_interface_named P name) _ e
    by (shapes.Folder class) (inr e) = either_second (is_interface_named P name) (P.links.below (name_of_class P class) name) e
    by (shapes.Array desc len) (inr e) = either_second (is_interface_named P name) _ (either_first (P.links.below desc name) _ e)
    by (shapes.External class also) (inr e) = either_second (is_interface_named P name) (is_instance P (shapes.External class also) name) e

  -- a receiver conforms to the class that an instruction names
  pub receiver_passes : (h : Heap) (r : ℕ) (shape : Shape) (name : Name)
      → ((reference : ℕ) (object : Object) → object_at h reference ≡ Some object → HoldsShape P h object.shape object.values)
      → (IsArray name → ⊥) → HasShape h r shape → ShapeConforms P shape name → reference_conforms P h r name ≡ true
  receiver_passes h r shape name objects flat has is =
      let holds = objects r has.object has.is_there in
      rw has.is_there (shape_passes h has.object.shape has.object.values name flat holds (subst (λ s. ShapeConforms P s name) (sym has.same) is))
