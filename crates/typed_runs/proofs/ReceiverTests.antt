use Rattle.std.specs.Prelude.{◌≡◌, ◌⊎◌, ◌==◌, ◌||◌, ◌&&◌, refl, ℕ, zero, suc, Bool, true, false, List, [], ◌∷◌, slice_get, Some, IsTrue}
use Rattle.std.specs.List.{list_any}
use Rattle.std.proofs.Common.{inl, inr, sym, ◌∙◌, subst}
use Rattle.std.proofs.lemmas.Slice.Eq.{bytes_eq-Decides}
use Rattle.class_model.specs.Characters.{left_bracket}
use Rattle.class_model.specs.Laws.Lists.{at_index}
use Rattle.class_tree.specs.Headers.{Name, named, IsThere}
use Rattle.class_tree.specs.Laws.Above.{hierarchy_is_sound, hierarchy_is_rooted, class_is_subtype}
use Rattle.class_tree.specs.Names.{object}
use Rattle.class_tree.specs.Subtype.{IsArray, IsSubtype, itself, of_arrays}
use Rattle.machine_values.specs.Heaps.{Heap}
use Rattle.machine_values.specs.Values.{component_text}
use Rattle.machine_values.specs.declared.object.Shape.{Shape}
use Rattle.machine_values.specs.declared.object.Shape.TheVariants as shapes
use Rattle.machine_values.specs.declared.value.Value.{Value}
use Rattle.member_link.specs.Access.{IsAtOrBelow}
use Rattle.member_link.specs.Machine.Programs.{Program, headers_in, is_interface_named}
use Rattle.member_link.specs.Machine.Shapes.{is_object, class_conforms, component_named, both_conform, components_conform, shape_conforms}
use Rattle.member_link.specs.References.{IsNamedThere}
use Rattle.typed_runs.proofs.AssignedNames.{array_of_text}
use Rattle.typed_runs.proofs.Basics.{some_of, or_first, or_second}
use Rattle.typed_runs.proofs.NamesThere.{class_named_there, interface_there, no_array_there, names_no_array, component_named_in, holds_named}
use Rattle.typed_runs.specs.Conforming.{NameConforms, to_below, to_interface, to_object, of_components, ShapeConforms, by_class, by_interface, HoldsShape, NamesNoArray}
use Rattle.typed_runs.specs.TypedPrograms.{Typings, IsTypedProgram}

pub one_passes : {A : Type 0} (test : A → Bool) (xs : List A) (n : ℕ) (x : A) → slice_get xs n ≡ Some x → test x ≡ true
    → list_any test xs ≡ true
one_passes test [] n x is passes = cc
one_passes test (y ∷ ys) zero x is passes = let same : y ≡ x = some_of is in
    or_first (test y) (list_any test ys) (subst (λ z. test z ≡ true) (sym same) passes)
one_passes test (y ∷ ys) (suc n) x is passes = or_second (test y) (list_any test ys) (one_passes test ys n x is passes)

-- ---- what a class or array is below

module _ (P : Program) (T : Typings) (program : IsTypedProgram P T) where
  pub class_below_object : (name : Name) → IsThere (headers_in P) name → P.links.below name object ≡ true
  class_below_object name there = (program.links.below name object).1
      (by (hierarchy_is_rooted (headers_in P) program.hierarchy name there)) where
        by : IsAtOrBelow (headers_in P) name object → IsSubtype (headers_in P) name object
        by (inl e) = subst (λ n. IsSubtype (headers_in P) name n) e (itself name)
        by (inr up) = class_is_subtype (headers_in P) (hierarchy_is_sound (headers_in P) program.hierarchy) program.hierarchy.no_array up

  pub array_below_object : (name : Name) → IsArray name → P.links.below name object ≡ true
  array_below_object name is = (program.links.below name object).1 (of_arrays name object is (inl refl))

  -- a class that is there
  pub class_below_is : {low high : Name} → IsThere (headers_in P) low → NameConforms P low high
      → (is_interface_named P high || P.links.below low high) ≡ true
  class_below_is {low = low} {high = high} there (to_below is) = or_second (is_interface_named P high) (P.links.below low high) is
  class_below_is {low = low} {high = high} there (to_interface is) = or_first (is_interface_named P high) (P.links.below low high) is
  class_below_is {low = low} there to_object =
      or_second (is_interface_named P object) (P.links.below low object) (class_below_object low there)
  class_below_is {low = low} there (of_components {low_component = component} is also c) =
      absurd (no_array_there P T program low there (array_of_text low component is))

  pub both_are : (low high : Name) (lt ht : List ℕ) → component_named lt ≡ Some low → component_named ht ≡ Some high
      → class_conforms P low high ≡ true → components_conform P lt ht ≡ true
  both_are low high [] ht is also conform = cc
  both_are low high (l ∷ ls) [] is also conform = cc
  both_are low high (l ∷ ls) (h ∷ hs) is also conform =
      or_first (both_conform P (component_named (l ∷ ls)) (component_named (h ∷ hs)))
      (l == left_bracket && (h == left_bracket && components_conform P ls hs))
      (subst (λ o. both_conform P o (component_named (h ∷ hs)) ≡ true) (sym is)
      (subst (λ o. both_conform P (Some low) o ≡ true) (sym also) conform))

  pub arrays_are : (ls hs : List ℕ) → components_conform P ls hs ≡ true
      → components_conform P (left_bracket ∷ ls) (left_bracket ∷ hs) ≡ true
  arrays_are ls hs conform = or_second (both_conform P (component_named (left_bracket ∷ ls)) (component_named (left_bracket ∷ hs)))
      (components_conform P ls hs) conform

  -- what two arrays of components that conform hold
  abbrev pub AreRests : Name → Name → Type 0
  AreRests a b = (lt ht : List ℕ) → component_named lt ≡ Some a → component_named ht ≡ Some b
      → NamesNoArray (left_bracket ∷ lt) → NamesNoArray (left_bracket ∷ ht)
      → components_conform P lt ht ≡ true

  pub components_are : {low high : Name} → NameConforms P low high → (lt ht : List ℕ) → component_named lt ≡ Some low
      → component_named ht ≡ Some high
      → NamesNoArray (left_bracket ∷ lt) → NamesNoArray (left_bracket ∷ ht)
      → components_conform P lt ht ≡ true
  components_are {low = low} {high = high} (to_below c) lt ht is also there other =
      both_are low high lt ht is also (or_second (is_interface_named P high) (is_object high || P.links.below low high)
      (or_second (is_object high) (P.links.below low high) c))
  components_are {low = low} {high = high} (to_interface c) lt ht is also there other =
      both_are low high lt ht is also (or_first (is_interface_named P high) (is_object high || P.links.below low high) c)
  components_are {low = low} to_object lt ht is also there other =
      both_are low object lt ht is also (or_second (is_interface_named P object) (is_object object || P.links.below low object)
      (or_first (is_object object) (P.links.below low object) ((bytes_eq-Decides object object).1 refl)))
  components_are {low = low} {high = high} (of_components {low_component = a} {high_component =
      b} low_is high_is c) lt ht is also there other =
      of_arrays_both (array_of_text low a low_is) (array_of_text high b high_is)
      (holds_named (λ class. ¬ IsArray class) lt low is there) (holds_named (λ class. ¬ IsArray class) ht high also other)
      (λ ls hs low_text high_text low_there high_there. components_are c ls hs low_text high_text low_there high_there) where
        of_rests : (ls hs : List ℕ) → low ≡ left_bracket ∷ ls → high ≡ left_bracket ∷ hs → lt ≡ low → ht ≡ high → AreRests a b
            → components_conform P lt ht ≡ true
        of_rests ls hs e g one two next =
            let low_text : component_named ls ≡ Some a = subst (λ n. component_named (component_text n) ≡ Some a) e low_is in
            let high_text : component_named hs ≡ Some b = subst (λ n. component_named (component_text n) ≡ Some b) g high_is in
            let low_there : NamesNoArray (left_bracket ∷ ls) =
            component_named_in (λ class. ¬ IsArray class) ls (subst (λ n. NamesNoArray (left_bracket ∷ n)) (one ∙ e) there) in
            let high_there : NamesNoArray (left_bracket ∷ hs) =
            component_named_in (λ class. ¬ IsArray class) hs (subst (λ n. NamesNoArray (left_bracket ∷ n)) (two ∙ g) other) in
            subst (λ n. components_conform P n ht ≡ true) (sym (one ∙ e))
            (subst (λ n. components_conform P (left_bracket ∷ ls) n ≡ true) (sym (two ∙ g))
            (arrays_are ls hs (next ls hs low_text high_text low_there high_there)))

        of_arrays_both : IsArray low → IsArray high → (IsArray low × (lt ≡ low)) ⊎ (¬ IsArray low)
            → (IsArray high × (ht ≡ high)) ⊎ (¬ IsArray high) → AreRests a b → components_conform P lt ht ≡ true
        of_arrays_both x y (inl one) (inl two) next = of_rests x.0 y.0 x.1 y.1 one.1 two.1 next
        of_arrays_both x y (inr one) two next = absurd (one x)
        of_arrays_both x y one (inr two) next = absurd (two y)

  -- ---- the machine's test of a receiver

  pub array_is : (desc : Name) (len : ℕ) (name : Name) → IsArray desc → NamesNoArray desc
      → NamesNoArray name → NameConforms P desc name → shape_conforms P (shapes.Array desc len) name ≡ true
  array_is desc len name is there other (to_below c) =
      or_second (is_interface_named P name) (P.links.below desc name || components_conform P (component_text desc) (component_text name))
      (or_first (P.links.below desc name) (components_conform P (component_text desc) (component_text name)) c)
  array_is desc len name is there other (to_interface c) =
      or_first (is_interface_named P name) (P.links.below desc name || components_conform P (component_text desc) (component_text name)) c
  array_is desc len name is there other to_object =
      or_second (is_interface_named P object) (P.links.below desc object || components_conform P (component_text desc)
      (component_text object))
      (or_first (P.links.below desc object) (components_conform P (component_text desc) (component_text object))
      (array_below_object desc is))
  array_is desc len name is there other (of_components {low_component = a} {high_component = b} low_is high_is c) =
      or_second (is_interface_named P name) (P.links.below desc name || components_conform P (component_text desc) (component_text name))
      (or_second (P.links.below desc name) (components_conform P (component_text desc) (component_text name))
      (components_are c (component_text desc) (component_text name) low_is high_is (behind_bracket desc is there)
      (behind_bracket name (array_of_text name b high_is) other))) where
        behind_bracket : (n : Name) → IsArray n → NamesNoArray n → NamesNoArray (left_bracket ∷ component_text n)
        behind_bracket n array named = subst (λ x. NamesNoArray (left_bracket ∷ component_text x)) (sym array.1)
            (subst NamesNoArray array.1 named)

  pub external_is : (class name : Name) (also : List Name) → (is_interface_named P name || P.links.below class name) ≡ true
      → shape_conforms P (shapes.External class also) name ≡ true
  external_is class name also conforms = by (is_interface_named P name) conforms where
    by : (b : Bool) → (b || P.links.below class name) ≡ true
        → (b || (P.links.below class name || list_any (λ interface. P.links.below interface name) also)) ≡ true
    by true is = refl
    by false is = or_first (P.links.below class name) (list_any (λ interface. P.links.below interface name) also) is

  pub also_is : (class name : Name) (also : List Name) (n : ℕ) (interface : Name) → slice_get also n ≡ Some interface
      → (is_interface_named P name || P.links.below interface name) ≡ true → shape_conforms P (shapes.External class also) name ≡ true
  also_is class name also n interface there conforms = by (is_interface_named P name) conforms where
    by : (b : Bool) → (b || P.links.below interface name) ≡ true
        → (b || (P.links.below class name || list_any (λ x. P.links.below x name) also)) ≡ true
    by true is = refl
    by false is = or_second (P.links.below class name) (list_any (λ x. P.links.below x name) also)
        (one_passes (λ x. P.links.below x name) also n interface there is)

  -- an object of the heap that conforms to a name passes it
  pub shape_conforms_is : (h : Heap) (shape : Shape) (vs : List Value) (name : Name) → HoldsShape P h shape vs
      → IsNamedThere (headers_in P) name → ShapeConforms P shape name → shape_conforms P shape name ≡ true
  shape_conforms_is h (shapes.Folder class) vs name holds there (by_class c) =
      class_below_is (class_named_there P class holds.found holds.is_class) c
  shape_conforms_is h (shapes.Array desc len) vs name holds there (by_class c) =
      array_is desc len name holds.is_array holds.of_element (names_no_array P T program name there) c
  shape_conforms_is h (shapes.External class also) vs name holds there (by_class c) =
      external_is class name also (class_below_is holds.is_there c)
  shape_conforms_is h (shapes.External class also) vs name holds there (by_interface {interface = interface} n is c) =
      also_is class name also n interface is (class_below_is
      (interface_there P interface (at_index (λ x. IsTrue (is_interface_named P x)) also n interface holds.interfaces is)) c)
