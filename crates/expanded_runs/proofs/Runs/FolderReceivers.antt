-- Receivers of methods that classes of the folder declare: null, or objects of classes of the folder.
use Rattle.std.specs.Prelude.{◌≡◌, ◌⊎◌, ◌==◌, refl, ℕ, Bool, true, false, List, [], ◌∷◌, ◌++◌, map, bytes_eq, Option, Some, None, IsTrue, if◌then◌else◌}
use Rattle.std.specs.List.{AllByRecursion}
use Rattle.std.proofs.Common.{arith, inl, inr, ap, sym, subst, ◌∙◌}
use Rattle.std.proofs.lemmas.Bool.{false≢true}
use Rattle.std.proofs.lemmas.Option.{none-some, same_Some}
use Rattle.class_model.specs.Characters.{left_bracket}
use Rattle.class_model.specs.Laws.Lists.{at_index}
use Rattle.class_model.specs.declared.frame.VType.{VType}
use Rattle.class_model.specs.declared.frame.VType.TheVariants as types
use Rattle.class_model.specs.declared.header.Header.{Header}
use Rattle.class_tree.specs.Headers.{Name, class_named, named}
use Rattle.class_tree.specs.Laws.Above.{IsSound, hierarchy_is_sound, hierarchy_is_rooted, low_is_there, nothing_above_object, class_above_interface, below_more, there_is_no_array}
use Rattle.class_tree.specs.Laws.Arrays.{is_array_of}
use Rattle.class_tree.specs.Laws.Headers.{class_there}
use Rattle.class_tree.specs.Laws.Names.{each_of_names}
use Rattle.class_tree.specs.Names.{object, is_interface}
use Rattle.class_tree.specs.Steps.{supers}
use Rattle.class_tree.specs.Subtype.{IsAboveArrays, IsArray, IsBelow, IsDirectlyBelow, IsSubtype, components, directly, interface, itself, of_arrays, onwards, superclass}
use Rattle.class_tree.specs.Subtype as subtype
use Rattle.machine_values.specs.Heaps.{Heap, object_at}
use Rattle.machine_values.specs.Values.{component_text}
use Rattle.machine_values.specs.declared.object.Object.{Object}
use Rattle.machine_values.specs.declared.object.Shape.{Shape}
use Rattle.machine_values.specs.declared.object.Shape.TheVariants as shapes
use Rattle.machine_values.specs.declared.value.Value.{Value}
use Rattle.machine_values.specs.declared.value.Value.TheVariants as values
use Rattle.member_link.specs.Access.{IsAtOrBelow}
use Rattle.member_link.specs.Assignability.{IsAssignable, IsNameAssignable, from_array, from_null, of_components, of_names, to_class_above, to_interface, to_itself, to_same, to_top}
use Rattle.member_link.specs.Machine.Programs.{Program, RunClass, folder_number, headers_in, is_interface_named, name_of_class, number_of_first}
use Rattle.member_link.specs.Machine.Shapes.{component_named}
use Rattle.member_link.specs.RowScope.{RowScope}
use Rattle.typed_runs.specs.Conforming.{Conforms, HasShape, HoldsShape, NameConforms, ShapeConforms, an_object, by_class, by_interface, null_object, only_null}
use Rattle.typed_runs.specs.Conforming as conforming
use Rattle.typed_runs.specs.TypedPrograms.{Typings, IsTypedProgram}

-- a class of the folder that is no interface
pub record IsFolderClass (P : Program) (name : Name) : Type 0 where
  pub number : ℕ
  pub numbered : folder_number P name ≡ Some number
  pub header : Header
  pub found : class_named (headers_in P) name ≡ Some header
  pub no_interface : is_interface header ≡ false

-- an array by its component
array_of_text : (name component : Name) → component_named (component_text name) ≡ Some component → IsArray name
array_of_text [] component is = absurd (none-some component is)
array_of_text (first ∷ rest) component is = by (first == left_bracket) refl is where
  by : (b : Bool) → (first == left_bracket) ≡ b → component_named (if b then rest else []) ≡ Some component → IsArray (first ∷ rest)
  by false e is = absurd (none-some component is)
  by true e is = let same : first ≡ left_bracket = search arith in (rest, ap (λ x. x ∷ rest) same)

-- a class of the folder among all classes
pub folder_named : (name : Name) (classes : List RunClass) (library : List Header) (n : ℕ) (header : Header)
    → number_of_first (λ (class : RunClass). bytes_eq name class.header.name) classes ≡ Some n
    → named name (map (λ (class : RunClass). class.header) classes ++ library) ≡ Some header
    → named name (map (λ (class : RunClass). class.header) classes) ≡ Some header
folder_named name [] library n header number is = absurd (none-some n number)
folder_named name (class ∷ classes) library n header number is =
    by (bytes_eq name class.header.name) refl (number_of_first (λ (class : RunClass). bytes_eq name class.header.name) classes) refl
    (λ k number is. folder_named name classes library k header number is) where
      by : (b : Bool) → bytes_eq name class.header.name ≡ b → (found : Option ℕ)
          → number_of_first (λ (class : RunClass). bytes_eq name class.header.name) classes ≡ found
          → ((k : ℕ) → number_of_first (λ (class : RunClass). bytes_eq name class.header.name) classes ≡ Some k
          → named name (map (λ (class : RunClass). class.header) classes ++ library) ≡ Some header
          → named name (map (λ (class : RunClass). class.header) classes) ≡ Some header)
          → named name (map (λ (class : RunClass). class.header) (class ∷ classes)) ≡ Some header
      by true e found f next = rw e (rw e at is)
      by false e None f next = absurd (none-some n (rw (e, f) at number))
      by false e (Some k) f next = rw e (next k f (rw e at is))

module _ (P : Program) (T : Typings) (program : IsTypedProgram P T) where
  sound : IsSound (headers_in P)
  sound = hierarchy_is_sound (headers_in P) program.hierarchy

  -- ---- classes of the library are below none of the folder

  super_of : (Q : Name → Type 0) (header : Header) (name : Name) → AllByRecursion Q (supers header) → header.super_name ≡ Some name → Q name
  super_of Q header name all is = by header.super_name all is where
    by : (o : Option Name) → AllByRecursion Q (supers (record header { super_name = o })) → o ≡ Some name → Q name
    by None all e = absurd (none-some name e)
    by (Some above) all e = subst Q (same_Some above name e) all.0

  interfaces_of : (Q : Name → Type 0) (header : Header) → AllByRecursion Q (supers header) → AllByRecursion Q header.interfaces
  interfaces_of Q header all = by header.super_name all where
    by : (o : Option Name) → AllByRecursion Q (supers (record header { super_name = o })) → AllByRecursion Q header.interfaces
    by None all = all
    by (Some above) all = all.1

  abbrev IsOutside : Name → Type 0
  IsOutside name = folder_number P name ≡ None

  directly_outside : {low high : Name} → IsDirectlyBelow (headers_in P) low high → IsOutside low → IsOutside high
  directly_outside (superclass low high header is some) outside =
      super_of IsOutside header high (program.base.leans_on_itself low header is outside) some
  directly_outside (interface low high header is one) outside =
      each_of_names IsOutside header.interfaces (interfaces_of IsOutside header (program.base.leans_on_itself low header is outside)) high one

  pub below_outside : {low high : Name} → IsBelow (headers_in P) low high → folder_number P low ≡ None → folder_number P high ≡ None
  below_outside (directly low high step) outside = directly_outside step outside
  below_outside (onwards low middle high step rest) outside = below_outside rest (directly_outside step outside)

  -- what is below a class of the folder is of the folder
  pub folder_below : {low high : Name} → IsBelow (headers_in P) low high → (n : ℕ) → folder_number P high ≡ Some n
      → (k : ℕ) × (folder_number P low ≡ Some k)
  folder_below {low = low} up n is = by (folder_number P low) refl where
    by : (o : Option ℕ) → folder_number P low ≡ o → (k : ℕ) × (folder_number P low ≡ Some k)
    by None e = absurd (none-some n (sym (below_outside up e) ∙ is))
    by (Some k) e = (k, e)

  -- ---- what is at or below a class of the folder that is no interface

  module _ {d : Name} (folder : IsFolderClass P d) where
    abbrev IsUnder : Name → Type 0
    IsUnder name = IsAtOrBelow (headers_in P) name d

    no_object : d ≡ object → ⊥
    no_object e =
        none-some folder.number (sym (subst (λ (name : Name). folder_number P name ≡ None) (sym e) program.base.of_object.outside) ∙ folder.numbered)

    pub no_library_under : {name : Name} → folder_number P name ≡ None → IsUnder name → ⊥
    no_library_under outside (inl e) =
        none-some folder.number (sym (subst (λ (name : Name). folder_number P name ≡ None) e outside) ∙ folder.numbered)
    no_library_under outside (inr up) = none-some folder.number (sym (below_outside up outside) ∙ folder.numbered)

    pub no_interface_under : {name : Name} → is_interface_named P name ≡ true → IsUnder name → ⊥
    no_interface_under is (inl e) =
        let kind : is_interface_named P d ≡ is_interface folder.header = rw folder.found refl in
        false≢true (sym folder.no_interface ∙ sym kind ∙ subst (λ (name : Name). is_interface_named P name ≡ true) e is)
    no_interface_under {name = name} is (inr up) =
        let low = class_there (headers_in P) name (low_is_there up) in
        let kind : is_interface_named P name ≡ is_interface low.0 = rw low.1 refl in
        no_object (class_above_interface (headers_in P) sound (hierarchy_is_rooted (headers_in P) program.hierarchy) up low.0 folder.header low.1
        (sym kind ∙ is) folder.found folder.no_interface)

    pub no_object_under : {name : Name} → name ≡ object → IsUnder name → ⊥
    no_object_under top (inl e) = no_object (sym e ∙ top)
    no_object_under top (inr up) =
        nothing_above_object (headers_in P) sound (hierarchy_is_rooted (headers_in P) program.hierarchy)
        (subst (λ name. IsBelow (headers_in P) name d) top up)

    pub no_array_under : {name : Name} → IsArray name → IsUnder name → ⊥
    no_array_under is (inl e) = none-some folder.header (sym (program.hierarchy.no_array d (subst IsArray e is)) ∙ folder.found)
    no_array_under {name = name} is (inr up) = there_is_no_array (headers_in P) sound program.hierarchy.no_array name (low_is_there up) is

    above_arrays_not_under : {name : Name} → IsAboveArrays name → IsUnder name → ⊥
    above_arrays_not_under (inl e) under = no_object_under e under
    above_arrays_not_under (inr (inl e)) under =
        no_interface_under (subst (λ name. is_interface_named P name ≡ true) (sym e) program.base.of_arrays.0) under
    above_arrays_not_under (inr (inr e)) under =
        no_interface_under (subst (λ name. is_interface_named P name ≡ true) (sym e) program.base.of_arrays.1.0) under

    step_under : {low middle : Name} → IsDirectlyBelow (headers_in P) low middle → IsUnder middle → IsUnder low
    step_under {low = low} step (inl e) = inr (directly low d (subst (IsDirectlyBelow (headers_in P) low) e step))
    step_under {low = low} {middle = middle} step (inr up) = inr (onwards low middle d step up)

    -- subtypes of what is at or below it
    pub subtype_under : {low high : Name} → IsSubtype (headers_in P) low high → IsUnder high → IsUnder low
    subtype_under (itself name) under = under
    subtype_under (subtype.below low middle high step rest) under = step_under step (subtype_under rest under)
    subtype_under (of_arrays low high is above) under = absurd (above_arrays_not_under above under)
    subtype_under (components low high one other is also sub) under = absurd (no_array_under (is_array_of also) under)

    -- and what is assignable to it
    pub assignable_under : {low high : Name} → IsNameAssignable (headers_in P) low high → IsUnder high → IsUnder low
    assignable_under (to_itself name) under = under
    assignable_under (to_interface low high header flat found kind) under =
        let is : is_interface_named P high ≡ is_interface header = rw found refl in
        absurd (no_interface_under (is ∙ kind) under)
    assignable_under (to_class_above low high up) (inl e) = inr (subst (IsBelow (headers_in P) low) e up)
    assignable_under (to_class_above low high up) (inr more) = inr (below_more up more)
    assignable_under (from_array low high is above) under = absurd (above_arrays_not_under above under)
    assignable_under (of_components low high one other is also assignable) under = absurd (no_array_under (is_array_of also) under)

    -- ---- objects

    name_under : {low high : Name} → NameConforms P low high → IsUnder high → IsUnder low
    name_under (conforming.to_below {low = low} {high = high} is) under = subtype_under ((program.links.below low high).0 is) under
    name_under (conforming.to_interface is) under = absurd (no_interface_under is under)
    name_under conforming.to_object under = absurd (no_object_under refl under)
    name_under (conforming.of_components {high = high} {high_component = component} is also conforms) under =
        absurd (no_array_under (array_of_text high component also) under)

    -- an object that conforms is of a class of the folder
    pub record IsUnderShape (shape : Shape) : Type 0 where
      pub class : ℕ
      pub is : shape ≡ shapes.Folder class
      pub under : IsAtOrBelow (headers_in P) (name_of_class P class) d

    pub shape_under : (heap : Heap) (shape : Shape) (vs : List Value) (name : Name) → HoldsShape P heap shape vs → ShapeConforms P shape name
        → IsUnder name → IsUnderShape shape
    shape_under heap (shapes.Folder class) vs name holds (by_class is) under = record { class = class; is = refl; under = name_under is under }
    shape_under heap (shapes.Array desc len) vs name holds (by_class is) under = absurd (no_array_under holds.is_array (name_under is under))
    shape_under heap (shapes.External class also) vs name holds (by_class is) under = absurd (no_library_under holds.of_library (name_under is under))
    shape_under heap (shapes.External class also) vs name holds (by_interface {interface = one} number is_also is) under =
        absurd
        (no_interface_under (at_index (λ (x : Name). IsTrue (is_interface_named P x)) also number one holds.interfaces is_also) (name_under is under))

    -- ---- values

    -- an object of the heap of a class of the folder, at or below that class
    pub record IsObjectUnder (heap : Heap) (v : Value) : Type 0 where
      pub reference : ℕ
      pub is : v ≡ values.Ref reference
      pub object : Object
      pub there : object_at heap reference ≡ Some object
      pub shape : IsUnderShape object.shape

    assigned_object : {t wanted : VType} (name : Name) → IsAssignable (headers_in P) t wanted → wanted ≡ types.Object name
        → (t ≡ types.Null) ⊎ ((low : Name) × (t ≡ types.Object low) × IsNameAssignable (headers_in P) low name)
    assigned_object name (to_same t) e = inr (name, e, to_itself name)
    assigned_object name (to_top t) e = absurd cc
    assigned_object name (from_null other) e = inl refl
    assigned_object name (of_names low high assignable) e =
        let same : high ≡ name = cc in
        inr (low, refl, subst (IsNameAssignable (headers_in P) low) same assignable)

    null_value : {s : RowScope} {heap : Heap} {t : VType} {v : Value} → Conforms P s heap t v → t ≡ types.Null → v ≡ values.Null
    null_value only_null e = refl
    null_value c e = absurd cc

    object_value : {s : RowScope} {heap : Heap} {t : VType} {v : Value} (low : Name) → Conforms P s heap t v → t ≡ types.Object low
        → (v ≡ values.Null) ⊎
        ((reference : ℕ) × (shape : Shape) × (v ≡ values.Ref reference) × HasShape heap reference shape × ShapeConforms P shape low)
    object_value low null_object e = inl refl
    object_value low (an_object {name = name} {reference = reference} {shape = shape} has c) e =
        let same : name ≡ low = cc in
        inr (reference, shape, refl, has, subst (ShapeConforms P shape) same c)
    object_value low c e = absurd cc

    -- a value that a call takes for a receiver of such a class
    pub receiver_under : (heap : Heap)
        → ((reference : ℕ) (object : Object) → object_at heap reference ≡ Some object → HoldsShape P heap object.shape object.values)
        → {s : RowScope} {t : VType} {v : Value} {name : Name}
        → Conforms P s heap t v → IsAssignable (headers_in P) t (types.Object name) → IsUnder name
        → (v ≡ values.Null) ⊎ IsObjectUnder heap v
    receiver_under heap objects {t = t} {v = v} {name = name} c assignable under = by (assigned_object name assignable refl) where
      of_object : (low : Name) → IsUnder low
          → (v ≡ values.Null) ⊎
          ((reference : ℕ) × (shape : Shape) × (v ≡ values.Ref reference) × HasShape heap reference shape × ShapeConforms P shape low)
          → (v ≡ values.Null) ⊎ IsObjectUnder heap v
      of_object low under (inl e) = inl e
      of_object low under (inr o) =
          let has = o.3 in
          let shape = subst (λ shape. ShapeConforms P shape low) (sym has.same) o.4 in
          inr (record {
            reference = o.0;
            is = o.2;
            object = has.object;
            there = has.is_there;
            shape = shape_under heap has.object.shape has.object.values low (objects o.0 has.object has.is_there) shape under;
          })

      by : (t ≡ types.Null) ⊎ ((low : Name) × (t ≡ types.Object low) × IsNameAssignable (headers_in P) low name)
          → (v ≡ values.Null) ⊎ IsObjectUnder heap v
      by (inl e) = inl (null_value c e)
      by (inr a) = of_object a.0 (assignable_under a.2 under) (object_value a.0 c a.1)
