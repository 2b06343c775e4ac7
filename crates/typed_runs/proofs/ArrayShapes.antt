use Rattle.std.specs.Prelude.{◌≡◌, ◌⊎◌, refl, ℕ, List, slice_get, Option, Some, None, IsTrue, is_some, option_map}
use Rattle.std.proofs.Common.{inl, inr, ap, sym, ◌∙◌, subst}
use Rattle.std.proofs.lemmas.Option.{slice_get-map}
use Rattle.class_model.specs.Laws.Lists.{at_index}
use Rattle.class_model.specs.declared.frame.VType.{VType}
use Rattle.class_model.specs.declared.frame.VType.TheVariants as types
use Rattle.class_model.specs.declared.header.Header.{Header}
use Rattle.class_tree.specs.Headers.{Name, IsThere, class_named}
use Rattle.class_tree.specs.Laws.Arrays.{not_above_arrays}
use Rattle.class_tree.specs.Order.{header_at}
use Rattle.class_tree.specs.Subtype.{IsArray, IsReferenceComponent, IsSubtype, itself, below, of_arrays, components}
use Rattle.class_tree.specs.declared.place.Place.TheVariants as places
use Rattle.machine_values.specs.Heaps.{Heap, object_at}
use Rattle.machine_values.specs.Values.{component_text}
use Rattle.machine_values.specs.declared.object.Shape.{Shape}
use Rattle.machine_values.specs.declared.object.Shape.TheVariants as shapes
use Rattle.machine_values.specs.declared.value.Value.{Value}
use Rattle.machine_values.specs.declared.value.Value.TheVariants as values
use Rattle.member_link.specs.Machine.Programs.{Program, RunClass, headers_in, name_of_class, is_interface_named}
use Rattle.member_link.specs.Machine.Shapes.{component_named}
use Rattle.member_link.specs.Machine.Worlds.{Memory}
use Rattle.member_link.specs.RowScope.{RowScope}
use Rattle.member_link.specs.Rows.Operands.{IsNullOr}
use Rattle.typed_runs.proofs.AssignedNames.{component_is, array_of_text, no_object_array, no_array_interface, array_below}
use Rattle.typed_runs.proofs.ConformsThrough.{class_is_no_array, not_under_array}
use Rattle.typed_runs.specs.Conforming.{NameConforms, to_below, to_interface, to_object, of_components, ShapeConforms, by_class, by_interface, Conforms, only_null, null_object, an_object, HoldsShape, IsArrayObject, IsTypedMemory}
use Rattle.typed_runs.specs.TypedPrograms.{Typings, IsTypedProgram}

-- the shape of an array, which is taken for this one
pub record IsArrayShape (P : Program) (shape : Shape) (name : Name) : Type 0 where
  pub desc : Name
  pub len : ℕ
  pub is : shape ≡ shapes.Array desc len
  pub conforms : NameConforms P desc name

-- a reference to an array, which is taken for one of these arrays
pub record IsArrayIn (P : Program) (heap : Heap) (name : Name) (v : Value) : Type 0 where
  pub reference : ℕ
  pub is : v ≡ values.Ref reference
  pub desc : Name
  pub len : ℕ
  pub elements : List Value
  pub monitor : ℕ
  pub is_there : object_at heap reference ≡ Some (record { shape = shapes.Array desc len; values = elements; monitor = monitor })
  pub conforms : NameConforms P desc name
  pub holds : IsArrayObject P heap desc len elements

-- a type of arrays, and a reference to one
pub record IsArrayOf (P : Program) (heap : Heap) (Named : Name → Type 0) (t : VType) (v : Value) : Type 0 where
  pub name : Name
  pub is_type : t ≡ types.Object name
  pub named : Named name
  pub array : IsArrayIn P heap name v

-- an array of references, by its component
abbrev pub IsOfReferences : Name → Type 0
IsOfReferences name = (component : Name) × IsReferenceComponent name component

module _ (P : Program) (T : Typings) (program : IsTypedProgram P T) where
  -- ---- classes are no arrays

  -- a class of the folder is there
  pub folder_class_there : (class : ℕ) (found : RunClass) → slice_get P.classes class ≡ Some found
      → IsThere (headers_in P) (name_of_class P class)
  folder_class_there class found is =
      let at : header_at (headers_in P) (places.Folder class) ≡ Some found.header =
      slice_get-map (λ (c : RunClass). c.header) P.classes class ∙ ap (λ o. option_map (λ (c : RunClass). c.header) o) is in
      let stands = program.hierarchy.of_place (places.Folder class) found.header at in
      rw is (ap is_some stands.found)

  pub interface_there : (name : Name) → IsTrue (is_interface_named P name) → IsThere (headers_in P) name
  interface_there name is = by (class_named (headers_in P) name) refl where
    by : (o : Option Header) → class_named (headers_in P) name ≡ o → IsThere (headers_in P) name
    by None e = let no = rw e at is in cc
    by (Some header) e = ap is_some e

  pub class_no_array : (low name : Name) → IsThere (headers_in P) low → IsArray name → NameConforms P low name → ⊥
  class_no_array low name there is (to_below up) =
      class_is_no_array P T program low there (array_below P T program ((program.links.below low name).0 up) is)
  class_no_array low name there is (to_interface kind) = let e = no_array_interface P T program name is in cc
  class_no_array low name there is to_object = no_object_array is
  class_no_array low name there is (of_components {low_component = component} has also conforms) =
      class_is_no_array P T program low there (array_of_text low component has)

  -- ---- what is taken for an array is one

  pub array_shape : (heap : Heap) (shape : Shape) (held : List Value) (name : Name) → HoldsShape P heap shape held → IsArray name
      → ShapeConforms P shape name → IsArrayShape P shape name
  array_shape heap (shapes.Array desc len) held name holds is (by_class conforms) =
      record { desc = desc; len = len; is = refl; conforms = conforms }
  array_shape heap (shapes.Folder class) held name holds is (by_class conforms) =
      absurd (class_no_array (name_of_class P class) name (folder_class_there class holds.found holds.is_class) is conforms)
  array_shape heap (shapes.External class also) held name holds is (by_class conforms) =
      absurd (class_no_array class name holds.is_there is conforms)
  array_shape heap (shapes.External class also) held name holds is (by_interface {interface = interface} number found conforms) =
      let kind = at_index (λ n. IsTrue (is_interface_named P n)) also number interface holds.interfaces found in
      absurd (class_no_array interface name (interface_there interface kind) is conforms)

  -- null, or a reference to an array
  pub an_array_value : (m : Memory) → IsTypedMemory P m → (Named : Name → Type 0) → ((name : Name) → Named name → IsArray name)
      → {s : RowScope} {t : VType} {v : Value} → IsNullOr Named t → Conforms P s m.heap t v
      → (v ≡ values.Null) ⊎ IsArrayOf P m.heap Named t v
  an_array_value m typed Named arrays is only_null = inl refl
  an_array_value m typed Named arrays is null_object = inl refl
  an_array_value m typed Named arrays is (an_object {name = name} {reference = r} has conforms) =
      let holds = typed.objects r has.object has.is_there in
      let a = array_shape m.heap has.object.shape has.object.values name holds (arrays name is)
      (subst (λ x. ShapeConforms P x name) (sym has.same) conforms) in
      inr (record {
        name = name;
        is_type = refl;
        named = is;
        array = record {
          reference = r;
          is = refl;
          desc = a.desc;
          len = a.len;
          elements = has.object.values;
          monitor = has.object.monitor;
          is_there = has.is_there ∙ ap (λ (x : Shape). Some (record has.object { shape = x })) a.is;
          conforms = a.conforms;
          holds = subst (λ x. HoldsShape P m.heap x has.object.values) a.is holds;
        };
      })
  an_array_value m typed Named arrays is conforms = absurd is

  -- an array of numbers is taken for itself alone
  pub same_array : (desc name : Name) → IsArray name → component_named (component_text name) ≡ None → NameConforms P desc name → desc ≡ name
  same_array desc name is flat (to_below up) = by ((program.links.below desc name).0 up) where
    by : {low : Name} → IsSubtype (headers_in P) low name → low ≡ name
    by (itself _) = refl
    by (below _ middle _ step rest) =
        absurd (not_under_array P T program step rest is)
    by (of_arrays _ _ is_array above) = absurd (not_above_arrays is above)
    by (components _ _ one other has also sub) = let e = component_is also in cc
  same_array desc name is flat (to_interface kind) = let e = no_array_interface P T program name is in cc
  same_array desc name is flat to_object = absurd (no_object_array is)
  same_array desc name is flat (of_components has also conforms) = cc
