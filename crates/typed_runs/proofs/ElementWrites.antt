use Rattle.std.specs.Prelude.{◌≡◌, refl, ℕ, ℤ, zero, suc, Bool, true, false, List, [], ◌∷◌, length, drop, slice_set, Option, Some, None}
use Rattle.std.specs.List.{AllByRecursion}
use Rattle.std.proofs.Common.{ap, sym, ◌∙◌, subst}
use Rattle.class_model.specs.Descriptors.{type_of}
use Rattle.class_model.specs.Laws.Lists.{AllByRecursion-weaker}
use Rattle.class_model.specs.declared.descriptor.FieldType.TheVariants as field_types
use Rattle.class_model.specs.declared.descriptor.Kind.TheVariants as kinds
use Rattle.class_model.specs.declared.frame.Frame.{Frame}
use Rattle.class_model.specs.declared.frame.VType.{VType}
use Rattle.class_tree.specs.Headers.{Name}
use Rattle.machine_values.specs.Frames.{MethodState}
use Rattle.machine_values.specs.Heaps.{Heap, with_object}
use Rattle.machine_values.specs.Values.{component_text, narrowed}
use Rattle.machine_values.specs.declared.frame.RunFrame.{RunFrame}
use Rattle.machine_values.specs.declared.object.Object.{Object}
use Rattle.machine_values.specs.declared.object.Shape.TheVariants as shapes
use Rattle.machine_values.specs.declared.value.Value.{Value}
use Rattle.machine_values.specs.declared.value.Value.TheVariants as values
use Rattle.member_link.specs.Machine.ArraySteps.{takes_array, index_in, stores_value, fits_component, store_element_work}
use Rattle.member_link.specs.Machine.Completions.{raises}
use Rattle.member_link.specs.Machine.Ops.{Op}
use Rattle.member_link.specs.Machine.Programs.{Program}
use Rattle.member_link.specs.Machine.Shapes.{component_named, is_instance}
use Rattle.member_link.specs.Machine.Throwables.{null_pointer, index_outside, array_store}
use Rattle.member_link.specs.Machine.Worlds.{World, Memory, with_heap}
use Rattle.member_link.specs.RowScope.{RowScope}
use Rattle.member_link.specs.Rows.Operands.{Need, of_kind, IsInitialised}
use Rattle.member_link.specs.Rows.Row.{plain}
use Rattle.typed_runs.proofs.ArrayShapes.{IsArrayIn}
use Rattle.typed_runs.proofs.ElementTypes.{component_type_of}
use Rattle.typed_runs.proofs.Here.{Here, gives_values}
use Rattle.typed_runs.proofs.Kept.{Keeps, field_kept}
use Rattle.typed_runs.proofs.Memories.{object_keeps, object_typed}
use Rattle.typed_runs.proofs.OperandsTaken.{ComesTyped}
use Rattle.typed_runs.proofs.Performing.{raises_goes}
use Rattle.typed_runs.proofs.Raising.{raises_null, raises_index, raises_store}
use Rattle.typed_runs.proofs.Unwinding.{instance_conforms}
use Rattle.typed_runs.specs.Conforming.{HasShape, RefersTo, Conforms, only_null, null_object, an_object, no_values, to_none, to_one, FieldConforms, FitsDescriptor, IsTypedMemory}
use Rattle.typed_runs.specs.TypedPrograms.{Typings}

-- ---- a changed element

pub set_length : (xs : List Value) (at : ℕ) (y : Value) → length (slice_set xs at y) ≡ length xs
set_length [] at y = refl
set_length (x ∷ xs) zero y = refl
set_length (x ∷ xs) (suc at) y = ap suc (set_length xs at y)

pub set_each : (Q : Value → Type 0) (xs : List Value) (at : ℕ) (y : Value) → AllByRecursion Q xs → Q y
    → AllByRecursion Q (slice_set xs at y)
set_each Q [] at y all is = tt
set_each Q (x ∷ xs) zero y all is = (is, all.1)
set_each Q (x ∷ xs) (suc at) y all is = (all.0, set_each Q xs at y all.1 is)

-- an array with a changed element
pub record ElementSet (P : Program) (m : Memory) (h : Heap) : Type 0 where
  pub keep : Keeps m.heap h
  pub typed : IsTypedMemory P (with_heap m h)

abbrev pub changed : {P : Program} {heap : Heap} {name : Name} {v : Value} → IsArrayIn P heap name v → ℕ → Value → Object
changed a at y = record { shape = shapes.Array a.desc a.len; values = slice_set a.elements at y; monitor = a.monitor }

pub element_set : (P : Program) (m : Memory) {name : Name} {v : Value} (a : IsArrayIn P m.heap name v) (at : ℕ) (y : Value)
    → IsTypedMemory P m → FitsDescriptor P m.heap (component_text a.desc) y
    → ElementSet P m (with_object m.heap a.reference (changed a at y))
element_set P m a at y typed fits =
    let old : Object = record { shape = shapes.Array a.desc a.len; values = a.elements; monitor = a.monitor } in
    let after : Heap = with_object m.heap a.reference (changed a at y) in
    let keep : Keeps m.heap after = object_keeps m.heap a.reference old (changed a at y) a.is_there refl in
    let text : Name = component_text a.desc in
    record {
      keep = keep;
      typed = object_typed P m a.reference old (changed a at y) typed a.is_there refl
          (record {
            is_array = a.holds.is_array;
            of_element = a.holds.of_element;
            as_long = set_length a.elements at y ∙ a.holds.as_long;
            elements = AllByRecursion-weaker (FitsDescriptor P m.heap text) (FitsDescriptor P after text)
                (λ x is. field_kept P keep (type_of text) x is) (slice_set a.elements at y)
                (set_each (FitsDescriptor P m.heap text) a.elements at y a.holds.elements fits);
          });
    }

-- ---- a store into an array

module _ {P : Program} {T : Typings} {w : World} {f : MethodState} {rest : List RunFrame} {s : RowScope} {frame : Frame} {place : ℕ}
    {numbered : ℕ → ℕ} {first third : Need} {op : Op}
    (h : Here P T w f rest s frame place numbered (plain frame (first ∷ of_kind kinds.Int ∷ third ∷ []) []) op true []) where
  pub store_null : (n : ℕ) (v x y : Value) (i : ℤ) → v ≡ values.Null → x ≡ values.Int i → stores_value n y ≡ true
      → ComesTyped P T w f rest 3 (store_element_work P w.memory n (v ∷ x ∷ y ∷ []))
  store_null n v x y i null is stored =
      rw is (rw stored (rw null (raises_goes h null_pointer (drop 3 f.stack) (raises_null P T h.typed.program))))

  pub store_goes : (n : ℕ) (v x y : Value) (i : ℤ) → x ≡ values.Int i → stores_value n y ≡ true
      → (name : Name) (a : IsArrayIn P w.memory.heap name v) → takes_array n a.desc ≡ true
      → (fits_component P w.memory a.desc y ≡ true
      → FitsDescriptor P w.memory.heap (component_text a.desc) (narrowed (type_of (component_text a.desc)) y))
      → ComesTyped P T w f rest 3 (store_element_work P w.memory n (v ∷ x ∷ y ∷ []))
  store_goes n v x y i is stored name a takes element = by (index_in i a.len) refl where
    outside : ComesTyped P T w f rest 3 (raises index_outside)
    outside = raises_goes h index_outside (drop 3 f.stack) (raises_index P T h.typed.program)

    no_instance : ComesTyped P T w f rest 3 (raises array_store)
    no_instance = raises_goes h array_store (drop 3 f.stack) (raises_store P T h.typed.program)

    by_fit : (at : ℕ) → index_in i a.len ≡ Some at → (b : Bool) → fits_component P w.memory a.desc y ≡ b
        → ComesTyped P T w f rest 3 (store_element_work P w.memory n (v ∷ x ∷ y ∷ []))
    by_fit at e false d = rw is (rw stored (rw a.is (rw a.is_there (rw takes (rw e (rw d no_instance))))))
    by_fit at e true d =
        let set = element_set P w.memory a at (narrowed (type_of (component_text a.desc)) y) h.typed.memory (element d) in
        let after : Heap = with_object w.memory.heap a.reference (changed a at (narrowed (type_of (component_text a.desc)) y)) in
        rw is (rw stored (rw a.is (rw a.is_there (rw takes (rw e (rw d (rw a.is_there
        (gives_values h (with_heap w.memory after) set.keep set.typed [] no_values))))))))

    by : (at : Option ℕ) → index_in i a.len ≡ at → ComesTyped P T w f rest 3 (store_element_work P w.memory n (v ∷ x ∷ y ∷ []))
    by None e = rw is (rw stored (rw a.is (rw a.is_there (rw takes (rw e outside)))))
    by (Some at) e = by_fit at e (fits_component P w.memory a.desc y) refl

-- ---- references

-- a reference that is stored, and what it conforms to where it is an instance of the array's component
pub record StoresReference (P : Program) (m : Memory) (desc : Name) (y : Value) : Type 0 where
  pub stored : stores_value 4 y ≡ true
  pub fits : (component : Name) → component_named (component_text desc) ≡ Some component → fits_component P m desc y ≡ true
      → FitsDescriptor P m.heap (component_text desc) (narrowed (type_of (component_text desc)) y)

-- a reference keeps all its bits
pub reference_fits : (P : Program) (h : Heap) (text component : Name) (y : Value) → component_named text ≡ Some component
    → narrowed (field_types.Named component) y ≡ y → RefersTo P h component y → FitsDescriptor P h text (narrowed (type_of text) y)
reference_fits P h text component y is same refers =
    let whole : RefersTo P h component (narrowed (field_types.Named component) y) = subst (RefersTo P h component) (sym same) refers in
    subst (λ t. FieldConforms P h t (narrowed t y)) (sym (component_type_of text component is)) whole

pub null_stored : (P : Program) (m : Memory) (desc : Name) → StoresReference P m desc values.Null
null_stored P m desc = record {
  stored = refl;
  fits = λ component is fits. reference_fits P m.heap (component_text desc) component values.Null is refl to_none;
}

pub stores_reference : (P : Program) (m : Memory) (desc : Name) {s : RowScope} {t : VType} {y : Value}
    → IsInitialised t → Conforms P s m.heap t y → StoresReference P m desc y
stores_reference P m desc is only_null = null_stored P m desc
stores_reference P m desc is null_object = null_stored P m desc
stores_reference P m desc is (an_object {reference = r} has conforms) = record {
  stored = refl;
  fits = λ component e fits.
      let test : is_instance P has.object.shape component ≡ true = rw has.is_there at (rw e at fits) in
      let shape : HasShape m.heap r has.object.shape = record { object = has.object; is_there = has.is_there; same = refl } in
      reference_fits P m.heap (component_text desc) component (values.Ref r) e refl
      (to_one shape (instance_conforms P has.object.shape component test));
}
stores_reference P m desc is conforms = absurd is
