use Rattle.std.specs.Prelude.{◌≡◌, ◌&&◌, not, refl, ℕ, ℤ, pos, negsuc, nat_le, Bool, true, false, List, [], slice_get, Option, Some, None, is_some, option_and_then, if◌then◌else◌}
use Rattle.std.specs.List.{list_any}
use Rattle.class_model.specs.Descriptors.{type_of}
use Rattle.class_model.specs.Laws.Lists.{at_index}
use Rattle.class_tree.specs.Headers.{Name}
use Rattle.machine_values.specs.Heaps.{Heap, object_at, with_value, allocated}
use Rattle.machine_values.specs.Values.{component_text, narrowed}
use Rattle.machine_values.specs.declared.object.Object.{Object}
use Rattle.machine_values.specs.declared.object.Shape.{Shape}
use Rattle.machine_values.specs.declared.object.Shape.TheVariants as shapes
use Rattle.machine_values.specs.declared.value.Value.{Value}
use Rattle.member_link.specs.Machine.Acting.{fault, known_object, got_of_value, got_of_shape, act_array_get, set_at, set_of_shape, act_array_set, length_of_shape, act_array_length, is_array_descriptor, is_concrete, shows_new, act_new_array, act_new_external}
use Rattle.member_link.specs.Machine.ArraySteps.{most_elements, blank_array, index_in}
use Rattle.member_link.specs.Machine.Programs.{Program, header_named, folder_number, is_interface_named}
use Rattle.member_link.specs.Machine.Shapes.{value_conforms}
use Rattle.member_link.specs.Machine.Showing.{shows_got}
use Rattle.member_link.specs.Machine.Worlds.{World, with_heap}
use Rattle.typed_runs.proofs.Basics.{and_first, and_second}
use Rattle.typed_runs.proofs.ArrayForms.{array_within}
use Rattle.typed_runs.proofs.Blanks.{blank_array_holds}
use Rattle.typed_runs.proofs.Elements.{field_in_heap, element_typed, all_interfaces, concrete_there, not_true, none_of}
use Rattle.typed_runs.proofs.Given.{narrowed_fits}
use Rattle.typed_runs.proofs.Here.{stays}
use Rattle.typed_runs.proofs.Kept.{Keeps, there, frames_kept, known_kept}
use Rattle.typed_runs.proofs.LibraryFrames.{fault_stays}
use Rattle.typed_runs.proofs.Memories.{made_keeps, made_shape, made_typed}
use Rattle.typed_runs.proofs.Points.{of_chain}
use Rattle.typed_runs.proofs.Shown.{value_known, reference_known, showing_stays}
use Rattle.typed_runs.specs.Conforming.{IsValueInHeap, FitsDescriptor, IsArrayObject, IsLibraryObject, HoldsShape}
use Rattle.typed_runs.specs.TypedPrograms.{Typings}
use Rattle.typed_runs.specs.TypedWorlds.{TypedWorld, StaysTyped}

module _ (P : Program) (T : Typings) (w : World) (typed : TypedWorld P T w) where
  -- ---- elements of an array

  pub got_stays : (v : Value) → IsValueInHeap w.memory.heap v → StaysTyped P T w (shows_got P w v)
  got_stays v is = record {
    typed = showing_stays P T w _ typed (value_known P w.memory.heap w.memory.heap w.known v typed.known is);
    not_stuck = λ no. no;
  }

  pub get_stays : (reference : Option ℕ) (index : ℤ) → StaysTyped P T w (act_array_get P w (known_object w reference) index)
  get_stays reference index = by (known_object w reference) refl where
    by_value : (desc : Name) (len : ℕ) (vs : List Value) → IsArrayObject P w.memory.heap desc len vs → (v : Option Value)
        → option_and_then (slice_get vs) (index_in index len) ≡ v → StaysTyped P T w (got_of_value P w v)
    by_value desc len vs holds None e = fault_stays P T w typed
    by_value desc len vs holds (Some v) e =
        let c = of_chain (slice_get vs) (index_in index len) v e in
        got_stays v (field_in_heap P w.memory.heap (type_of (component_text desc)) v
        (at_index (FitsDescriptor P w.memory.heap (component_text desc)) vs c.0 v holds.elements c.2))

    by_shape : (s : Shape) (vs : List Value) → HoldsShape P w.memory.heap s vs → StaysTyped P T w (got_of_shape P w vs index s)
    by_shape (shapes.Array desc len) vs holds = by_value desc len vs holds (option_and_then (slice_get vs) (index_in index len)) refl
    by_shape (shapes.Folder class) vs holds = fault_stays P T w typed
    by_shape (shapes.External class also) vs holds = fault_stays P T w typed

    by : (o : Option Object) → known_object w reference ≡ o → StaysTyped P T w (act_array_get P w o index)
    by None e = fault_stays P T w typed
    by (Some o) e = let c = of_chain (object_at w.memory.heap) reference o e in by_shape o.shape o.values (typed.memory.objects c.0 o c.2)

  pub set_stays : (reference : Option ℕ) (index : ℤ) (value : Option Value)
      → StaysTyped P T w (act_array_set P w reference (known_object w reference) index value)
  set_stays None index value = fault_stays P T w typed
  set_stays (Some r) index value = by (object_at w.memory.heap r) refl value where
    by_test : (o : Object) → object_at w.memory.heap r ≡ Some o → (desc : Name) (len : ℕ) → o.shape ≡ shapes.Array desc len
        → (at : ℕ) (v : Value) (b : Bool) → value_conforms P w.memory.heap (type_of (component_text desc)) v ≡ b
        → StaysTyped P T w (if b then record w {
          memory = with_heap w.memory
              (with_value w.memory.heap r at (narrowed (type_of (component_text desc)) v));
        } else fault w)
    by_test o is desc len shape at v false e = fault_stays P T w typed
    by_test o is desc len shape at v true e =
        let written = element_typed P w.memory typed.memory r o is desc len shape at (narrowed (type_of (component_text desc)) v)
        (narrowed_fits P w.memory.heap (type_of (component_text desc)) v e) in
        stays P T w (with_heap w.memory (with_value w.memory.heap r at (narrowed (type_of (component_text desc)) v))) w.frames typed
        written.keep written.typed (frames_kept written.keep typed.frames)

    by_index : (o : Object) → object_at w.memory.heap r ≡ Some o → (desc : Name) (len : ℕ) → o.shape ≡ shapes.Array desc len
        → (v : Value) (at : Option ℕ) → StaysTyped P T w (set_at P w r (type_of (component_text desc)) v at)
    by_index o is desc len shape v None = fault_stays P T w typed
    by_index o is desc len shape v (Some at) = by_test o is desc len shape at v
        (value_conforms P w.memory.heap (type_of (component_text desc)) v) refl

    by_shape : (o : Object) → object_at w.memory.heap r ≡ Some o → (v : Value) (s : Shape) → o.shape ≡ s
        → StaysTyped P T w (set_of_shape P w r index v s)
    by_shape o is v (shapes.Array desc len) e = by_index o is desc len e v (index_in index len)
    by_shape o is v (shapes.Folder class) e = fault_stays P T w typed
    by_shape o is v (shapes.External class also) e = fault_stays P T w typed

    by : (o : Option Object) → object_at w.memory.heap r ≡ o → (v : Option Value)
        → StaysTyped P T w (act_array_set P w (Some r) o index v)
    by None e v = fault_stays P T w typed
    by (Some o) e None = fault_stays P T w typed
    by (Some o) e (Some v) = by_shape o e v o.shape refl

  pub length_stays : (o : Option Object) → StaysTyped P T w (act_array_length w o)
  length_stays None = fault_stays P T w typed
  length_stays (Some o) = by o.shape where
    by : (s : Shape) → StaysTyped P T w (length_of_shape w s)
    by (shapes.Array desc len) = record { typed = showing_stays P T w _ typed typed.known; not_stuck = λ no. no }
    by (shapes.Folder class) = fault_stays P T w typed
    by (shapes.External class also) = fault_stays P T w typed

  -- ---- new objects

  pub shows_new_stays : (s : Shape) (vs : List Value) → HoldsShape P (allocated w.memory.heap s vs).heap s vs
      → StaysTyped P T w (shows_new P w (allocated w.memory.heap s vs))
  shows_new_stays s vs holds =
      let h : Heap = (allocated w.memory.heap s vs).heap in
      let r : ℕ = (allocated w.memory.heap s vs).reference in
      let keep : Keeps w.memory.heap h = made_keeps w.memory.heap s vs in
      let v : World = record w { memory = with_heap w.memory h } in
      let stored = stays P T w (with_heap w.memory h) w.frames typed keep (made_typed P w.memory s vs typed.memory holds)
      (frames_kept keep typed.frames) in
      record {
        typed = showing_stays P T v _ stored.typed (reference_known P h h w.known r (known_kept keep w.known typed.known)
            (there (made_shape w.memory.heap s vs)));
        not_stuck = λ no. no;
      }

  pub new_array_stays : (desc : Name) (count : ℤ) → StaysTyped P T w (act_new_array P w desc count)
  new_array_stays desc (negsuc n) = fault_stays P T w typed
  new_array_stays desc (pos count) = by (is_array_descriptor desc && nat_le count most_elements) refl where
    by : (b : Bool) → (is_array_descriptor desc && nat_le count most_elements) ≡ b
        → StaysTyped P T w (if b then shows_new P w (blank_array w.memory.heap desc count) else fault w)
    by false e = fault_stays P T w typed
    by true e =
        let form = array_within 255 desc (and_first (is_array_descriptor desc) (nat_le count most_elements) e) in
        shows_new_stays (shapes.Array desc count) _ (blank_array_holds P _ desc count form.0 form.1)

  pub new_external_stays : (class : Name) (also : List Name) → StaysTyped P T w (act_new_external P w class also)
  new_external_stays class also = by _ refl where
    by : (b : Bool) → (not (is_some (folder_number P class)) && (is_concrete (header_named P class) && not
        (list_any (λ name. not (is_interface_named P name)) also))) ≡ b
        → StaysTyped P T w (if b then shows_new P w (allocated w.memory.heap (shapes.External class also) []) else fault w)
    by false e = fault_stays P T w typed
    by true e =
        let outside : not (is_some (folder_number P class)) ≡ true = and_first (not (is_some (folder_number P class))) _ e in
        let rest : (is_concrete (header_named P class) && not (list_any (λ name. not (is_interface_named P name)) also)) ≡ true =
        and_second (not (is_some (folder_number P class))) _ e in
        let holds : IsLibraryObject P class also = record {
          is_there = concrete_there P class (and_first (is_concrete (header_named P class)) _ rest);
          of_library = none_of (folder_number P class) (not_true (is_some (folder_number P class)) outside);
          interfaces = all_interfaces P also (not_true (list_any (λ name. not (is_interface_named P name)) also)
              (and_second (is_concrete (header_named P class)) _ rest));
        } in
        shows_new_stays (shapes.External class also) [] holds
