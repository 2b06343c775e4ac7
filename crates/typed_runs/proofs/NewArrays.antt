use Rattle.std.specs.Prelude.{◌≡◌, ◌+◌, refl, ℕ, ℤ, pos, negsuc, nat_lt, Bool, true, false, List, [], ◌∷◌, length, drop, replicate, Option, Some, None, if◌then◌else◌}
use Rattle.std.specs.List.{AllByRecursion}
use Rattle.std.proofs.lemmas.List.{length-replicate}
use Rattle.class_model.specs.Descriptors.{type_of}
use Rattle.class_model.specs.Laws.Lists.{AllByRecursion-weaker}
use Rattle.class_model.specs.declared.descriptor.Kind.TheVariants as kinds
use Rattle.class_model.specs.declared.frame.Frame.{Frame}
use Rattle.class_model.specs.declared.frame.VType.TheVariants as types
use Rattle.class_tree.specs.Headers.{Name}
use Rattle.class_tree.specs.Subtype.{IsArray, itself}
use Rattle.machine_values.specs.Frames.{MethodState}
use Rattle.machine_values.specs.Heaps.{Heap, Made, allocated}
use Rattle.machine_values.specs.Values.{blank_value, component_text}
use Rattle.machine_values.specs.declared.frame.RunFrame.{RunFrame}
use Rattle.machine_values.specs.declared.object.Shape.TheVariants as shapes
use Rattle.machine_values.specs.declared.value.Value.{Value}
use Rattle.machine_values.specs.declared.value.Value.TheVariants as values
use Rattle.member_link.specs.Machine.ArraySteps.{most_elements, blank_array, gives_array, gives_arrays, new_array_work}
use Rattle.member_link.specs.Machine.Codes.{naming}
use Rattle.member_link.specs.Machine.Completions.{ends}
use Rattle.member_link.specs.Machine.Ops.{Op, new_array}
use Rattle.member_link.specs.Machine.Programs.{Program}
use Rattle.member_link.specs.Machine.Stepping.{op_step}
use Rattle.member_link.specs.Machine.Throwables.{negative_size}
use Rattle.member_link.specs.Machine.Worlds.{World, Memory, with_heap, array_too_long}
use Rattle.member_link.specs.RowScope.{RowScope}
use Rattle.member_link.specs.Rows.ArrayRows.{made_row}
use Rattle.member_link.specs.Rows.Operands.{Need, of_kind, topmost}
use Rattle.member_link.specs.Rows.Row.{access_aside, plain}
use Rattle.typed_runs.proofs.BlankValues.{blank_fits, each_same}
use Rattle.typed_runs.proofs.Here.{Here, operands_here, worked, gives_values}
use Rattle.typed_runs.proofs.Kept.{Keeps, field_kept}
use Rattle.typed_runs.proofs.NamesThere.{names_no_array}
use Rattle.typed_runs.proofs.Memories.{made_keeps, made_shape, made_typed}
use Rattle.typed_runs.proofs.OperandsTaken.{ComesTyped, of_one}
use Rattle.typed_runs.proofs.Performing.{raises_goes, ends_goes}
use Rattle.typed_runs.proofs.Raising.{raises_size}
use Rattle.typed_runs.proofs.Taken.{One, an_int_value}
use Rattle.typed_runs.specs.Conforming.{HasShape, NameConforms, to_below, by_class, an_object, no_values, and_value, FitsDescriptor, IsTypedMemory, NamesNoArray}
use Rattle.typed_runs.specs.TypedPrograms.{Typings, IsTypedProgram}
use Rattle.typed_runs.specs.TypedWorlds.{StaysTyped}

-- ---- an array that is made

pub record ArrayMade (P : Program) (m : Memory) (desc : Name) (made : Made) : Type 0 where
  pub keep : Keeps m.heap made.heap
  pub typed : IsTypedMemory P (with_heap m made.heap)
  pub len : ℕ
  pub shape : HasShape made.heap made.reference (shapes.Array desc len)

-- of elements that conform
pub array_made : (P : Program) (m : Memory) (desc : Name) (count : ℕ) (elements : List Value) → IsTypedMemory P m → IsArray desc
    → NamesNoArray desc
    → length elements ≡ count → AllByRecursion (FitsDescriptor P m.heap (component_text desc)) elements
    → ArrayMade P m desc (allocated m.heap (shapes.Array desc count) elements)
array_made P m desc count elements typed is named long all =
    let after : Heap = (allocated m.heap (shapes.Array desc count) elements).heap in
    let text : Name = component_text desc in
    let keep : Keeps m.heap after = made_keeps m.heap (shapes.Array desc count) elements in
    record {
      keep = keep;
      typed = made_typed P m (shapes.Array desc count) elements typed
          (record {
            is_array = is;
            of_element = named;
            as_long = long;
            elements = AllByRecursion-weaker (FitsDescriptor P m.heap text) (FitsDescriptor P after text)
                (λ x fits. field_kept P keep (type_of text) x fits) elements all;
          });
      len = count;
      shape = made_shape m.heap (shapes.Array desc count) elements;
    }

-- of elements that are zero or null
pub blank_made : (P : Program) (m : Memory) (desc : Name) (count : ℕ) → IsTypedMemory P m → IsArray desc → NamesNoArray desc
    → ArrayMade P m desc (blank_array m.heap desc count)
blank_made P m desc count typed is named =
    let text : Name = component_text desc in
    array_made P m desc count (replicate count (blank_value text)) typed is named (length-replicate count (blank_value text))
    (each_same (FitsDescriptor P m.heap text) count (blank_value text) (blank_fits P m.heap text))

-- another count of allocations
pub allocations_typed : (P : Program) (m : Memory) (n : ℕ) → IsTypedMemory P m → IsTypedMemory P (record m { allocations = n })
allocations_typed P m n typed = record { objects = typed.objects; constants = typed.constants; statics = typed.statics }

-- each name is taken for itself
pub array_itself : (P : Program) (T : Typings) → IsTypedProgram P T → (desc : Name) → NameConforms P desc desc
array_itself P T program desc = to_below ((program.links.below desc desc).1 (itself desc))

-- ---- an array that is given

pub array_given : {P : Program} {T : Typings} {w : World} {f : MethodState} {rest : List RunFrame} {s : RowScope} {frame : Frame} {place : ℕ}
    {numbered : ℕ → ℕ} {takes : List Need} {desc : Name} {op : Op}
    → Here P T w f rest s frame place numbered (plain frame takes (types.Object desc ∷ [])) op true []
    → (more : ℕ) (made : Made) → ArrayMade P w.memory desc made → ComesTyped P T w f rest (length takes) (gives_arrays w.memory more made)
array_given {P = P} {T = T} {w = w} {desc = desc} h more made is =
    let after : Memory = record w.memory { heap = made.heap; allocations = w.memory.allocations + more } in
    let typed : IsTypedMemory P after = allocations_typed P (with_heap w.memory made.heap) (w.memory.allocations + more) is.typed in
    gives_values h after is.keep typed (values.Ref made.reference ∷ [])
    (and_value (an_object is.shape (by_class (array_itself P T h.typed.program desc))) no_values)

-- ---- newarray and anewarray

module _ {P : Program} {T : Typings} {w : World} {f : MethodState} {rest : List RunFrame} {s : RowScope} {frame : Frame} {place : ℕ}
    {numbered : ℕ → ℕ} where
  pub new_array_stays : (desc : Name)
      → Here P T w f rest s frame place numbered (plain frame (of_kind kinds.Int ∷ []) (types.Object desc ∷ [])) (new_array desc) true []
      → StaysTyped P T w (op_step P w f rest (new_array desc))
  new_array_stays desc h = worked h 1 refl (operands_here h).enough (of_one (of_kind kinds.Int) h (new_array_work w.memory desc) by) where
    by_test : (count : ℕ) (b : Bool)
        → ComesTyped P T w f rest 1 (if b then ends array_too_long else gives_array w.memory (blank_array w.memory.heap desc count))
    by_test count true = ends_goes h array_too_long (record f { stack = drop 1 f.stack }) (λ e. cc)
    by_test count false =
        array_given h 1 (blank_array w.memory.heap desc count) (blank_made P w.memory desc count h.typed.memory h.linked.0 (names_no_array P T h.typed.program desc h.linked.1))

    by_int : (v : Value) (i : ℤ) → v ≡ values.Int i → ComesTyped P T w f rest 1 (new_array_work w.memory desc (v ∷ []))
    by_int v (negsuc n) is = rw is (raises_goes h negative_size (drop 1 f.stack) (raises_size P T h.typed.program))
    by_int v (pos count) is = rw is (by_test count (nat_lt most_elements count))

    by : (v : Value) → One P (T f.at).scope w.memory.heap s (of_kind kinds.Int) (topmost 1 frame.stack) v
        → ComesTyped P T w f rest 1 (new_array_work w.memory desc (v ∷ []))
    by v one = let i = an_int_value one.fits one.conforms in by_int v i.0 i.1

  pub named_array_stays : (name : Option Name)
      → Here P T w f rest s frame place numbered (access_aside (made_row frame 1 name)) (naming name new_array) true []
      → StaysTyped P T w (op_step P w f rest (naming name new_array))
  named_array_stays None h = absurd h.linked
  named_array_stays (Some desc) h = new_array_stays desc h
