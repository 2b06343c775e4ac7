use Rattle.std.specs.Prelude.{◌≡◌, not, refl, ℕ, zero, suc, Bool, true, false, List, [], ◌∷◌, slice_set, Option, Some, None, IsSome, IsTrue, is_some}
use Rattle.std.specs.List.{AllByRecursion, list_any}
use Rattle.std.proofs.Common.{sym, ◌∙◌, subst}
use Rattle.std.proofs.lemmas.List.{length-set}
use Rattle.class_model.specs.Descriptors.{type_of}
use Rattle.class_model.specs.declared.descriptor.FieldType.{FieldType}
use Rattle.class_model.specs.declared.descriptor.FieldType.TheVariants as field_types
use Rattle.class_model.specs.declared.header.Header.{Header}
use Rattle.class_tree.specs.Headers.{Name, class_named}
use Rattle.machine_values.specs.Heaps.{Heap, object_at, with_object, with_value}
use Rattle.machine_values.specs.Values.{component_text}
use Rattle.machine_values.specs.declared.object.Object.{Object}
use Rattle.machine_values.specs.declared.object.Shape.TheVariants as shapes
use Rattle.machine_values.specs.declared.value.Value.{Value}
use Rattle.machine_values.specs.declared.value.Value.TheVariants as values
use Rattle.member_link.specs.Machine.Acting.{is_concrete}
use Rattle.member_link.specs.Machine.Programs.{Program, headers_in, header_named, is_interface_named}
use Rattle.member_link.specs.Machine.Worlds.{Memory, with_heap}
use Rattle.typed_runs.proofs.Kept.{Keeps, there, field_kept, holds_kept}
use Rattle.typed_runs.proofs.Memories.{object_keeps, object_typed}
use Rattle.typed_runs.specs.Conforming.{IsValueInHeap, to_one, FieldConforms, FitsDescriptor, IsArrayObject, HoldsShape, IsTypedMemory}

-- ---- values of a type are in the heap

pub field_in_heap : (P : Program) (h : Heap) (t : FieldType) (v : Value) → FieldConforms P h t v → IsValueInHeap h v
field_in_heap P h t (values.Int n) is = tt
field_in_heap P h t (values.Long n) is = tt
field_in_heap P h t (values.Float n) is = tt
field_in_heap P h t (values.Double n) is = tt
field_in_heap P h t values.Null is = tt
field_in_heap P h (field_types.Named name) (values.Ref r) (to_one shape is) = there shape
field_in_heap P h t (values.Ref r) is = cc

-- ---- an element that is written

pub all_with : {A : Type 0} (Q : A → Type 0) (xs : List A) (at : ℕ) (x : A) → AllByRecursion Q xs → Q x
    → AllByRecursion Q (slice_set xs at x)
all_with Q [] at x all is = tt
all_with Q (y ∷ xs) zero x all is = (is, all.1)
all_with Q (y ∷ xs) (suc at) x all is = (all.0, all_with Q xs at x all.1 is)

pub record WrittenTyped (P : Program) (m : Memory) (h : Heap) : Type 0 where
  pub keep : Keeps m.heap h
  pub typed : IsTypedMemory P (with_heap m h)

pub element_typed : (P : Program) (m : Memory) → IsTypedMemory P m → (r : ℕ) (o : Object) → object_at m.heap r ≡ Some o
    → (desc : Name) (len : ℕ) → o.shape ≡ shapes.Array desc len
    → (at : ℕ) (v : Value) → FitsDescriptor P m.heap (component_text desc) v → WrittenTyped P m (with_value m.heap r at v)
element_typed P m typed r o is desc len shape at v fits =
    rw is (record {
      keep = keep;
      typed = object_typed P m r o new typed is refl
          (subst (λ s. HoldsShape P (with_object m.heap r new) s new.values) (sym shape) holds);
    }) where
      new : Object
      new = record o { values = slice_set o.values at v }

      keep : Keeps m.heap (with_object m.heap r new)
      keep = object_keeps m.heap r o new is refl

      before : IsArrayObject P (with_object m.heap r new) desc len o.values
      before = holds_kept P keep (shapes.Array desc len) o.values (subst (λ s. HoldsShape P m.heap s o.values) shape
          (typed.objects r o is))

      holds : IsArrayObject P (with_object m.heap r new) desc len new.values
      holds = record {
        is_array = before.is_array;
        of_element = before.of_element;
        as_long = length-set o.values at v ∙ before.as_long;
        elements = all_with (FitsDescriptor P (with_object m.heap r new) (component_text desc)) o.values at v before.elements
            (field_kept P keep (type_of (component_text desc)) v fits);
      }

-- ---- what an object of the library is of

pub all_interfaces : (P : Program) (also : List Name) → list_any (λ name. not (is_interface_named P name)) also ≡ false
    → AllByRecursion (λ name. IsTrue (is_interface_named P name)) also
all_interfaces P [] is = tt
all_interfaces P (x ∷ xs) is = by (is_interface_named P x) refl (λ e. all_interfaces P xs e) where
  by : (b : Bool) → is_interface_named P x ≡ b → (list_any (λ name. not (is_interface_named P name)) xs ≡ false
      → AllByRecursion (λ name. IsTrue (is_interface_named P name)) xs)
      → AllByRecursion (λ name. IsTrue (is_interface_named P name)) (x ∷ xs)
  by true e next = (e, next (rw e at is))
  by false e next = let no : true ≡ false = rw e at is in cc

pub concrete_there : (P : Program) (class : Name) → is_concrete (header_named P class) ≡ true → IsSome (class_named (headers_in P) class)
concrete_there P class is = by (class_named (headers_in P) class) refl where
  by : (o : Option Header) → class_named (headers_in P) class ≡ o → IsSome (class_named (headers_in P) class)
  by None e = let no : false ≡ true = rw e at is in cc
  by (Some header) e = rw e refl

pub not_true : (b : Bool) → not b ≡ true → b ≡ false
not_true true is = cc
not_true false is = refl

pub none_of : {A : Type 0} (o : Option A) → is_some o ≡ false → o ≡ None
none_of None is = refl
none_of (Some a) is = cc
