-- A value that is put where an object has none changes nothing.
use Rattle.std.proofs.Common.{◌≡◌, ◌↔◌, ℕ, zero, suc, List, [], ◌∷◌, slice_get, slice_set, Option, Some, None, refl, ap, sym, ◌∙◌}
use Rattle.std.specs.Prelude.{IsSome}
use Rattle.machine_heap.specs.Objects.{value_at}
use Rattle.machine_heap.specs.declared.heap.Put.{Put}
use Rattle.machine_heap.specs.declared.heap.Put.TheVariants.{Done, Outside}
use Rattle.machine_values.specs.declared.object.Object.{Object}
use Rattle.machine_values.specs.declared.value.Value.{Value}
use Rattle.machine_values.specs.Heaps.{Heap, with_value}
use Rattle.member_link.specs.Machine.Worlds.{Memory, with_heap}

set-outside : (values : List Value) (at : ℕ) (value : Value) → slice_get values at ≡ None → slice_set values at value ≡ values
set-outside [] at value none = refl
set-outside (first ∷ values) zero value none = absurd cc
set-outside (first ∷ values) (suc at) value none = ap (λ (rest : List Value). first ∷ rest) (set-outside values at value none)

set-same : (objects : List Object) (at : ℕ) (object : Object) → slice_get objects at ≡ Some object → slice_set objects at object ≡ objects
set-same [] at object is = refl
set-same (first ∷ objects) zero object is = cc
set-same (first ∷ objects) (suc at) object is = ap (λ (rest : List Object). first ∷ rest) (set-same objects at object is)

put-outside : (heap : Heap) (at index : ℕ) (value : Value) → (IsSome (value_at heap at index) → ⊥) → with_value heap at index value ≡ heap
put-outside heap at index value none = by (slice_get heap.objects at) refl
  where
    absent : (object : Object) → slice_get heap.objects at ≡ Some object → (there : Option Value) → slice_get object.values index ≡ there → slice_get object.values index ≡ None
    absent object is None e = e
    absent object is (Some found) e = absurd (none (rw is (rw e refl)))

    by : (there : Option Object) → slice_get heap.objects at ≡ there → with_value heap at index value ≡ heap
    by None is = rw is refl
    by (Some object) is =
        let same = set-outside object.values index value (absent object is (slice_get object.values index) refl) in
        rw is (ap (λ (objects : List Object). record heap { objects = objects }) (ap (λ (values : List Value). slice_set heap.objects at (record object { values = values })) same ∙ set-same heap.objects at object is))

-- it is put, or there is no place for it
pub written : (answer : Put) (before after : Memory) (at index : ℕ) (value : Value)
    → (answer ≡ Done) ↔ IsSome (value_at before.heap at index)
    → (answer ≡ Done → after ≡ with_heap before (with_value before.heap at index value))
    → (answer ≡ Outside → after ≡ before)
    → after ≡ with_heap before (with_value before.heap at index value)
written Done before after at index value there done outside = done refl
written Outside before after at index value there done outside =
    outside refl ∙ ap (with_heap before) (sym (put-outside before.heap at index value (λ some. let other : Outside ≡ Done = there.1 some in absurd cc)))
