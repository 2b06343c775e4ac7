-- Values that are written where there is no such value.
use Rattle.std.proofs.Common.{◌≡◌, ◌↔◌, ℕ, ℤ, zero, suc, Bool, true, false, List, [], ◌∷◌, if◌then◌else◌, Option, Some, None, IsSome, option_and_then, slice_get, slice_set, refl, sym, ap, ◌∙◌}
use Rattle.machine_heap.specs.Objects.{value_at}
use Rattle.machine_heap.specs.declared.heap.Put.{Put}
use Rattle.machine_heap.specs.declared.heap.Put.TheVariants.{Done, Outside}
use Rattle.machine_values.specs.Heaps.{Heap, object_at, with_object, with_value}
use Rattle.machine_values.specs.declared.object.Object.{Object}
use Rattle.machine_values.specs.declared.value.Value.{Value}
use Rattle.class_model.specs.declared.descriptor.FieldType.{FieldType}
use Rattle.machine_values.specs.Values.{narrowed}
use Rattle.member_link.specs.Machine.Acting.{act_array_set, fault, known_object, set_at, set_of_shape}
use Rattle.member_link.specs.Machine.Programs.{Program}
use Rattle.member_link.specs.Machine.Shapes.{value_conforms}
use Rattle.member_link.specs.Machine.Worlds.{Memory, World, with_heap}
use Rattle.machine_run.specs.Inner.ArrayWords.{narrowed_value}

module _ {X : Type 0} where
  set_outside : (xs : List X) (n : ℕ) (x : X) → (IsSome (slice_get xs n) → ⊥) → slice_set xs n x ≡ xs
  set_outside [] n x none = refl
  set_outside (y ∷ xs) zero x none = absurd (none refl)
  set_outside (y ∷ xs) (suc n) x none = ap (λ (ys : List X). y ∷ ys) (set_outside xs n x none)

  set_same : (xs : List X) (n : ℕ) (x : X) → slice_get xs n ≡ Some x → slice_set xs n x ≡ xs
  set_same [] n x is = refl
  set_same (y ∷ xs) zero x is = (let same : y ≡ x = cc in ap (λ (z : X). z ∷ xs) (sym same))
  set_same (y ∷ xs) (suc n) x is = ap (λ (ys : List X). y ∷ ys) (set_same xs n x is)

unchanged : (heap : Heap) (r n : ℕ) (value : Value) → (IsSome (value_at heap r n) → ⊥) → with_value heap r n value ≡ heap
unchanged heap r n value none = by (object_at heap r) refl none
  where
    by : (found : Option Object) → object_at heap r ≡ found
        → (IsSome (option_and_then (λ (object : Object). slice_get object.values n) found) → ⊥)
        → with_value heap r n value ≡ heap
    by None e none = rw e refl
    by (Some object) e none =
        let same : with_object heap r (record object { values = slice_set object.values n value }) ≡ heap =
        ap (λ (values : List Value). with_object heap r (record object { values = values })) (set_outside object.values n value none)
        ∙ ap (λ (objects : List Object). record heap { objects = objects }) (set_same heap.objects r object e)
        in
        rw e same

pub put_written : (m new : Memory) (r n : ℕ) (value : Value) (put : Put)
    → (put ≡ Done ↔ IsSome (value_at m.heap r n))
    → (put ≡ Done → new ≡ with_heap m (with_value m.heap r n value))
    → (put ≡ Outside → new ≡ m)
    → new ≡ with_heap m (with_value m.heap r n value)
put_written m new r n value Done answer done outside = done refl
put_written m new r n value Outside answer done outside =
    outside refl
    ∙ sym (ap (with_heap m) (unchanged m.heap r n value (λ some. (let is : Outside ≡ Done = answer.1 some in absurd cc))))

-- ---- what the library writes

module _ (P : Program) (w : World) (r : ℕ) where
  abbrev putting : ℕ → Value → World
  putting n value = record w { memory = with_heap w.memory (with_value w.memory.heap r n value) }

  by_test : (kept : Value) (n : ℕ) (value : Value) (b : Bool)
      → Some value ≡ (if b then Some kept else None)
      → (if b then putting n kept else fault w) ≡ putting n value
  by_test kept n value true is = (let same : kept ≡ value = cc in ap (putting n) same)
  by_test kept n value false is = absurd cc

  pub set_narrowed : (type : FieldType) (given value : Value) (n : ℕ)
      → Some value ≡ narrowed_value P w.memory.heap type given
      → set_at P w r type given (Some n) ≡ record w { memory = with_heap w.memory (with_value w.memory.heap r n value) }
  set_narrowed type given value n is = by_test (narrowed type given) n value (value_conforms P w.memory.heap type given) is

  pub put_found : (known : Option ℕ) (object : Object) (given : Option Value) (value : Value) (index : ℤ)
      → known ≡ Some r
      → object_at w.memory.heap r ≡ Some object
      → given ≡ Some value
      → act_array_set P w known (known_object w known) index given ≡ set_of_shape P w r index value object.shape
  put_found known object given value index known_is object_is given_is =
      ap (λ (k : Option ℕ). act_array_set P w k (known_object w k) index given) known_is
      ∙ ap (λ (found : Option Object). act_array_set P w (Some r) found index given) object_is
      ∙ ap (act_array_set P w (Some r) (Some object) index) given_is
