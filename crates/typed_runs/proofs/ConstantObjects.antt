use Rattle.std.specs.Prelude.{◌≡◌, refl, ℕ, Bool, true, false, List, [], ◌∷◌, ◌++◌, length, Option, Some, None}
use Rattle.std.specs.List.{AllByRecursion}
use Rattle.std.proofs.Common.{subst}
use Rattle.machine_values.specs.Heaps.{Heap, Kept, Made, external, constant_made, kept_in, same_constant, class_of_constant}
use Rattle.machine_values.specs.declared.object.Constant.{Constant}
use Rattle.machine_values.specs.declared.object.Constant.TheVariants as constants
use Rattle.machine_values.specs.declared.object.Shape.TheVariants as shapes
use Rattle.member_link.specs.Machine.Programs.{Program}
use Rattle.member_link.specs.Machine.Worlds.{Memory, with_heap}
use Rattle.typed_runs.proofs.Basics.{some_of}
use Rattle.typed_runs.proofs.Kept.{Keeps, keeps_same, keeps_through, holds_kept, constants_kept, shape_kept}
use Rattle.typed_runs.proofs.Memories.{made_keeps, made_shape, made_typed, statics_kept}
use Rattle.typed_runs.specs.Conforming.{HasShape, IsConstantObject, IsTypedMemory}
use Rattle.typed_runs.specs.TypedPoints.{IsOfLibrary}

pub same_class : (a b : Constant) → same_constant a b ≡ true → class_of_constant a ≡ class_of_constant b
same_class (constants.Str a) (constants.Str b) is = refl
same_class (constants.Class a) (constants.Class b) is = refl
same_class (constants.MethodType a) (constants.MethodType b) is = refl
same_class (constants.Handle a b c d) (constants.Handle e f g h) is = refl
same_class a b is = cc

pub kept_object : (h : Heap) (ks : List Kept) (c : Constant) (r : ℕ) → AllByRecursion (IsConstantObject h) ks → kept_in ks c ≡ Some r → HasShape h r (shapes.External (class_of_constant c) [])
kept_object h [] c r all is = cc
kept_object h (k ∷ ks) c r all is = by (same_constant k.constant c) refl (λ e. kept_object h ks c r all.1 e) where
  by : (b : Bool) → same_constant k.constant c ≡ b → (kept_in ks c ≡ Some r → HasShape h r (shapes.External (class_of_constant c) [])) → HasShape h r (shapes.External (class_of_constant c) [])
  by true e next =
      let same : k.reference ≡ r = some_of (rw e at is) in
      subst (λ n. HasShape h n (shapes.External (class_of_constant c) [])) same (subst (λ x. HasShape h k.reference (shapes.External x [])) (same_class k.constant c e) all.0)
  by false e next = next (rw e at is)

-- what a constant's object leaves
pub record ConstantTyped (P : Program) (m : Memory) (c : Constant) (made : Made) : Type 0 where
  pub keep : Keeps m.heap made.heap
  pub typed : IsTypedMemory P (with_heap m made.heap)
  pub shape : HasShape made.heap made.reference (shapes.External (class_of_constant c) [])

pub one_more_kept : (Q : Kept → Type 0) (ks : List Kept) (k : Kept) → AllByRecursion Q ks → Q k → AllByRecursion Q (ks ++ k ∷ [])
one_more_kept Q [] k all is = (is, tt)
one_more_kept Q (x ∷ ks) k all is = (all.0, one_more_kept Q ks k all.1 is)

-- a heap with one more object and one more constant
abbrev pub with_constant : Heap → Constant → Heap
with_constant h c = record {
  objects = h.objects ++ record { shape = shapes.External (class_of_constant c) []; values = []; monitor = 0 } ∷ [];
  constants = h.constants ++ record { constant = c; reference = length h.objects } ∷ [];
}

pub new_constant : (P : Program) (m : Memory) (c : Constant) → IsTypedMemory P m → IsOfLibrary P (class_of_constant c)
    → ConstantTyped P m c (record { heap = with_constant m.heap c; reference = length m.heap.objects })
new_constant P m c typed is =
    let made = external m.heap (class_of_constant c) in
    let keep : Keeps m.heap made.heap = made_keeps m.heap (shapes.External (class_of_constant c) []) [] in
    let memory : IsTypedMemory P (with_heap m made.heap) =
    made_typed P m (shapes.External (class_of_constant c) []) [] typed (record { is_there = is.is_there; of_library = is.outside; interfaces = tt }) in
    let shape : HasShape made.heap made.reference (shapes.External (class_of_constant c) []) = made_shape m.heap (shapes.External (class_of_constant c) []) [] in
    let same : Keeps made.heap (with_constant m.heap c) = record { keeps = λ r o there. record { object = o; is_there = there; same = refl } } in
    let now : HasShape (with_constant m.heap c) made.reference (shapes.External (class_of_constant c) []) = shape_kept same shape in
    record {
      keep = keeps_through keep same;
      typed = record {
        objects = λ r o there. holds_kept P same o.shape o.values (memory.objects r o there);
        constants = one_more_kept (IsConstantObject (with_constant m.heap c)) m.heap.constants (record { constant = c; reference = length m.heap.objects })
            (constants_kept (keeps_through keep same) m.heap.constants typed.constants) now;
        statics = statics_kept P (keeps_through keep same) m.statics typed.statics;
      };
      shape = now;
    }

pub constant_typed : (P : Program) (m : Memory) (c : Constant) → IsTypedMemory P m → IsOfLibrary P (class_of_constant c) → ConstantTyped P m c (constant_made m.heap c)
constant_typed P m c typed is = by (kept_in m.heap.constants c) refl where
  by : (r : Option ℕ) → kept_in m.heap.constants c ≡ r → ConstantTyped P m c (constant_made m.heap c)
  by (Some r) e = rw e (record { keep = keeps_same m.heap; typed = typed; shape = kept_object m.heap m.heap.constants c r typed.constants e })
  by None e = rw e (new_constant P m c typed is)
