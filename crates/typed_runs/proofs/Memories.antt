use Rattle.std.specs.Prelude.{◌≡◌, ◌⊎◌, ◌-◌, refl, ℕ, zero, suc, List, [], ◌∷◌, ◌++◌, length, slice_get, slice_set, Option, Some, None}
use Rattle.std.specs.List.{AllByRecursion}
use Rattle.std.proofs.Common.{inl, inr, ap, sym, ◌∙◌, subst}
use Rattle.class_model.specs.Laws.Lists.{AllByRecursion-weaker}
use Rattle.class_model.specs.Descriptors.{type_of}
use Rattle.machine_values.specs.Heaps.{Heap, object_at, with_object, allocated, with_monitor, monitor_count}
use Rattle.machine_values.specs.declared.object.Object.{Object}
use Rattle.machine_values.specs.declared.object.Shape.{Shape}
use Rattle.machine_values.specs.declared.value.Value.{Value}
use Rattle.member_link.specs.Machine.Performing.{unlocked}
use Rattle.member_link.specs.Machine.Programs.{Program}
use Rattle.member_link.specs.Machine.Worlds.{Memory, StaticValue, field_desc, with_heap}
use Rattle.typed_runs.proofs.Basics.{some_of}
use Rattle.typed_runs.proofs.Kept.{Keeps, keeps_same, holds_kept, constants_kept, field_kept}
use Rattle.typed_runs.specs.Conforming.{HasShape, HoldsShape, IsConstantObject, IsTypedStatic, IsTypedMemory}

-- ---- a list with one more, and with one changed

pub append_get : {A : Type 0} (xs : List A) (y x : A) (n : ℕ) → slice_get xs n ≡ Some x → slice_get (xs ++ y ∷ []) n ≡ Some x
append_get [] y x n is = cc
append_get (z ∷ xs) y x zero is = is
append_get (z ∷ xs) y x (suc n) is = append_get xs y x n is

pub append_new : {A : Type 0} (xs : List A) (y : A) → slice_get (xs ++ y ∷ []) (length xs) ≡ Some y
append_new [] y = refl
append_new (z ∷ xs) y = append_new xs y

pub append_cases : {A : Type 0} (xs : List A) (y x : A) (n : ℕ) → slice_get (xs ++ y ∷ []) n ≡ Some x → (slice_get xs n ≡ Some x) ⊎ (y ≡ x)
append_cases [] y x zero is = inr (some_of is)
append_cases [] y x (suc n) is = cc
append_cases (z ∷ xs) y x zero is = inl is
append_cases (z ∷ xs) y x (suc n) is = append_cases xs y x n is

pub set_cases : {A : Type 0} (xs : List A) (at : ℕ) (y x : A) (n : ℕ) → slice_get (slice_set xs at y) n ≡ Some x → (slice_get xs n ≡ Some x) ⊎ (y ≡ x)
set_cases [] at y x n is = inl is
set_cases (z ∷ xs) zero y x zero is = inr (some_of is)
set_cases (z ∷ xs) zero y x (suc n) is = inl is
set_cases (z ∷ xs) (suc at) y x zero is = inl is
set_cases (z ∷ xs) (suc at) y x (suc n) is = set_cases xs at y x n is

pub set_kept : {A : Type 0} (xs : List A) (at : ℕ) (y old x : A) (n : ℕ) → slice_get xs at ≡ Some old → slice_get xs n ≡ Some x
    → (slice_get (slice_set xs at y) n ≡ Some x) ⊎ ((slice_get (slice_set xs at y) n ≡ Some y) × (old ≡ x))
set_kept [] at y old x n was is = inl is
set_kept (z ∷ xs) zero y old x zero was is = inr (refl, some_of (sym was ∙ is))
set_kept (z ∷ xs) zero y old x (suc n) was is = inl is
set_kept (z ∷ xs) (suc at) y old x zero was is = inl is
set_kept (z ∷ xs) (suc at) y old x (suc n) was is = set_kept xs at y old x n was is

-- ---- another heap

pub statics_kept : (P : Program) {h k : Heap} → Keeps h k → (ss : List StaticValue) → AllByRecursion (IsTypedStatic P h) ss → AllByRecursion (IsTypedStatic P k) ss
statics_kept P {h = h} {k = k} keep ss all =
    AllByRecursion-weaker (IsTypedStatic P h) (IsTypedStatic P k) (λ (s : StaticValue) is. field_kept P keep (type_of (field_desc P s.class s.field)) s.value is) ss all

-- a memory with a heap that keeps its objects and has the same constants
pub heap_typed : (P : Program) (m : Memory) (h : Heap) → IsTypedMemory P m → Keeps m.heap h → h.constants ≡ m.heap.constants
    → ((r : ℕ) (o : Object) → object_at h r ≡ Some o → HoldsShape P h o.shape o.values) → IsTypedMemory P (with_heap m h)
heap_typed P m h typed keep same objects = record {
  objects = objects;
  constants = subst (AllByRecursion (IsConstantObject h)) (sym same) (constants_kept keep m.heap.constants typed.constants);
  statics = statics_kept P keep m.statics typed.statics;
}

-- ---- a new object

pub made_keeps : (h : Heap) (s : Shape) (vs : List Value) → Keeps h (allocated h s vs).heap
made_keeps h s vs = record { keeps = λ r o is. record { object = o; is_there = append_get h.objects (record { shape = s; values = vs; monitor = 0 }) o r is; same = refl } }

pub made_shape : (h : Heap) (s : Shape) (vs : List Value) → HasShape (allocated h s vs).heap (allocated h s vs).reference s
made_shape h s vs = record { object = record { shape = s; values = vs; monitor = 0 }; is_there = append_new h.objects _; same = refl }

pub made_typed : (P : Program) (m : Memory) (s : Shape) (vs : List Value) → IsTypedMemory P m → HoldsShape P (allocated m.heap s vs).heap s vs → IsTypedMemory P (with_heap m (allocated m.heap s vs).heap)
made_typed P m s vs typed holds = heap_typed P m (allocated m.heap s vs).heap typed (made_keeps m.heap s vs) refl objects where
  of_case : (r : ℕ) (o : Object) → (object_at m.heap r ≡ Some o) ⊎ (record { shape = s; values = vs; monitor = 0 } ≡ o) → HoldsShape P (allocated m.heap s vs).heap o.shape o.values
  of_case r o (inl is) = holds_kept P (made_keeps m.heap s vs) o.shape o.values (typed.objects r o is)
  of_case r o (inr e) = subst (λ (x : Object). HoldsShape P (allocated m.heap s vs).heap x.shape x.values) e holds

  objects : (r : ℕ) (o : Object) → object_at (allocated m.heap s vs).heap r ≡ Some o → HoldsShape P (allocated m.heap s vs).heap o.shape o.values
  objects r o is = of_case r o (append_cases m.heap.objects (record { shape = s; values = vs; monitor = 0 }) o r is)

-- ---- a changed object

pub object_keeps : (h : Heap) (at : ℕ) (old new : Object) → object_at h at ≡ Some old → new.shape ≡ old.shape → Keeps h (with_object h at new)
object_keeps h at old new was same = record { keeps = λ r o is. by r o (set_kept h.objects at new old o r was is) } where
  by : (r : ℕ) (o : Object) → (slice_get (slice_set h.objects at new) r ≡ Some o) ⊎ ((slice_get (slice_set h.objects at new) r ≡ Some new) × (old ≡ o)) → HasShape (with_object h at new) r o.shape
  by r o (inl is) = record { object = o; is_there = is; same = refl }
  by r o (inr e) = record { object = new; is_there = e.0; same = same ∙ ap (λ (x : Object). x.shape) e.1 }

pub object_typed : (P : Program) (m : Memory) (at : ℕ) (old new : Object) → IsTypedMemory P m → object_at m.heap at ≡ Some old → new.shape ≡ old.shape
    → HoldsShape P (with_object m.heap at new) new.shape new.values → IsTypedMemory P (with_heap m (with_object m.heap at new))
object_typed P m at old new typed was same holds = heap_typed P m (with_object m.heap at new) typed (object_keeps m.heap at old new was same) refl objects where
  of_case : (r : ℕ) (o : Object) → (object_at m.heap r ≡ Some o) ⊎ (new ≡ o) → HoldsShape P (with_object m.heap at new) o.shape o.values
  of_case r o (inl is) = holds_kept P (object_keeps m.heap at old new was same) o.shape o.values (typed.objects r o is)
  of_case r o (inr e) = subst (λ (x : Object). HoldsShape P (with_object m.heap at new) x.shape x.values) e holds

  objects : (r : ℕ) (o : Object) → object_at (with_object m.heap at new) r ≡ Some o → HoldsShape P (with_object m.heap at new) o.shape o.values
  objects r o is = of_case r o (set_cases m.heap.objects at new o r is)

-- ---- monitors

pub record MonitorTyped (P : Program) (m : Memory) (h : Heap) : Type 0 where
  pub keep : Keeps m.heap h
  pub typed : IsTypedMemory P (with_heap m h)

pub monitor_typed : (P : Program) (m : Memory) (r count : ℕ) → IsTypedMemory P m → MonitorTyped P m (with_monitor m.heap r count)
monitor_typed P m r count typed = by (object_at m.heap r) refl where
  by : (o : Option Object) → object_at m.heap r ≡ o → MonitorTyped P m (with_monitor m.heap r count)
  by None none = rw none (record { keep = keeps_same m.heap; typed = typed })
  by (Some o) some = rw some (record {
    keep = object_keeps m.heap r o (record o { monitor = count }) some refl;
    typed = object_typed P m r o (record o { monitor = count }) typed some refl (holds_kept P (object_keeps m.heap r o (record o { monitor = count }) some refl) o.shape o.values (typed.objects r o some));
  })

pub unlocked_typed : (P : Program) (m : Memory) (held : Option ℕ) → IsTypedMemory P m → (Keeps m.heap (unlocked m held).heap) × IsTypedMemory P (unlocked m held)
unlocked_typed P m None typed = (keeps_same m.heap, typed)
unlocked_typed P m (Some r) typed = let l = monitor_typed P m r (monitor_count m.heap r - 1) typed in (l.keep, l.typed)
