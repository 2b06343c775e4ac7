use Rattle.std.specs.Prelude.{◌≤◌, ◌+◌, ◌*◌, refl, ℕ, List, [], ◌∷◌, ◌++◌}
use Rattle.std.proofs.Common.{arith, sym, ap, ◌∙◌, append_assoc}
use Rattle.std.proofs.lemmas.List.{append-nil}
use Rattle.std.proofs.lemmas.List.Elements.{All-from_recursion, recursion_from_All}
use Rattle.machine_values.specs.declared.object.Constant.{Constant}
use Rattle.machine_values.specs.declared.object.Object.{Object}
use Rattle.machine_values.specs.declared.object.Shape.{Shape}
use Rattle.machine_values.specs.declared.value.Value.{Value}
use Rattle.machine_laws.proofs.Grows.{KeepObjects, all_raised, keep_same, keep_through, keep_more, keep_shapes, keep_added, keep_value, keep_entered, keep_left, keep_constant}
use Rattle.machine_laws.specs.Growth.{IsPrefix, MemoryGrows}
use Rattle.member_link.specs.Machine.Bounds.{IsBounded, MOST_ALLOCATED}
use Rattle.machine_values.specs.Heaps.{Heap, allocated, with_value, left, constant_made}
use Rattle.member_link.specs.Machine.ObjectSteps.{with_entered}
use Rattle.member_link.specs.Machine.Worlds.{Memory, StaticValue, with_heap}

-- ---- lists that grow at their end

pub prefix_same : {A : Type 0} (xs : List A) → IsPrefix xs xs
prefix_same xs = record { more = []; all = sym (append-nil xs) }

pub prefix_added : {A : Type 0} (xs ys : List A) → IsPrefix xs (xs ++ ys)
prefix_added xs ys = record { more = ys; all = refl }

pub prefix_through : {A : Type 0} {a b c : List A} → IsPrefix a b → IsPrefix b c → IsPrefix a c
prefix_through p q = record { more = p.more ++ q.more; all = q.all ∙ (ap (λ xs. xs ++ q.more) p.all ∙ append_assoc _ p.more q.more) }

-- ---- what a part of a turn does to the memory: it enters at most so many monitors, and allocates, if a premise holds, no more than so
-- many steps may

pub record Rises (F : Type 0) (k : ℕ) (before after : Memory) : Type 0 where
  pub objects : KeepObjects k before.heap.objects after.heap.objects
  pub constants : IsPrefix before.heap.constants after.heap.constants
  pub begun : IsPrefix before.begun after.begun
  pub allocations : before.allocations ≤ after.allocations
  pub entries : before.entries ≤ after.entries
  pub few_allocations : F → after.allocations ≤ before.allocations + MOST_ALLOCATED * k
  pub few_entries : after.entries ≤ before.entries + k

pub rises_through : {F G H : Type 0} {j k : ℕ} {a b c : Memory} → (H → F) → (H → G) → Rises F j a b → Rises G k b c → Rises H (j + k) a c
rises_through {j = j} {k = k} one other p q = record {
  objects = keep_through j k _ _ _ p.objects q.objects;
  constants = prefix_through p.constants q.constants;
  begun = prefix_through p.begun q.begun;
  allocations = omega (arith, p.allocations, q.allocations);
  entries = omega (arith, p.entries, q.entries);
  few_allocations = λ f. omega (arith, p.few_allocations (one f), q.few_allocations (other f));
  few_entries = omega (arith, p.few_entries, q.few_entries);
}

pub rises_more : {F G : Type 0} {j : ℕ} (k : ℕ) {a b : Memory} → j ≤ k → (G → F) → Rises F j a b → Rises G k a b
rises_more {j = j} k le from p = record {
  objects = keep_more j k _ _ le p.objects;
  constants = p.constants;
  begun = p.begun;
  allocations = p.allocations;
  entries = p.entries;
  few_allocations = λ f. omega (arith, le, p.few_allocations (from f));
  few_entries = omega (arith, le, p.few_entries);
}

pub rises_grows : {F : Type 0} {k : ℕ} {a b : Memory} → Rises F k a b → MemoryGrows a b
rises_grows {k = k} p = record {
  objects = keep_shapes k _ _ p.objects;
  constants = p.constants;
  begun = p.begun;
  allocations = p.allocations;
  entries = p.entries;
}

-- the bound rises by as many steps
pub rises_bounded : {F : Type 0} {k : ℕ} {a b : Memory} (s : ℕ) → F → Rises F k a b → IsBounded a s → IsBounded b (s + k)
rises_bounded {k = k} s f p is = record {
  monitors = All-from_recursion (λ (o : Object). o.monitor ≤ s + k) _ (all_raised s k _ _ (recursion_from_All (λ (o : Object). o.monitor ≤ s) _ is.monitors) p.objects);
  allocations = omega (arith, is.allocations, p.few_allocations f);
  entries = omega (arith, is.entries, p.few_entries);
}

-- what rises under no premise does so under any
pub rises_if : {F : Type 0} {k : ℕ} {a b : Memory} → Rises (Unit {0}) k a b → Rises F k a b
rises_if {k = k} p = rises_more k (omega arith) (λ f. tt) p

-- ---- single changes

pub memory_same : (k : ℕ) (m : Memory) → Rises (Unit {0}) k m m
memory_same k m = record {
  objects = keep_same k _;
  constants = prefix_same _;
  begun = prefix_same _;
  allocations = omega arith;
  entries = omega arith;
  few_allocations = λ f. omega arith;
  few_entries = omega arith;
}

-- another heap alone
pub heap_rises : (k : ℕ) (m : Memory) (h : Heap) → KeepObjects k m.heap.objects h.objects → IsPrefix m.heap.constants h.constants → Rises (Unit {0}) k m (with_heap m h)
heap_rises k m h objects constants = record {
  objects = objects;
  constants = constants;
  begun = prefix_same _;
  allocations = omega arith;
  entries = omega arith;
  few_allocations = λ f. omega arith;
  few_entries = omega arith;
}

pub made_rises : (k : ℕ) (m : Memory) (s : Shape) (vs : List Value) → Rises (Unit {0}) k m (with_heap m (allocated m.heap s vs).heap)
made_rises k m s vs = heap_rises k m _ (keep_added k m.heap.objects s vs) (prefix_same _)

-- so many arrays, or an object, are made
pub counted_rises : {F : Type 0} (m : Memory) (h : Heap) (n : ℕ) → KeepObjects 1 m.heap.objects h.objects → IsPrefix m.heap.constants h.constants → (F → n ≤ MOST_ALLOCATED)
    → Rises F 1 m (record m { heap = h; allocations = m.allocations + n })
counted_rises m h n objects constants few = record {
  objects = objects;
  constants = constants;
  begun = prefix_same _;
  allocations = omega arith;
  entries = omega arith;
  few_allocations = λ f. omega (arith, few f);
  few_entries = omega arith;
}

pub one_rises : (m : Memory) (s : Shape) (vs : List Value) → Rises (Unit {0}) 1 m (record m { heap = (allocated m.heap s vs).heap; allocations = m.allocations + 1 })
one_rises m s vs = counted_rises m _ 1 (keep_added 1 m.heap.objects s vs) (prefix_same _) (λ f. omega arith)

pub value_constants : (h : Heap) (r at : ℕ) (v : Value) → IsPrefix h.constants (with_value h r at v).constants
value_constants h r at v = grind (arith, prefix_same)

pub value_rises : (k : ℕ) (m : Memory) (r at : ℕ) (v : Value) → Rises (Unit {0}) k m (with_heap m (with_value m.heap r at v))
value_rises k m r at v = heap_rises k m _ (keep_value k m.heap r at v) (value_constants m.heap r at v)

pub left_constants : (h : Heap) (r : ℕ) → IsPrefix h.constants (left h r).constants
left_constants h r = grind (arith, prefix_same)

pub left_rises : (k : ℕ) (m : Memory) (r : ℕ) → Rises (Unit {0}) k m (with_heap m (left m.heap r))
left_rises k m r = heap_rises k m _ (keep_left k m.heap r) (left_constants m.heap r)

pub entered_constants : (m : Memory) (r : ℕ) → IsPrefix m.heap.constants (with_entered m r).heap.constants
entered_constants m r = grind (arith, prefix_same)

pub entered_rises : (m : Memory) (r : ℕ) → Rises (Unit {0}) 1 m (with_entered m r)
entered_rises m r = record {
  objects = keep_entered m.heap r;
  constants = entered_constants m r;
  begun = prefix_same _;
  allocations = omega arith;
  entries = omega arith;
  few_allocations = λ f. omega arith;
  few_entries = omega arith;
}

pub made_constants : (h : Heap) (c : Constant) → IsPrefix h.constants (constant_made h c).heap.constants
made_constants h c = grind (arith, prefix_same, prefix_added)

pub constant_rises : (k : ℕ) (m : Memory) (c : Constant) → Rises (Unit {0}) k m (with_heap m (constant_made m.heap c).heap)
constant_rises k m c = heap_rises k m _ (keep_constant k m.heap c) (made_constants m.heap c)

pub statics_rise : (k : ℕ) (m : Memory) (statics : List StaticValue) → Rises (Unit {0}) k m (record m { statics = statics })
statics_rise k m statics = record {
  objects = keep_same k _;
  constants = prefix_same _;
  begun = prefix_same _;
  allocations = omega arith;
  entries = omega arith;
  few_allocations = λ f. omega arith;
  few_entries = omega arith;
}

pub begun_rises : (m : Memory) (c : ℕ) → Rises (Unit {0}) 0 m (record m { begun = m.begun ++ c ∷ [] })
begun_rises m c = record {
  objects = keep_same 0 _;
  constants = prefix_same _;
  begun = prefix_added _ _;
  allocations = omega arith;
  entries = omega arith;
  few_allocations = λ f. omega arith;
  few_entries = omega arith;
}
