use Rattle.std.specs.Prelude.{◌≡◌, ◌≤◌, ◌+◌, refl, ℕ, zero, suc, List, [], ◌∷◌, ◌++◌, slice_set, slice_get, Some}
use Rattle.std.specs.List.{AllByRecursion}
use Rattle.std.proofs.Common.{arith}
use Rattle.class_model.specs.Laws.Lists.{AllByRecursion-weaker}
use Rattle.machine_values.specs.declared.object.Object.{Object}
use Rattle.machine_values.specs.declared.object.Shape.{Shape}
use Rattle.machine_values.specs.declared.value.Value.{Value}
use Rattle.machine_laws.specs.Growth.{KeepShapes}
use Rattle.machine_values.specs.Heaps.{Heap, with_value, allocated, entered, left, constant_made}
use Rattle.machine_values.specs.declared.object.Constant.{Constant}

-- each object is what it was, no monitor is entered more often than so many times more, nor is that of a new object
abbrev pub KeepObjects : ℕ → List Object → List Object → Type 0
KeepObjects k [] after = AllByRecursion (λ (o : Object). o.monitor ≤ k) after
KeepObjects k (one ∷ ones) [] = ⊥
KeepObjects k (one ∷ ones) (other ∷ others) = (other.shape ≡ one.shape) × (other.monitor ≤ one.monitor + k) × KeepObjects k ones others

pub keep_same : (k : ℕ) (os : List Object) → KeepObjects k os os
keep_same k [] = tt
keep_same k (o ∷ os) = (refl, omega arith, keep_same k os)

-- ---- one after the other

pub all_raised : (s k : ℕ) (a b : List Object) → AllByRecursion (λ (o : Object). o.monitor ≤ s) a → KeepObjects k a b → AllByRecursion (λ (o : Object). o.monitor ≤ s + k) b
all_raised s k [] b few keep = AllByRecursion-weaker (λ (o : Object). o.monitor ≤ k) (λ (o : Object). o.monitor ≤ s + k) (λ o le. omega (arith, le)) b keep
all_raised s k (x ∷ xs) [] few keep = absurd keep
all_raised s k (x ∷ xs) (y ∷ ys) few keep = (omega (arith, few.0, keep.1), all_raised s k xs ys few.1 keep.2)

pub keep_through : (j k : ℕ) (a b c : List Object) → KeepObjects j a b → KeepObjects k b c → KeepObjects (j + k) a c
keep_through j k [] b c p q = all_raised j k b c p q
keep_through j k (x ∷ xs) [] c p q = absurd p
keep_through j k (x ∷ xs) (y ∷ ys) [] p q = absurd q
keep_through j k (x ∷ xs) (y ∷ ys) (z ∷ zs) p q = (grind (arith, p.0, q.0), omega (arith, p.1, q.1), keep_through j k xs ys zs p.2 q.2)

pub keep_more : (j k : ℕ) (a b : List Object) → j ≤ k → KeepObjects j a b → KeepObjects k a b
keep_more j k [] b le p = AllByRecursion-weaker (λ (o : Object). o.monitor ≤ j) (λ (o : Object). o.monitor ≤ k) (λ o few. omega (arith, few, le)) b p
keep_more j k (x ∷ xs) [] le p = absurd p
keep_more j k (x ∷ xs) (y ∷ ys) le p = (p.0, omega (arith, p.1, le), keep_more j k xs ys le p.2)

pub keep_shapes : (k : ℕ) (a b : List Object) → KeepObjects k a b → KeepShapes a b
keep_shapes k [] b p = tt
keep_shapes k (x ∷ xs) [] p = absurd p
keep_shapes k (x ∷ xs) (y ∷ ys) p = (p.0, keep_shapes k xs ys p.2)

pub shapes_through : (a b c : List Object) → KeepShapes a b → KeepShapes b c → KeepShapes a c
shapes_through [] b c p q = tt
shapes_through (x ∷ xs) [] c p q = absurd p
shapes_through (x ∷ xs) (y ∷ ys) [] p q = absurd q
shapes_through (x ∷ xs) (y ∷ ys) (z ∷ zs) p q = (grind (arith, p.0, q.0), shapes_through xs ys zs p.1 q.1)

-- ---- what is made and written

pub keep_added : (k : ℕ) (os : List Object) (shape : Shape) (values : List Value) → KeepObjects k os (os ++ record { shape = shape; values = values; monitor = 0 } ∷ [])
keep_added k [] shape values = (omega arith, tt)
keep_added k (o ∷ os) shape values = (refl, omega arith, keep_added k os shape values)

-- what an object becomes
pub record Becomes (k : ℕ) (old new : Object) : Type 0 where
  pub shape : new.shape ≡ old.shape
  pub monitor : new.monitor ≤ old.monitor + k

pub keep_set : (k : ℕ) (os : List Object) (at : ℕ) (o : Object) → ((old : Object) → slice_get os at ≡ Some old → Becomes k old o) → KeepObjects k os (slice_set os at o)
keep_set k [] at o becomes = tt
keep_set k (p ∷ os) zero o becomes = let b = becomes p refl in (b.shape, b.monitor, keep_same k os)
keep_set k (p ∷ os) (suc at) o becomes = (refl, omega arith, keep_set k os at o becomes)

pub keep_allocated : (k : ℕ) (heap : Heap) (shape : Shape) (values : List Value) → KeepObjects k heap.objects (allocated heap shape values).heap.objects
keep_allocated k heap shape values = keep_added k heap.objects shape values

pub keep_value : (k : ℕ) (heap : Heap) (r at : ℕ) (v : Value) → KeepObjects k heap.objects (with_value heap r at v).objects
keep_value k heap r at v = grind (arith, keep_same, keep_set)

pub keep_entered : (heap : Heap) (r : ℕ) → KeepObjects 1 heap.objects (entered heap r).objects
keep_entered heap r = grind (arith, keep_same, keep_set)

pub keep_left : (k : ℕ) (heap : Heap) (r : ℕ) → KeepObjects k heap.objects (left heap r).objects
keep_left k heap r = grind (arith, keep_same, keep_set)

pub keep_constant : (k : ℕ) (heap : Heap) (c : Constant) → KeepObjects k heap.objects (constant_made heap c).heap.objects
keep_constant k heap c = grind (arith, keep_same, keep_added)
