-- How monitor counts change with the heap.
use Rattle.std.proofs.Common.{◌≡◌, ◌⊎◌, inl, inr, ℕ, zero, suc, ◌-◌, ◌<◌, Bool, true, false, cond, nat_eq, List, [], ◌∷◌, slice_get, slice_set, Option, Some, None, refl, ap, ◌∙◌, arith, ne_eqb}
use Rattle.std.specs.List.{list_any}
use Rattle.machine_values.specs.declared.object.Object.{Object}
use Rattle.machine_values.specs.Heaps.{Heap, left, monitor_count, with_monitor}
use Rattle.machine_step.specs.Inner.Monitors.{AreHeld}

abbrev count_of : Option Object → ℕ
count_of None = 0
count_of (Some object) = object.monitor

changed : (objects : List Object) (at : ℕ) (new : Object) (reference : ℕ)
    → (count_of (slice_get (slice_set objects at new) reference) ≡ count_of (slice_get objects reference))
    ⊎ ((reference ≡ at) × (count_of (slice_get (slice_set objects at new) reference) ≡ new.monitor))
changed [] at new reference = inl refl
changed (first ∷ objects) zero new zero = inr (refl, refl)
changed (first ∷ objects) zero new (suc reference) = inl refl
changed (first ∷ objects) (suc at) new zero = inl refl
changed (first ∷ objects) (suc at) new (suc reference) = elim (changed objects at new reference) [ inl same ↦ inl same | inr here ↦ inr (ap suc here.0, here.1) ]

-- where a monitor count is set, the others stay
pub monitor-cases : (heap : Heap) (at count reference : ℕ)
    → (monitor_count (with_monitor heap at count) reference ≡ monitor_count heap reference)
    ⊎ ((reference ≡ at) × (monitor_count (with_monitor heap at count) reference ≡ count))
monitor-cases heap at count reference = by (slice_get heap.objects at) refl
  where
    by : (there : Option Object) → slice_get heap.objects at ≡ there
        → (monitor_count (with_monitor heap at count) reference ≡ monitor_count heap reference)
        ⊎ ((reference ≡ at) × (monitor_count (with_monitor heap at count) reference ≡ count))
    by None is = inl (rw is refl)
    by (Some object) is = rw is (changed heap.objects at (record object { monitor = count }) reference)

-- a monitor that is entered after one is left was so before
pub left-before : (heap : Heap) (at reference : ℕ) → 0 < monitor_count (left heap at) reference → 0 < monitor_count heap reference
left-before heap at reference some = elim (monitor-cases heap at (monitor_count heap at - 1) reference) [
  | inl same ↦ omega arith
  | inr here ↦ let e = ap (λ (r : ℕ). monitor_count heap r) here.0 in omega arith
]

-- what is left stays held
pub left-held : (heap : Heap) (at : ℕ) (numbers : List ℕ) → AreHeld heap numbers → AreHeld (left heap at) numbers
left-held heap at numbers before = record { held = λ reference some. before.held reference (left-before heap at reference some) }

-- a reference whose monitor is not entered can be taken away
pub taken-held : (heap : Heap) (at : ℕ) (old new : List ℕ) → AreHeld heap old → monitor_count heap at ≡ 0
    → ((q : ℕ) → list_any (nat_eq q) new ≡ cond (nat_eq at q) false (list_any (nat_eq q) old)) → AreHeld heap new
taken-held heap at old new before none updates = record { held = by }
  where
    by : (reference : ℕ) → 0 < monitor_count heap reference → list_any (nat_eq reference) new ≡ true
    by reference some =
        let apart : nat_eq at reference ≡ false = ne_eqb at reference (λ e. let same = ap (λ (r : ℕ). monitor_count heap r) e in omega arith) in
        updates reference ∙ ap (λ (b : Bool). cond b false (list_any (nat_eq reference) old)) apart ∙ before.held reference some
