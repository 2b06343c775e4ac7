-- Handlers look at no more of an object than its shape, which no monitor changes.
use Rattle.std.proofs.Common.{◌≡◌, ◌-◌, ◌↔◌, ℕ, zero, suc, Bool, true, false, List, [], ◌∷◌, slice_get, slice_set, Option, Some, None, if◌then◌else◌, refl, ap, sym, ◌∙◌, arith}
use Rattle.class_tree.specs.Headers.{Name}
use Rattle.machine_heap.specs.Laws.Heaps.{shapes_where_counted}
use Rattle.machine_values.specs.Heaps.{Heap, left, monitor_count, object_at}
use Rattle.machine_values.specs.declared.object.Object.{Object}
use Rattle.machine_values.specs.declared.object.Shape.{Shape}
use Rattle.member_link.specs.Machine.Performing.{handler_at, handler_for, unlocked}
use Rattle.member_link.specs.Machine.Programs.{Catch, Point, Program}
use Rattle.member_link.specs.Machine.Worlds.{Memory, with_heap}
use Rattle.machine_run.specs.Inner.ThrowTargets.{catches, first_handler, handler_around, shape_at}

-- ---- handlers

shape_of : Option Object → Option Shape
shape_of None = None
shape_of (Some object) = Some object.shape

first_is :
    (P : Program) (heap : Heap) (reference to : ℕ) (class : Option Name) (others : List Catch) (found : Option Object)
    → object_at heap reference ≡ found
    → handler_for P heap (record { to = to; class = class } ∷ others) reference
    ≡ (if catches P class (shape_at heap reference) then Some to else handler_for P heap others reference)
first_is P heap reference to None others found is = refl
first_is P heap reference to (Some name) others None is = rw is refl
first_is P heap reference to (Some name) others (Some object) is = rw is refl

handler_for_is :
    (P : Program) (heap : Heap) (handlers : List Catch) (reference : ℕ)
    → handler_for P heap handlers reference ≡ first_handler P (shape_at heap reference) handlers
handler_for_is P heap [] reference = refl
handler_for_is P heap (first ∷ others) reference =
    first_is P heap reference first.to first.class others (object_at heap reference) refl
    ∙ ap (λ (other : Option ℕ). if catches P first.class (shape_at heap reference) then Some first.to else other)
    (handler_for_is P heap others reference)

pub handler_at_is :
    (P : Program) (heap : Heap) (point : Option Point) (reference : ℕ)
    → handler_at P heap point reference ≡ handler_around P (shape_at heap reference) point
handler_at_is P heap None reference = refl
handler_at_is P heap (Some point) reference = handler_for_is P heap point.catches reference

-- ---- monitors

pub shape_unlocked :
    (memory : Memory) (held : Option ℕ) (reference : ℕ)
    → shape_at (unlocked memory held).heap reference ≡ shape_at memory.heap reference
shape_unlocked memory None reference = refl
shape_unlocked memory (Some at) reference =
    shapes_where_counted memory.heap at (monitor_count memory.heap at - 1) reference

set_same : (objects : List Object) (at : ℕ) (object : Object) → slice_get objects at ≡ Some object → slice_set objects at object ≡ objects
set_same [] at object there = refl
set_same (first ∷ objects) zero object there = let same : first ≡ object = cc in ap (λ (o : Object). o ∷ objects) (sym same)
set_same (first ∷ objects) (suc at) object there = ap (λ (others : List Object). first ∷ others) (set_same objects at object there)

-- to leave a monitor that is not entered changes nothing
unheld :
    (heap : Heap) (at : ℕ) (found : Option Object) → object_at heap at ≡ found → monitor_count heap at ≡ 0
    → left heap at ≡ heap
unheld heap at None is none = rw is refl
unheld heap at (Some object) is none =
    let zero_is : object.monitor ≡ 0 = (rw is at none) in
    let same : object_at heap at ≡ Some (record object { monitor = object.monitor - 1 }) =
    is ∙ ap (λ (n : ℕ). Some (record object { monitor = n })) (let e : object.monitor ≡ object.monitor - 1 = omega arith in e) in
    rw is (ap (λ (objects : List Object). record heap { objects = objects }) (set_same heap.objects at (record object { monitor = object.monitor - 1 }) same))

unlocked_unheld : (memory : Memory) (at : ℕ) → monitor_count memory.heap at ≡ 0 → unlocked memory (Some at) ≡ memory
unlocked_unheld memory at none = ap (with_heap memory) (unheld memory.heap at (object_at memory.heap at) refl none)

-- a monitor that was left, or that was not entered
pub left_or_not :
    (answer : Bool) (old new : Memory) (at : ℕ)
    → (answer ≡ false) ↔ (monitor_count old.heap at ≡ 0)
    → (answer ≡ true → new ≡ with_heap old (left old.heap at))
    → (answer ≡ false → new ≡ old)
    → new ≡ unlocked old (Some at)
left_or_not true old new at none leaves stays = leaves refl
left_or_not false old new at none leaves stays = stays refl ∙ sym (unlocked_unheld old at (none.0 refl))
