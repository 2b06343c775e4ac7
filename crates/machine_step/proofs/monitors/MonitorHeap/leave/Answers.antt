use Rattle.std.proofs.Common.{◌≡◌, Bool, true, false, ℕ, List, sym, subst, ap, ◌∙◌, refl}
use Rattle.machine_values.specs.Heaps.{Heap, left, monitor_count}
use Rattle.machine_step.specs.Inner.Monitors.{AreHeld}
use Rattle.machine_step.proofs.MonitorCounts.{left-held, taken-held}
use Rattle.machine_step.proofs.monitors.MonitorHeap.leave.Goals as goal

-- what is held stays so
after : (answer : Bool) (old new : Heap) (at : ℕ) (numbers : List ℕ) → (answer ≡ true → new ≡ left old at) → (answer ≡ false → new ≡ old) → AreHeld old numbers → AreHeld new numbers
after true old new at numbers leaves stays before = subst (λ (heap : Heap). AreHeld heap numbers) (sym (leaves refl)) (left-held old at numbers before)
after false old new at numbers leaves stays before = subst (λ (heap : Heap). AreHeld heap numbers) (sym (stays refl)) before

pub invariant_of-self-else-monitor_count-eq0 : goal.invariant_of-self-else-monitor_count-eq0
invariant_of-self-else-monitor_count-eq0 c =
    let leaves = c.leave-leaves in
    after leaves.result c.self.inside.heap leaves.new.self c.args.at c.self.inside.held.keys leaves.ensures.left leaves.ensures.same c.self.invariant

pub invariant_of-self : goal.invariant_of-self
invariant_of-self c =
    let leaves = c.leave-leaves in
    let heap = leaves.new.self in
    let held = after leaves.result c.self.inside.heap heap c.args.at c.self.inside.held.keys leaves.ensures.left leaves.ensures.same c.self.invariant in
    let none : monitor_count heap c.at.inside.number ≡ 0 = ap (λ (r : ℕ). monitor_count heap r) c.at.view_is ∙ ap (λ (now : Heap). monitor_count now c.args.at) (sym c.heap.ensures) ∙ sym c.monitor_count.ensures ∙ c.if-monitor_count-eq0.true in
    taken-held heap c.at.inside.number c.self.inside.held.keys c.swap_remove.new.self.keys held none c.swap_remove.ensures.updates.0
