use Rattle.std.proofs.Common.{◌≡◌, ◌+◌, ◌∷◌, ℕ, Some, ap, subst, ◌∙◌, rules}
use Rattle.machine_values.specs.declared.value.Value.TheVariants.{Ref}
use Rattle.machine_values.specs.Heaps.{Heap, Made}
use Rattle.member_link.specs.Machine.ArraySteps.{all_counts, array_with, arrays_of_counts, nested}
use Rattle.member_link.specs.Machine.Worlds.{Memory}
use Rattle.machine_step.specs.Completing.{Completes}
use Rattle.machine_step.specs.Inner.NestedArrays.{made_elements}
use Rattle.machine_step.specs.declared.completed.Completed.TheVariants.{Gives}
use Rattle.machine_step.proofs.ArrayCounts.{array_made, arrays_given}
use Rattle.machine_step.proofs.nested_arrays.arrays_of.Goals as goal

pub returns : goal.returns
returns c = λ operands.
    let desc = c.args.desc.now in
    let counts = c.args.counts.now in
    let count = c.in-Some.count.now in
    let rest = c.in-Some.rest.now in
    let inside = c.memory.inside in
    let before : Memory = record { heap = inside.heap; statics = inside.statics; begun = inside.begun; allocations = inside.allocations; entries = inside.entries } in
    let arrays = nested desc count rest inside.heap in
    let same : array_with desc count (made_elements c.elements.new.heap c.in_ok-values.values) ≡ arrays = array_made desc count rest inside.heap c.elements.new.heap c.in_ok-values.values c.in_ok-values.ensures in
    let heap : c.array_with.new.heap ≡ arrays.heap = c.in_ok-at.ensures.heap ∙ ap (λ (m : Made). m.heap) same in
    let reference : c.in_ok-at.at ≡ arrays.reference = c.in_ok-at.ensures.reference ∙ ap (λ (m : Made). m.reference) same in
    let after : Memory = record before { heap = c.array_with.new.heap; allocations = inside.allocations + c.from.result } in
    let after_is : after ≡ record before { heap = arrays.heap; allocations = inside.allocations + c.in-Some-arrays_made.made } =
    ap (λ (h : Heap). record before { heap = h; allocations = inside.allocations + c.from.result }) heap
    ∙ ap (λ (n : ℕ). record before { heap = arrays.heap; allocations = inside.allocations + n }) c.from.ensures
    in
    let split : counts ≡ count ∷ rest = search rules in
    subst (λ (m : Memory). Completes m after operands (Gives (Some (Ref c.in_ok-at.at))) (arrays_of_counts m desc (all_counts counts))) c.memory.view_is
    (arrays_given before after operands desc counts rest count c.in-Some-arrays_made.made c.in_ok-at.at split c.in-Some-arrays_made.ensures.made after_is reference)
