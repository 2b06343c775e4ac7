use Rattle.std.proofs.Common.{◌≡◌, ap, ◌∙◌}
use Rattle.class_tree.specs.Headers.{Name}
use Rattle.machine_values.specs.Heaps.{Made}
use Rattle.machine_values.specs.Values.{component_text}
use Rattle.member_link.specs.Machine.ArraySteps.{array_with, made_times, nested}
use Rattle.machine_step.specs.Inner.NestedArrays.{made_elements}
use Rattle.machine_step.proofs.ArrayCounts.{array_made, elements_more}
use Rattle.machine_step.proofs.nested_arrays.+elements.Goals as goal

pub loop-left-preserved : goal.loop-left-preserved
loop-left-preserved t c =
    let next = c.in-Some.next.now in
    let rest = c.in-Some.rest.now in
    let component = c.in_ok-component.component in
    let heap = c.loop-left.heap in
    let inner : array_with component next (made_elements c.elements.new.heap c.in_ok-inner.inner) ≡ nested component next rest heap =
    array_made component next rest heap c.elements.new.heap c.in_ok-inner.inner c.in_ok-inner.ensures
    in
    let made = inner ∙ ap (λ (desc : Name). nested desc next rest heap) c.in_ok-component.ensures in
    elements_more (nested (component_text c.args.desc.now) next rest) (made_times (nested (component_text c.args.desc.now) next rest) c.args.count c.args.heap.now)
    c.loop-left.values c.push.new.self heap c.array_with.new.heap c.in_ok-at.at c.loop-left.left
    c.loop-left.invariant c.loop-left-test.true
    (c.in_ok-at.ensures.heap ∙ ap (λ (m : Made). m.heap) made)
    (c.in_ok-at.ensures.reference ∙ ap (λ (m : Made). m.reference) made)
    c.in_ok-push.ensures.ok
