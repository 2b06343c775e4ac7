use Rattle.std.proofs.Common.{◌≡◌, length}
use Rattle.machine_values.specs.Values.{component_text}
use Rattle.member_link.specs.Machine.ArraySteps.{made_times, nested}
use Rattle.machine_step.specs.Inner.NestedArrays.{elements_before}
use Rattle.machine_step.proofs.nested_arrays.+elements.Given as goal

abbrev pub invariant-loop-left : goal.invariant-loop-left
invariant-loop-left l =
    made_times (nested (component_text l.desc) l.next l.rest) l.count l.initial.heap
    ≡ elements_before l.values (made_times (nested (component_text l.desc) l.next l.rest) l.left l.heap)

abbrev pub decreases-loop-left : goal.decreases-loop-left
decreases-loop-left l = l.left

-- Each call is of one dimension fewer.
abbrev pub decreases-elements : goal.decreases-elements
decreases-elements l = length l.counts.now
