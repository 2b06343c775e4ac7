use Rattle.class_tree.specs.Subtype.{none_taken, both_taken}
use Rattle.class_tree.proofs.Components.{component_is_shorter}
use Rattle.class_tree.proofs.subtype.innermost.Goals as goal
use Rattle.class_tree.proofs.subtype.innermost.Goals.{in_default, in_default-2}

pub loop-low_component-init : goal.loop-low_component-init
loop-low_component-init c = none_taken

pub loop-low_component-smaller : goal.loop-low_component-smaller
loop-low_component-smaller c = component_is_shorter c.in-Some-Some.ensures.some

pub returns-clause-taken : goal.returns-clause-taken
returns-clause-taken c = c.loop-low_component.invariant

pub returns-clause-last : goal.returns-clause-last
returns-clause-last c = λ one other is also. elim c.match-component.branch [ in_default w ↦ w.in_default.ensures'.none other also | in_default-2 w ↦ w.in_default.ensures.none one is ]

pub loop-low_component-preserved : goal.loop-low_component-preserved
loop-low_component-preserved c =
    both_taken c.loop-low_component.low.now c.loop-low_component.high.now c.in-Some-Some.low_component.now c.in-Some-Some.high_component.now c.loop-low_component.invariant c.in-Some-Some.ensures.some c.in-Some-Some.ensures'.some
