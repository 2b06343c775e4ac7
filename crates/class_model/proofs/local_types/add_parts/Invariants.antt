use Rattle.std.proofs.Common.{◌-◌, ◌+◌}
use Rattle.class_model.specs.LocalTypes.{unit_in}
use Rattle.class_model.specs.Inner.LocalTypes.{IsKept}
use Rattle.class_model.proofs.local_types.add_parts.Given as goal

abbrev pub invariant-loop-parts : goal.invariant-loop-parts
invariant-loop-parts l = IsKept (unit_in l.fn.parts.items) (unit_in l.parts.items)

abbrev pub decreases-loop-parts : goal.decreases-loop-parts
decreases-loop-parts l = l.number + 1 - l.parts.len
