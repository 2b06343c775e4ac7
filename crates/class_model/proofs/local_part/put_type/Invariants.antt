use Rattle.std.proofs.Common.{◌≡◌, ◌-◌, ◌≤◌}
use Rattle.class_model.specs.LocalTypes.{type_in}
use Rattle.class_model.specs.Inner.LocalTypes.{IsKept}
use Rattle.class_model.proofs.local_part.put_type.Given as goal

abbrev pub invariant-loop-types : goal.invariant-loop-types
invariant-loop-types l = (l.types.len ≤ l.at) × IsKept (type_in l.fn.types.items) (type_in l.types.items) × (l.unit ≡ l.fn.unit)

abbrev pub decreases-loop-types : goal.decreases-loop-types
decreases-loop-types l = l.at - l.types.len
