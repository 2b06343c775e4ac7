use Rattle.std.proofs.Common.{◌≡◌, ◌++◌, take}
use Rattle.machine_heap.specs.Inner.Climbs.{instance}
use Rattle.machine_values.specs.Values.{blank_values}
use Rattle.machine_heap.proofs.blanks.push_members.Given as goal

abbrev pub invariant-loop-field : goal.invariant-loop-field
invariant-loop-field l = l.values ≡ l.initial.values ++ blank_values (instance (take l.field-index l.fields))
