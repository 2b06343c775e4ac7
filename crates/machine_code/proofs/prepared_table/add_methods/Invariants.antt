use Rattle.std.proofs.Common.{◌+◌, ◌-◌, length}
use Rattle.machine_code.specs.Inner.PreparedTables.{HasOnly}
use Rattle.machine_code.proofs.prepared_table.add_methods.Given as goal

abbrev pub invariant-loop-slots : goal.invariant-loop-slots
invariant-loop-slots l = HasOnly l.initial.slots.items l.slots.items

abbrev pub decreases-loop-slots : goal.decreases-loop-slots
decreases-loop-slots l = l.method + 1 - length l.slots.items
