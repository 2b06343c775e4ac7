use Rattle.std.proofs.Common.{◌+◌, ◌-◌, length}
use Rattle.machine_code.specs.Inner.PreparedTables.{KeepsOnly}
use Rattle.machine_code.proofs.prepared_table.add_classes.Given as goal

abbrev pub invariant-loop-alloc : goal.invariant-loop-alloc
invariant-loop-alloc l = KeepsOnly l.initial.table.items l.table.items

abbrev pub decreases-loop-alloc : goal.decreases-loop-alloc
decreases-loop-alloc l = l.class + 1 - length l.table.items
