use Rattle.std.proofs.Common.{◌+◌, ◌-◌, length}
use Rattle.virtual_state.specs.Inner.Tables.{HaveSameEntries}
use Rattle.virtual_state.proofs.table.grow.Given as goal

abbrev pub invariant-loop-entries : goal.invariant-loop-entries
invariant-loop-entries l = HaveSameEntries l.initial.entries.items l.entries.items

abbrev pub decreases-loop-entries : goal.decreases-loop-entries
decreases-loop-entries l = l.at + 1 - length l.entries.items
