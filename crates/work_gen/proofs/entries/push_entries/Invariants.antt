use Rattle.std.proofs.Common.{◌≡◌, ◌++◌, map, take}
use Rattle.work_gen.specs.Entries.{entry_of}
use Rattle.work_gen.proofs.entries.push_entries.Given as goal

abbrev pub invariant-loop-entry : goal.invariant-loop-entry
invariant-loop-entry l = l.pool ≡ l.initial.pool ++ map entry_of (take l.entry-index l.entries)
