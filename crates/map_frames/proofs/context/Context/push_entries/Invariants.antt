use Rattle.map_frames.specs.Inner.Settings.{setting_of}
use Rattle.map_frames.proofs.EntriesRead.{Read}
use Rattle.map_frames.proofs.context.Context.push_entries.Given as goal

abbrev pub invariant-loop : goal.invariant-loop
invariant-loop l = Read (setting_of l.self) l.frame l.count l.initial.rest l.initial.entries l.counter l.entries l.rest
