use Rattle.std.proofs.Common.{◌≡◌, ◌++◌, map, take}
use Rattle.code_layout.specs.Layout.{range_of, start_in}
use Rattle.code_layout.proofs.writing.push_ranges.Given as goal

abbrev pub invariant-loop-catch : goal.invariant-loop-catch
invariant-loop-catch l = l.table.items ≡ l.initial.table.items ++ map (range_of (start_in l.starts) l.start l.end) (take l.catch-index l.catches)
