use Rattle.std.proofs.Common.{◌≡◌, ◌++◌, length, drop}
use Rattle.code_layout.specs.Inner.Writing.{CanBePlaced, spelled_in}
use Rattle.code_layout.specs.Layout.{item_ranges, placed_from, ranges_from, start_in}
use Rattle.code_layout.proofs.Written.{IsWritten}
use Rattle.code_layout.proofs.writing.code_and_table.Given as goal

abbrev pub invariant-loop-item : goal.invariant-loop-item
invariant-loop-item l =
    IsWritten (spelled_in l.form) l.items l.starts l.code.items (drop l.item-index l.items)
    × (item_ranges (spelled_in l.form) l.items
    ≡ l.table.items ++ ranges_from (spelled_in l.form) (start_in l.starts) (length l.code.items) (drop l.item-index l.items))
    × CanBePlaced l.form (placed_from (spelled_in l.form) (start_in l.starts) (length l.code.items) (drop l.item-index l.items))
