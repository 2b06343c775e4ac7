use Rattle.std.proofs.Common.{◌≡◌, ◌≤◌, ◌++◌, drop}
use Rattle.code_layout.specs.Inner.Writing.{most_in, spelled_in}
use Rattle.code_layout.specs.Layout.{end_from, item_starts, starts_from}
use Rattle.code_layout.proofs.places.places.Given as goal

abbrev pub invariant-loop-item : goal.invariant-loop-item
invariant-loop-item l =
    (item_starts (spelled_in l.form) l.items ≡ l.starts.items ++ starts_from (spelled_in l.form) l.at (drop l.item-index l.items))
    × (end_from (spelled_in l.form) 0 l.items ≡ end_from (spelled_in l.form) l.at (drop l.item-index l.items))
    × (l.at ≤ most_in l.form)
