use Rattle.std.proofs.Common.{◌≡◌, ◌≤◌, drop}
use Rattle.code_layout.specs.Layout.{end_from, short_spelled}
use Rattle.code_layout.proofs.places.is_short.Given as goal

abbrev pub invariant-loop-item : goal.invariant-loop-item
invariant-loop-item l =
    (end_from short_spelled 0 l.items ≡ end_from short_spelled l.at (drop l.item-index l.items)) × (l.at ≤ 32767)
