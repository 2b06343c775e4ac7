use Rattle.std.proofs.Common.{◌≡◌, ◌+◌, drop}
use Rattle.code_layout.specs.Layout.{table_len}
use Rattle.code_layout.proofs.places.fits_table.Given as goal

abbrev pub invariant-loop-item : goal.invariant-loop-item
invariant-loop-item l = table_len l.items + l.left ≡ 65535 + table_len (drop l.item-index l.items)
