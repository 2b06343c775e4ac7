use Rattle.std.proofs.Common.{◌≡◌, ◌≤◌, ◌++◌, ◌*◌, drop}
use Rattle.code_layout.specs.Layout.{start_in}
use Rattle.code_layout.specs.WideForm.{wide_from}
use Rattle.code_layout.proofs.wide_form.wide_items.Given as goal

abbrev pub invariant-loop-item : goal.invariant-loop-item
invariant-loop-item l =
    (wide_from (start_in l.numbers) 0 l.items ≡ l.wide.items ++ wide_from (start_in l.numbers) l.number (drop l.item-index l.items))
    × (l.number ≤ 2 * l.item-index)
