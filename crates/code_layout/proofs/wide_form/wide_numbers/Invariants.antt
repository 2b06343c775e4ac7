use Rattle.std.proofs.Common.{◌≡◌, ◌≤◌, ◌++◌, ◌*◌, drop}
use Rattle.code_layout.specs.WideForm.{numbers_from, wide_numbers}
use Rattle.code_layout.proofs.wide_form.wide_numbers.Given as goal

abbrev pub invariant-loop-item : goal.invariant-loop-item
invariant-loop-item l =
    (wide_numbers l.items ≡ l.numbers.items ++ numbers_from l.number (drop l.item-index l.items)) × (l.number ≤ 2 * l.item-index)
