use Rattle.std.proofs.Common.{◌≡◌, take}
use Rattle.code_layout.specs.Layout.{start_in}
use Rattle.code_layout.specs.WideForm.{renumbered_catches}
use Rattle.code_layout.proofs.wide_form.renumbered.Given as goal

abbrev pub invariant-loop-catch : goal.invariant-loop-catch
invariant-loop-catch l = l.made.items ≡ renumbered_catches (start_in l.numbers) (take l.catch-index l.catches)
