use Rattle.std.proofs.Common.{◌≡◌, ◌<◌, ℕ, Some}
use Rattle.std.specs.List.{slice_get}
use Rattle.code_layout.specs.Emitting.{IsItem}
use Rattle.code_layout.specs.declared.emitted.EmitItem.{EmitItem}
use Rattle.cases_rewrite.proofs.emitting.are_items.Given as goal

abbrev pub invariant-loop-at : goal.invariant-loop-at
invariant-loop-at l = (at : ℕ) (item : EmitItem) → at < l.at → slice_get l.items at ≡ Some item → IsItem l.items at item
