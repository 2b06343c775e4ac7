use Rattle.std.proofs.Common.{◌≡◌, ◌<◌, ◌-◌, Some, length, slice_get, sym, ap, ◌∙◌, arith}
use Rattle.std.proofs.lemmas.Bool.{ltb-true}
use Rattle.std.proofs.lemmas.Option.{slice_get-get_or}
use Rattle.code_layout.specs.WideForm.{closing, jump_over, nop_behind}
use Rattle.code_layout.specs.declared.emitted.EmitItem.{EmitItem}
use Rattle.code_layout.proofs.WideNumbers.{closing-last}
use Rattle.code_layout.proofs.wide_form.goes_past.Goals as goal

pub returns-in-Some : goal.returns-in-Some
returns-in-Some c =
    let items = c.args.items.now in
    let item = c.in-Some.item.now in
    let told = c.in-Some.ensures.item in
    let some : 0 < length items = ltb-true 0 (length items) (sym told.0) in
    let is : slice_get items (length items - 1) ≡ Some item =
    slice_get-get_or items (length items - 1) item (omega (arith, some)) ∙ ap (λ (e : EmitItem). Some e) (sym told.1) in
    let last : closing items ≡ nop_behind (jump_over item) = closing-last items item is in
    rw c.is_over.ensures last
