use Rattle.std.proofs.Common.{◌≡◌, ◌||◌, ℕ, List, ap, ◌∙◌, rules}
use Rattle.class_model.specs.Instructions.{targets}
use Rattle.code_layout.specs.declared.emitted.Catch.{Catch}
use Rattle.stackmap_emit.proofs.MarkedItems.{item_both, marked_both}
use Rattle.stackmap_emit.proofs.led.mark_item.Goals as goal
use Rattle.stackmap_emit.specs.Inner.Marks.{are_targets, catches_lead, item_leads}

pub returns : goal.returns
returns c =
    let item = c.args.item.now in
    let listed = c.as_slice.result.now in
    let same : item.catches ≡ listed = search rules in
    marked_both (are_targets (targets item.instr)) (catches_lead listed) (item_leads item) _ _ _ c.mark_targets.ensures c.mark_catches.ensures
    (λ (at : ℕ).
    item_both item at ∙ ap (λ (list : List Catch). are_targets (targets item.instr) at || catches_lead list at) same)
