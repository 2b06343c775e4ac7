use Rattle.std.proofs.Common.{◌≡◌, take}
use Rattle.code_drafts.proofs.placing.place_items.Given as goal
use Rattle.code_drafts.specs.Inner.Parts.{placed_drafts}
use Rattle.code_layout.specs.PlainItems.{plain_items}

abbrev pub invariant-loop-item : goal.invariant-loop-item
invariant-loop-item l =
    (plain_items l.placed.items ≡ placed_drafts l.starts l.total 0 (take l.item-index l.items))
    × (l.number ≡ l.item-index)
