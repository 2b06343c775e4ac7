use Rattle.std.proofs.Common.{arith, ◌≡◌, ℕ, length, slice_get, Some, sym, ap, subst, ◌∙◌}
use Rattle.std.proofs.lemmas.Option.{slice_get-get_or}
use Rattle.code_drafts.proofs.PartLaws.{item_placed}
use Rattle.code_drafts.proofs.placing.place_items.Goals as goal
use Rattle.code_drafts.specs.Inner.Parts.{draft_number, placed_draft}
use Rattle.code_layout.specs.PlainItems.{plain_item}

pub loop-item-preserved : goal.loop-item-preserved
loop-item-preserved c =
    let items = c.args.items.now in
    let starts = c.args.starts.now in
    let at = c.loop-item.item-index in
    let item = c.item-item.result in
    let placed = c.in_ok-place_item.field-0 in
    let is : slice_get items at ≡ Some item = slice_get-get_or items at item c.loop-item-test.true ∙ ap Some (sym c.item-item.is) in
    let one : plain_item placed ≡ placed_draft (draft_number starts (length items) at) item =
    subst (λ (n : ℕ). plain_item placed ≡ placed_draft (draft_number starts (length items) n) item) c.loop-item.invariant.1
    c.in_ok-place_item.ensures in (
      item_placed starts (length items) items at item c.loop-item.placed.items c.push.new.self.items placed is c.loop-item.invariant.0 one
          c.in_ok-push.ensures.items,
      omega (arith, c.loop-item.invariant.1),
    )
