-- The row of each item of written code fits behind its frame, with the access that it asks for.
use Rattle.std.proofs.Common.{◌≡◌, ◌+◌, ℕ, zero, suc, List, [], ◌∷◌, ◌++◌, slice_get, Option, Some, refl, sym, subst, ◌∙◌, arith}
use Rattle.std.proofs.lemmas.Option.{none-some, same_Some}
use Rattle.class_model.specs.declared.frame.Frame.{Frame}
use Rattle.expanded_runs.specs.UsableNames.{IsUsableCode}
use Rattle.making_code.specs.IndexedItems.{IndexedItem}
use Rattle.making_code.specs.Items.{WItem}
use Rattle.member_link.specs.Machine.Replaced.{map_numbered}
use Rattle.member_link.specs.Rows.Table.{row_of}
use Rattle.plan_flow.specs.Written.FramedCode.{IsFramed}
use Rattle.plan_flow.specs.Written.WrittenCode.{written_items}
use Rattle.plan_flow.specs.Written.WrittenConstants.{indexed_item}
use Rattle.written_types.proofs.CarriedBlocks.{AllCarry, HoldFrom, PointHolds, all_hold}
use Rattle.written_types.proofs.FramedBodies.{From, known_of, next_from, stands_from}
use Rattle.written_types.proofs.ItemPlaces.{StandsAt}
use Rattle.written_types.specs.HeldRows.{RowFits}
use Rattle.written_types.specs.Inner.CarriedFrames.{instr_in}
use Rattle.written_types.specs.Writing.{Writing, body_in, items_in, scope_in}

-- an item by its number, as it is written
record HeldAt (w : Writing) (number : ℕ) (item : IndexedItem) : Type 0 where
  one : WItem
  is : indexed_item w.s w.constructor w.pool w.form w.blocks number one ≡ item
  at : StandsAt w number one
  holds : PointHolds w number one

held_at : (w : Writing) (from gap : ℕ) (left right : List WItem) → From w from left right → HoldFrom w from right → (item : IndexedItem)
    → slice_get (map_numbered (indexed_item w.s w.constructor w.pool w.form w.blocks) from right) gap ≡ Some item
    → HeldAt w (from + gap) item
held_at w from gap left [] place holds item is = absurd (none-some item is)
held_at w from zero left (one ∷ right) place holds item is =
    subst (λ (n : ℕ). HeldAt w n item) (omega arith)
    (record { one = one; is = same_Some _ item is; at = stands_from w from left right one place; holds = holds.0 })
held_at w from (suc gap) left (one ∷ right) place holds item is =
    subst (λ (n : ℕ). HeldAt w n item) (omega arith)
    (held_at w (suc from) gap (left ++ (one ∷ [])) right (next_from w from left right one place) holds.1 item is)

module _ (w : Writing) (state : ℕ → Option Frame) (frames : List Frame) (all : AllCarry w)
    (framed : IsFramed w.s.flat w.form w.blocks (items_in w) (body_in w state) frames) (number : ℕ) (item : IndexedItem) (frame : Frame)
    (is_item : slice_get (items_in w) number ≡ Some item) (is_frame : slice_get frames number ≡ Some frame) where
  held : HeldAt w number item
  held =
      subst (λ (n : ℕ). HeldAt w n item) (omega arith)
      (held_at w 0 number [] (written_items w.form w.blocks) (record { is = refl; number_is = refl }) (all_hold w all) item is_item)

  same_frame : held.holds.frame ≡ frame
  same_frame = same_Some held.holds.frame frame (sym held.holds.is_frame ∙ (known_of w state frames all framed).had.had number frame is_frame)

  pub item_held : IsUsableCode w.s.classes w.host w.s.flat → RowFits (scope_in w) frame (row_of (scope_in w) frame number item.instr)
  item_held usable =
      subst (λ (one : IndexedItem). RowFits (scope_in w) frame (row_of (scope_in w) frame number one.instr)) held.is
      (subst (λ (f : Frame). RowFits (scope_in w) f (row_of (scope_in w) f number (instr_in w number held.one))) same_frame (record {
        operands = held.holds.holds.row.operands;
        local = held.holds.holds.row.local;
        further = held.holds.holds.row.further;
        access = held.holds.holds.access usable;
      }))
