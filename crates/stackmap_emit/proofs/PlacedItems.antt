-- What going over items places is what written code states.
use Rattle.std.proofs.Common.{◌≡◌, ◌<◌, ℕ, List, length, min, get_or, Option, Some, None, refl, ap, subst, ◌∙◌}
use Rattle.std.specs.Option.{option_copied}
use Rattle.class_model.specs.Header.{header_of}
use Rattle.class_model.specs.Pool.{Constants}
use Rattle.class_model.specs.declared.frame.Frame.{Frame}
use Rattle.code_layout.specs.Layout.{start_in}
use Rattle.code_layout.specs.PlainItems.{plain_items}
use Rattle.code_layout.specs.declared.emitted.EmitItem.{EmitItem}
use Rattle.flow_code.specs.FlatCode.{FlatCode}
use Rattle.member_link.specs.Scope.{Scope}
use Rattle.plan_flow.specs.Written.Finish.{Finished}
use Rattle.plan_flow.specs.Written.FramedCode.{IsFramed, frame_of_item, greatest_of, items_scope}
use Rattle.plan_flow.specs.Written.WrittenCode.{Form, written_items}
use Rattle.stackmap_emit.proofs.BlockPlaces.{item_frame, point_item}
use Rattle.stackmap_emit.proofs.FramedWalks.{FindsFrom, finds_all}
use Rattle.stackmap_emit.specs.FramedItems.{ArePlacedBy, AreTexts, entry_with, items_body}
use Rattle.stackmap_emit.specs.Inner.BlockTables.{AreStarts, first_item, frame_by, last_block}
use Rattle.stackmap_emit.specs.Inner.Marks.{AreLed}
use Rattle.stackmap_emit.specs.Inner.PlacedUnits.{number_by}
use Rattle.stackmap_emit.specs.Inner.Walking.{IsWalk, IsWalked, Reads, stating_of}
use Rattle.stackmap_emit.specs.PlacedFrames.{placed_frames, stated_from}
use Rattle.stackmap_emit.specs.declared.walk.WrittenFrames.{WrittenFrames}
use Rattle.written_frames.specs.declared.starts.BlockStart.{BlockStart}

-- the tables that a walk reads are those of the blocks
pub record HasTables (walk : Reads) (flat : FlatCode) (items : List EmitItem) (place : ℕ → ℕ) (starts : List BlockStart) : Type 0 where
  pub led : AreLed items walk.led
  pub flat_is : walk.blocks.maker ≡ flat
  pub end : walk.blocks.end ≡ length items
  pub blocks : (number : ℕ) → number < length items
      → option_copied (get_or walk.blocks.by_item.items number None) ≡ last_block place number None starts
  pub points : (point : ℕ) → number_by walk.blocks.by_point.items (length items) point ≡ first_item place (length items) point starts

module _ (walk : Reads) (host : Scope) (flat : FlatCode) (form : Form) (blocks : List Finished) (items : List EmitItem) (place : ℕ → ℕ)
    (starts : List BlockStart) (entry : Frame) (made : WrittenFrames)
    (tables : HasTables walk flat items place starts)
    (many : length items ≡ length (written_items form blocks))
    (are : AreStarts form place starts blocks)
    (own : (header_of host.class).name ≡ walk.own)
    (begins : entry ≡ entry_with host flat)
    (walked : IsWalk walk entry items made) where
  abbrev pool : Constants
  pool = walk.pool

  block_is : (number : ℕ) → number < length items → (stating_of walk).block number ≡ frame_of_item flat form blocks number
  block_is number inside =
      ap (λ (found : FlatCode).
      frame_by found (number_by walk.blocks.by_point.items walk.blocks.end) (option_copied (get_or walk.blocks.by_item.items number None)))
      tables.flat_is
      ∙ item_frame form blocks (number_by walk.blocks.by_point.items walk.blocks.end)
      (λ point.
      ap (λ (end : ℕ). number_by walk.blocks.by_point.items end point) tables.end
      ∙ tables.points point ∙ point_item form point (length items) place starts blocks many are)
      flat number place starts (option_copied (get_or walk.blocks.by_item.items number None))
      (subst (λ (n : ℕ). number < n) many inside) are (tables.blocks number inside)

  module _ (state : ℕ → Option Frame) (frames : List Frame)
      (framed : IsFramed flat form blocks (plain_items items) (items_body host flat pool items state) frames)
      (texts : AreTexts host pool items frames) where
    found : FindsFrom host flat form blocks pool items state frames framed texts (stating_of walk) block_is (λ number inside. tables.led number inside)
        0 (Some (entry_with host flat)) items frames
    found = finds_all host flat form blocks pool items state frames framed texts (stating_of walk) block_is (λ number inside. tables.led number inside)

    is_walked : IsWalked walk (entry_with host flat) items (items_scope host pool 0 (plain_items items)) made
    is_walked =
        subst (λ (from : Frame). IsWalk walk from items made) begins walked (items_scope host pool 0 (plain_items items))
        (record { pool = refl; own = own; names = found.names })

    placed_is : made.placed ≡ placed_frames (start_in walk.offsets) 0 (stated_from state 0 items)
    placed_is = is_walked.placed ∙ ap (placed_frames (start_in walk.offsets) 0) found.stated

    deepest_is : made.max_stack ≡ min (greatest_of (items_body host flat pool items state).points frames) 65535
    deepest_is = is_walked.deepest ∙ ap (λ (n : ℕ). min n 65535) found.depth

  pub are_placed : ArePlacedBy host flat form blocks pool items walk.offsets made.placed made.max_stack
  are_placed = record { frames = placed_is; deepest = deepest_is }
