-- No object that an item of a block makes is on the stack before the block.
use Rattle.std.proofs.Common.{◌≡◌, ◌⊎◌, ◌+◌, ◌<◌, ◌≤◌, ℕ, suc, Bool, false, List, ◌∷◌, ◌++◌, drop, length, slice_get, take, Some, sym, ap, subst, ◌∙◌, inl, inr, arith}
use Rattle.class_model.specs.declared.frame.Frame.{Frame}
use Rattle.class_model.specs.declared.frame.VType.{VType}
use Rattle.flow_code.specs.ReadTypes.{read_frame}
use Rattle.plan_flow.specs.Laws.WrittenBlocks.{first_item, item_behind, split_at, take_left}
use Rattle.plan_flow.specs.Plans.{Plan}
use Rattle.plan_flow.specs.Written.Finish.{Finished}
use Rattle.plan_flow.specs.Written.FramedCode.{frame_by_item, frame_of_item, is_led_to}
use Rattle.plan_flow.specs.Written.WrittenCode.{block_items, written_items}
use Rattle.virtual_state.specs.declared.slot.Slot.{Slot}
use Rattle.written_types.proofs.BlockKinds.{kind_of_block}
use Rattle.written_types.proofs.BlockPlaces.{BeginsWith, HasBlock, has_block}
use Rattle.written_types.proofs.ChangedTypes.{all_own}
use Rattle.written_types.proofs.EdgesWritten.{EdgesWritten}
use Rattle.written_types.proofs.FreshItems.{AllQuiet, HasNo, descends}
use Rattle.written_types.proofs.Given.{EdgesFit, Given, entries_in, locals_in}
use Rattle.written_types.proofs.LowBlocks.{LowBlock, low_block}
use Rattle.written_types.proofs.LowPlaces.{low_none}
use Rattle.written_types.proofs.NewItems.{below, compare}
use Rattle.written_types.proofs.NextBlocks.{begins_next}
use Rattle.written_types.proofs.OtherItems.{By, all_by_item, all_entries, all_locals, types_other, units_other}
use Rattle.written_types.proofs.OtherRows.{Other, others_apart}
use Rattle.written_types.proofs.SlotFrames.{slots_frame, state_is, units_behind}
use Rattle.written_types.proofs.Standing.{all_joined}
use Rattle.written_types.specs.FitsTypes.{is_reached}
use Rattle.written_types.specs.Inner.CarriedFrames.{IsFresh, comes, had_in}
use Rattle.written_types.specs.Writing.{Writing, items_in}

module _ (w : Writing) (given : Given w) (fit : EdgesFit w given) (edges : EdgesWritten w given) where
  abbrev plan : Plan
  plan = given.setting.plan

  abbrev reached : ℕ → Bool
  reached = is_reached given.setting.routes

  -- ---- a stated frame

  stated : (place number : ℕ) (frame : Frame) → number ≤ place → AllQuiet w given place number place
      → frame_of_item w.s.flat w.form w.blocks number ≡ Some frame
      → HasNo place frame
  stated place number frame few quiet is =
      subst (HasNo place) (sym whole) (record {
        locals =
            all_by_item (Other place) (By w place) (locals_in read.locals low.state.slots ++ units_behind w.s.flat low.state.objects)
            (all_joined P (locals_in read.locals low.state.slots) (units_behind w.s.flat low.state.objects)
            (all_locals P tt read.locals low.state.slots
            (types_other w place reached read.locals (all_own w.s reached low.fits.point.typed.locals low.fits.locals)
            (λ p new same. (low_none w given edges place number h.one h.begins low few quiet p new same).locals)))
            (units_other w place w.s.flat low.state.objects));
        stack =
            all_by_item (Other place) (By w place) (entries_in read.stack entries)
            (all_entries P read.stack entries
            (types_other w place reached read.stack (all_own w.s reached low.fits.point.typed.stack low.fits.stack)
            (λ p new same. (low_none w given edges place number h.one h.begins low few quiet p new same).stack)));
      })
    where
      h : HasBlock w number frame
      h = has_block w number frame is

      low : LowBlock w given h.one
      low =
          low_block w given h.one (drop (suc h.begins.index) w.blocks) (begins_next w given h.begins.index h.one h.begins.is)
          (kind_of_block w given fit (take h.begins.index w.blocks) (drop (suc h.begins.index) w.blocks) h.one
          (split_at w.blocks h.begins.index h.one h.begins.is))

      read : Frame
      read = read_frame w.s.flat low.fits.point.typed

      entries : List Slot
      entries = drop (length low.fits.point.typed.locals) low.state.slots

      P : VType → Type 0
      P type = Other place (By w place type)

      whole : frame ≡ frame_by_item w.form w.blocks (slots_frame w.s.flat read low.state.slots entries low.state.objects)
      whole =
          h.is_frame
          ∙ ap (frame_by_item w.form w.blocks) (low.frame_is ∙ state_is w.s.flat low.at low.fits.point low.state low.fits.there)

  -- ---- blocks are fresh

  -- The stack before a block has no object that an item of the block makes.
  pub blocks_fresh : (front behind : List Finished) (one : Finished) (frame : Frame)
      → w.blocks ≡ front ++ (one ∷ behind)
      → had_in w (length (written_items w.form front)) (comes w (length (written_items w.form front))) ≡ Some frame
      → IsFresh w (length (written_items w.form front)) one frame
  blocks_fresh front behind one frame is had = λ at least most.
      others_apart at frame.stack (descends w given at (stated at) number frame least (quiet at most) had).stack
    where
      number : ℕ
      number = length (written_items w.form front)

      index : ℕ
      index = length front

      there : slice_get w.blocks index ≡ Some one
      there = ap (λ (all : List Finished). slice_get all index) is ∙ item_behind front behind one

      starts : first_item w.form w.blocks index ≡ number
      starts =
          ap (λ (all : List Finished). length (written_items w.form (take index all))) is
          ∙ ap (λ (all : List Finished). length (written_items w.form all)) (take_left front (one ∷ behind))

      -- no block begins inside
      quiet : (at : ℕ) → at < number + length (block_items w.form one) → AllQuiet w given at number at
      quiet at most inside more upto other is_frame =
          let h = has_block w inside other is_frame in
          by h.one h.begins (compare index h.begins.index) where
            by : (block : Finished) (b : BeginsWith w.form w.blocks inside block)
                → (index ≡ b.index) ⊎ ((index < b.index) ⊎ (b.index < index))
                → is_led_to (items_in w) inside ≡ false
            by block b (inl equal) =
                let e = ap (first_item w.form w.blocks) equal in
                let place = b.starts in
                absurd (omega (arith, e, place, starts, more))
            by block b (inr (inl less)) =
                let behind_one = below w.form w.blocks index b.index one there less in
                let place = b.starts in
                absurd (omega (arith, behind_one, place, starts, most, upto))
            by block b (inr (inr greater)) =
                let before = below w.form w.blocks b.index index block b.is greater in
                let place = b.starts in
                absurd (omega (arith, before, place, starts, more))
