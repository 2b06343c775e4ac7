-- How the blocks of written code end. It is this project's profile.
--
-- A block that goes elsewhere at its end is followed by a goto, unless control comes to the target over blocks that write nothing. A block
-- that writes nothing shares its place with the block behind it; where the frame of the later one says more of a place, a nop stands between
-- them. So blocks are finished from the last one on: what stands behind a block decides it.
use Rattle.std.specs.Prelude.{◌==◌, ℕ, Bool, true, false, List, [], ◌∷◌, ◌++◌, Option, Some, None, if◌then◌else◌}
use Rattle.class_model.specs.declared.instr.Instr.TheVariants.{Goto, Nop}
use Rattle.flow_code.specs.FlatCode.{FlatCode}
use Rattle.making_code.specs.Items.{WItem, item, plain, to_point}
use Rattle.plan_flow.specs.Written.Blocks.{Block, BlockOf, before_point, handler_pad, jump_pad, of_point, on_next_edge}
use Rattle.making_code.specs.StateFrames.{differ}
use Rattle.plan_flow.specs.Written.WrittenFrames.{written_frame}

-- what a block ends with
pub data End : Type 0 where
  no_end : End
  goto_end : ℕ → End
  nop_end : End

pub record Finished : Type 0 where
  pub block : Block
  pub end : End

-- ---- what is written of a block

abbrev pub end_items : End → List WItem
end_items no_end = []
end_items (goto_end to) = record { instr = plain (Goto 0); targets = to_point to ∷ []; catches = [] } ∷ []
end_items nop_end = item (plain Nop) ∷ []

abbrev pub finished_items : Finished → List WItem
finished_items one = one.block.items ++ end_items one.end

abbrev pub is_empty : List WItem → Bool
is_empty [] = true
is_empty (one ∷ others) = false

-- ---- where control goes on

-- a block is the first of a point, if that is no block of make code behind it
abbrev pub begins_point : ℕ → BlockOf → Bool
begins_point to (before_point at) = at == to
begins_point to (of_point at) = at == to
begins_point to (on_next_edge at) = false
begins_point to (jump_pad at number) = false
begins_point to (handler_pad at number) = false

-- behind a block control comes to a point over blocks that write nothing
abbrev pub comes_to : ℕ → List Finished → Bool
comes_to to [] = false
comes_to to (one ∷ others) =
    if begins_point to one.block.of then true
    else if is_empty (finished_items one) then comes_to to others
    else false

-- ---- the end of a block, by those behind it

-- The last block always ends by itself. Whether a goto is written is decided before the block's own nop.
abbrev pub empty_end : FlatCode → Block → List Finished → End
empty_end flat block [] = no_end
empty_end flat block (next ∷ others) =
    if differ (written_frame flat block) (written_frame flat next.block) then nop_end else no_end

abbrev pub end_of : FlatCode → Block → List Finished → End
end_of flat block behind = by_goto block.leaves where
  if_empty : End
  if_empty =
      if is_empty block.items then empty_end flat block behind else no_end

  by_goto : Option ℕ → End
  by_goto None = if_empty
  by_goto (Some to) = if comes_to to behind then if_empty else goto_end to

abbrev pub finish : FlatCode → List Block → List Finished
finish flat [] = []
finish flat (block ∷ blocks) = with_end (finish flat blocks) where
  with_end : List Finished → List Finished
  with_end behind = record { block = block; end = end_of flat block behind } ∷ behind
