-- Where the blocks of written code start. It is this project's profile.
--
-- A block that writes nothing shares its place with the block behind it.
use Rattle.std.specs.Prelude.{ℕ, ◌+◌, List, [], ◌∷◌, length, Option, Some, None}
use Rattle.written_frames.specs.declared.starts.BlockStart.{BlockStart}
use Rattle.plan_flow.specs.Written.Blocks.{BlockOf, before_point, handler_pad, jump_pad, of_point, on_next_edge}
use Rattle.plan_flow.specs.Written.Finish.{Finished, finished_items}

-- the point whose instruction a block is
abbrev pub point_of : BlockOf → Option ℕ
point_of (of_point at) = Some at
point_of (before_point at) = None
point_of (on_next_edge at) = None
point_of (jump_pad at number) = None
point_of (handler_pad at number) = None

abbrev pub start_of_block : ℕ → Finished → BlockStart
start_of_block number one = record {
  item = number;
  of = point_of one.block.of;
  at = one.block.at;
  state = one.block.state;
}

-- The starts of blocks, the first of which begins with the item of this number.
abbrev pub block_starts : ℕ → List Finished → List BlockStart
block_starts number [] = []
block_starts number (one ∷ others) =
    start_of_block number one ∷ block_starts (number + length (finished_items one)) others
