-- Where drafts of blocks start.
use Rattle.std.specs.Prelude.{ℕ, List, [], ◌∷◌}
use Rattle.written_frames.specs.BlockStarts.{point_of}
use Rattle.code_drafts.specs.Drafts.{kind_of}
use Rattle.code_drafts.specs.declared.draft.DraftBlock.{DraftBlock}
use Rattle.written_frames.specs.declared.starts.BlockStart.{BlockStart}

abbrev pub draft_start : DraftBlock → ℕ → BlockStart
draft_start block first = record {
  item = first;
  of = point_of (kind_of block.of);
  at = block.at;
  state = block.state;
}

abbrev pub draft_starts : List DraftBlock → List ℕ → List BlockStart
draft_starts [] firsts = []
draft_starts (block ∷ blocks) [] = []
draft_starts (block ∷ blocks) (first ∷ firsts) =
    draft_start block first ∷ draft_starts blocks firsts
