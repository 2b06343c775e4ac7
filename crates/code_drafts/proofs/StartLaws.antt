-- Drafts of blocks start where the blocks do.
use Rattle.std.proofs.Common.{◌≡◌, ◌+◌, ◌≤◌, ℕ, List, [], ◌∷◌, ◌++◌, drop, length, refl, sym, ap, ◌∙◌, append-nil}
use Rattle.std.proofs.lemmas.List.{drop_all}
use Rattle.code_drafts.proofs.EndLaws.{ends_same}
use Rattle.written_frames.specs.BlockStarts.{block_starts, point_of, start_of_block}
use Rattle.code_drafts.specs.Inner.DraftStarts.{draft_start, draft_starts}
use Rattle.code_drafts.specs.Drafts.{AreDrafted, IsDrafted}
use Rattle.code_drafts.specs.Inner.Ends.{AreEnded, draft_ends}
use Rattle.code_drafts.specs.Numbering.{block_firsts}
use Rattle.code_drafts.specs.declared.draft.DraftBlock.{DraftBlock}
use Rattle.code_drafts.specs.declared.finishing.DraftEnd.{DraftEnd}
use Rattle.written_frames.specs.declared.starts.BlockStart.{BlockStart}
use Rattle.flow_code.specs.FlatCode.{FlatCode}
use Rattle.plan_flow.specs.Written.Blocks.{Block, BlockOf}
use Rattle.plan_flow.specs.Written.Finish.{Finished, finish, finished_items}
use Rattle.virtual_state.specs.States.{State}

pub start_same : (number : ℕ) (one : Finished) (draft : DraftBlock) → IsDrafted one.block draft → draft_start draft number ≡ start_of_block number one
start_same number one draft is =
    ap (λ (of : BlockOf). record { item = number; of = point_of of; at = draft.at; state = draft.state }) is.of
    ∙ ap (λ (at : ℕ). record { item = number; of = point_of one.block.of; at = at; state = draft.state }) is.at
    ∙ ap (λ (state : State). record { item = number; of = point_of one.block.of; at = one.block.at; state = state }) is.state

pub starts_from : (number : ℕ) (blocks : List Finished) (drafts : List DraftBlock) (ends : List DraftEnd) → AreEnded blocks drafts ends
    → draft_starts drafts (block_firsts number blocks) ≡ block_starts number blocks
starts_from number [] [] [] all = refl
starts_from number [] [] (end ∷ ends) all = elim all [ ]
starts_from number [] (draft ∷ drafts) ends all = elim all [ ]
starts_from number (one ∷ others) [] ends all = elim all [ ]
starts_from number (one ∷ others) (draft ∷ drafts) [] all = elim all [ ]
starts_from number (one ∷ others) (draft ∷ drafts) (end ∷ ends) all =
    let next = number + length (finished_items one) in
    ap (λ (start : BlockStart). start ∷ draft_starts drafts (block_firsts next others)) (start_same number one draft all.0.block)
    ∙ ap (λ (starts : List BlockStart). start_of_block number one ∷ starts) (starts_from next others drafts ends all.1)

-- of blocks whose first items have these numbers
pub starts_same : (flat : FlatCode) (blocks : List Block) (drafts : List DraftBlock) (firsts : List ℕ) → AreDrafted blocks drafts
    → firsts ≡ block_firsts 0 (finish flat blocks)
    → draft_starts drafts firsts ≡ block_starts 0 (finish flat blocks)
starts_same flat blocks drafts firsts all is =
    ap (draft_starts drafts) is ∙ starts_from 0 (finish flat blocks) drafts (draft_ends flat drafts) (ends_same flat blocks drafts all)

-- ---- where a loop ends

no_firsts : (left : List DraftBlock) → draft_starts left [] ≡ []
no_firsts [] = refl
no_firsts (block ∷ left) = refl

pub past_firsts : (starts whole : List BlockStart) (left : List DraftBlock) (firsts : List ℕ) (at : ℕ)
    → length firsts ≤ at
    → starts ++ draft_starts left (drop at firsts) ≡ whole
    → starts ≡ whole
past_firsts starts whole left firsts at past so_far =
    sym (append-nil starts)
    ∙ ap (λ (list : List BlockStart). starts ++ list) (sym (ap (draft_starts left) (drop_all at firsts past) ∙ no_firsts left))
    ∙ so_far
