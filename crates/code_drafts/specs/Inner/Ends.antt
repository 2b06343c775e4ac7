-- How drafts of blocks end: what blocks end with, said of drafts.
use Rattle.std.specs.Prelude.{◌≡◌, ◌==◌, ℕ, Bool, true, false, List, [], ◌∷◌, drop, Option, Some, None, if◌then◌else◌}
use Rattle.code_drafts.specs.Drafts.{IsDrafted, kind_of}
use Rattle.code_drafts.specs.declared.draft.DraftBlock.{DraftBlock}
use Rattle.code_drafts.specs.declared.finishing.DraftEnd.{DraftEnd}
use Rattle.code_drafts.specs.declared.finishing.DraftEnd.TheVariants.{Goto, Nop, Nothing}
use Rattle.flow_code.specs.FlatCode.{FlatCode}
use Rattle.making_code.specs.StateFrames.{differ, state_frame}
use Rattle.plan_flow.specs.Written.Finish.{End, Finished, begins_point, goto_end, no_end, nop_end}

-- the first of these ends is that of a block that writes nothing
abbrev pub is_silent : ℕ → List DraftEnd → Bool
is_silent count [] = false
is_silent count (Nothing ∷ ends) = count == 0
is_silent count (Goto to ∷ ends) = false
is_silent count (Nop ∷ ends) = false

-- behind a block control comes to a point over blocks that write nothing
abbrev pub draft_comes_to : ℕ → List DraftBlock → List DraftEnd → Bool
draft_comes_to to [] ends = false
draft_comes_to to (block ∷ blocks) ends =
    if begins_point to (kind_of block.of) then true
    else if is_silent block.count ends then draft_comes_to to blocks (drop 1 ends)
    else false

-- what a draft has at its start
abbrev pub draft_differ : FlatCode → DraftBlock → DraftBlock → Bool
draft_differ flat block next =
    differ (state_frame flat block.at block.state) (state_frame flat next.at next.state)

abbrev pub draft_empty_end : FlatCode → DraftBlock → List DraftBlock → DraftEnd
draft_empty_end flat block [] = Nothing
draft_empty_end flat block (next ∷ others) =
    if draft_differ flat block next then Nop else Nothing

-- the end of a block that goes nowhere else
abbrev pub stay_end : FlatCode → DraftBlock → List DraftBlock → DraftEnd
stay_end flat block behind =
    if block.count == 0 then draft_empty_end flat block behind else Nothing

abbrev pub leave_end : Option ℕ → List DraftBlock → List DraftEnd → DraftEnd → DraftEnd
leave_end None behind ends stay = stay
leave_end (Some to) behind ends stay = if draft_comes_to to behind ends then stay else Goto to

abbrev pub draft_end : FlatCode → DraftBlock → List DraftBlock → List DraftEnd → DraftEnd
draft_end flat block behind ends =
    leave_end block.leaves behind ends (stay_end flat block behind)

abbrev pub draft_ends : FlatCode → List DraftBlock → List DraftEnd
draft_ends flat [] = []
draft_ends flat (block ∷ blocks) =
    draft_end flat block blocks (draft_ends flat blocks) ∷ draft_ends flat blocks

-- ---- what they mean

abbrev pub end_meant : DraftEnd → End
end_meant Nothing = no_end
end_meant (Goto to) = goto_end to
end_meant Nop = nop_end

-- blocks with their ends, as drafts
pub record IsEnded (one : Finished) (draft : DraftBlock) (ending : DraftEnd) : Type 0 where
  pub block : IsDrafted one.block draft
  pub end : end_meant ending ≡ one.end

abbrev pub AreEnded : List Finished → List DraftBlock → List DraftEnd → Type 0
AreEnded [] [] [] = Unit {0}
AreEnded (one ∷ others) (draft ∷ drafts) (end ∷ ends) =
    IsEnded one draft end × AreEnded others drafts ends
AreEnded blocks drafts ends = ⊥
