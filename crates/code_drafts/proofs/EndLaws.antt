-- Drafts end as the blocks that they are of.
use Rattle.std.proofs.Common.{◌≡◌, ◌==◌, ℕ, suc, Bool, true, false, List, [], ◌∷◌, ◌++◌, ◌+◌, ◌<◌, ◌≤◌, drop, length, slice_get, slice_set, inl, inr, arith, Option, Some, None, if◌then◌else◌, refl, sym, ap, ◌∙◌}
use Rattle.std.proofs.lemmas.Bool.{ne_eqb}
use Rattle.std.proofs.lemmas.List.{drop-drop}
use Rattle.std.proofs.lemmas.Grind.{drop-set_at}
use Rattle.std.proofs.lemmas.Option.{slice_get_cases}
use Rattle.class_model.specs.Laws.Lists.{drop_item}
use Rattle.code_drafts.specs.Drafts.{AreDrafted, IsDrafted, kind_of}
use Rattle.code_drafts.specs.Inner.Ends.{AreEnded, draft_comes_to, draft_differ, draft_empty_end, draft_end, draft_ends, end_meant, is_silent, leave_end, stay_end}
use Rattle.code_drafts.specs.declared.draft.DraftBlock.{DraftBlock}
use Rattle.code_drafts.specs.declared.finishing.DraftEnd.{DraftEnd}
use Rattle.code_drafts.specs.declared.finishing.DraftEnd.TheVariants.{Goto, Nop, Nothing}
use Rattle.flow_code.specs.FlatCode.{FlatCode}
use Rattle.making_code.specs.Items.{WItem}
use Rattle.making_code.specs.StateFrames.{differ, state_frame}
use Rattle.plan_flow.specs.Written.Blocks.{Block}
use Rattle.plan_flow.specs.Written.Finish.{End, Finished, begins_point, comes_to, empty_end, end_items, end_of, finish, finished_items, goto_end, is_empty, no_end}
use Rattle.plan_flow.specs.Written.WrittenFrames.{written_frame}
use Rattle.virtual_state.specs.States.{State}

-- ---- tests

more_than_none : {A : Type 0} (item : A) (items : List A) → (length (item ∷ items) == 0) ≡ false
more_than_none item items = ne_eqb (suc (length items)) 0 (λ same. absurd cc)

pub empty_counted : (count : ℕ) (items : List WItem) → count ≡ length items → (count == 0) ≡ is_empty items
empty_counted count [] is = ap (λ (n : ℕ). n == 0) is
empty_counted count (item ∷ items) is = ap (λ (n : ℕ). n == 0) is ∙ more_than_none item items

pub silent_same : (count : ℕ) (items : List WItem) (end : DraftEnd) (ends : List DraftEnd) → count ≡ length items
    → is_silent count (end ∷ ends) ≡ is_empty (items ++ end_items (end_meant end))
silent_same count [] Nothing ends is = ap (λ (n : ℕ). n == 0) is
silent_same count [] (Goto to) ends is = refl
silent_same count [] Nop ends is = refl
silent_same count (item ∷ items) Nothing ends is = ap (λ (n : ℕ). n == 0) is ∙ more_than_none item items
silent_same count (item ∷ items) (Goto to) ends is = refl
silent_same count (item ∷ items) Nop ends is = refl

-- three tests that are the same
pub same_tests : (one other : Bool) (silent empty : Bool) (rest others : Bool) → one ≡ other → silent ≡ empty → rest ≡ others
    → (if one then true else if silent then rest else false) ≡ (if other then true else if empty then others else false)
same_tests one other silent empty rest others a b c =
    ap (λ (x : Bool). if x then true else if silent then rest else false) a
    ∙ ap (λ (x : Bool). if other then true else if x then rest else false) b
    ∙ ap (λ (x : Bool). if other then true else if empty then x else false) c

pub comes_same : (to : ℕ) (blocks : List Finished) (drafts : List DraftBlock) (ends : List DraftEnd) → AreEnded blocks drafts ends
    → draft_comes_to to drafts ends ≡ comes_to to blocks
comes_same to [] [] [] all = refl
comes_same to [] [] (end ∷ ends) all = elim all [ ]
comes_same to [] (draft ∷ drafts) ends all = elim all [ ]
comes_same to (one ∷ others) [] ends all = elim all [ ]
comes_same to (one ∷ others) (draft ∷ drafts) [] all = elim all [ ]
comes_same to (one ∷ others) (draft ∷ drafts) (end ∷ ends) all =
    same_tests (begins_point to (kind_of draft.of)) (begins_point to one.block.of) (is_silent draft.count (end ∷ ends))
    (is_empty (finished_items one)) (draft_comes_to to drafts ends) (comes_to to others)
    (ap (begins_point to) all.0.block.of)
    (silent_same draft.count one.block.items end ends all.0.block.count ∙ ap (λ (e : End). is_empty (one.block.items ++ end_items e)) all.0.end)
    (comes_same to others drafts ends all.1)

-- ---- frames

pub differ_same : (flat : FlatCode) (block next : Block) (draft after : DraftBlock) → IsDrafted block draft → IsDrafted next after
    → draft_differ flat draft after ≡ differ (written_frame flat block) (written_frame flat next)
differ_same flat block next draft after is next_is =
    ap (λ (at : ℕ). differ (state_frame flat at draft.state) (state_frame flat after.at after.state)) is.at
    ∙ ap (λ (state : State). differ (state_frame flat block.at state) (state_frame flat after.at after.state)) is.state
    ∙ ap (λ (at : ℕ). differ (written_frame flat block) (state_frame flat at after.state)) next_is.at
    ∙ ap (λ (state : State). differ (written_frame flat block) (state_frame flat next.at state)) next_is.state

-- ---- ends

if_meant : (one other : Bool) (draft draft_else : DraftEnd) → one ≡ other
    → end_meant (if one then draft else draft_else) ≡ (if other then end_meant draft else end_meant draft_else)
if_meant true other draft draft_else is = ap (λ (x : Bool). if x then end_meant draft else end_meant draft_else) is
if_meant false other draft draft_else is = ap (λ (x : Bool). if x then end_meant draft else end_meant draft_else) is

pub empty_meant : (flat : FlatCode) (block : Block) (draft : DraftBlock) (behind : List Finished) (drafts : List DraftBlock) (ends : List DraftEnd)
    → IsDrafted block draft → AreEnded behind drafts ends
    → end_meant (draft_empty_end flat draft drafts) ≡ empty_end flat block behind
empty_meant flat block draft [] [] ends is all = refl
empty_meant flat block draft [] (after ∷ drafts) ends is all = elim all [ ]
empty_meant flat block draft (next ∷ others) [] ends is all = elim all [ ]
empty_meant flat block draft (next ∷ others) (after ∷ drafts) [] is all = elim all [ ]
empty_meant flat block draft (next ∷ others) (after ∷ drafts) (end ∷ ends) is all =
    if_meant (draft_differ flat draft after) (differ (written_frame flat block) (written_frame flat next.block)) Nop Nothing
    (differ_same flat block next.block draft after is all.0.block)

-- what a block ends with that goes nowhere else
abbrev if_empty : FlatCode → Block → List Finished → End
if_empty flat block behind = if is_empty block.items then empty_end flat block behind else no_end

stay_meant : (flat : FlatCode) (block : Block) (draft : DraftBlock) (behind : List Finished) (drafts : List DraftBlock) (ends : List DraftEnd)
    → IsDrafted block draft → AreEnded behind drafts ends
    → end_meant (stay_end flat draft drafts) ≡ if_empty flat block behind
stay_meant flat block draft behind drafts ends is all =
    if_meant (draft.count == 0) (is_empty block.items) (draft_empty_end flat draft drafts) Nothing (empty_counted draft.count block.items is.count)
    ∙ ap (λ (e : End). if is_empty block.items then e else no_end) (empty_meant flat block draft behind drafts ends is all)

leave_meant : (flat : FlatCode) (block : Block) (leaves : Option ℕ) (behind : List Finished) (drafts : List DraftBlock) (ends : List DraftEnd)
    (stay : DraftEnd)
    → AreEnded behind drafts ends
    → end_meant stay ≡ if_empty flat block behind
    → end_meant (leave_end leaves drafts ends stay) ≡ end_of flat (record block { leaves = leaves }) behind
leave_meant flat block None behind drafts ends stay all is = is
leave_meant flat block (Some to) behind drafts ends stay all is =
    if_meant (draft_comes_to to drafts ends) (comes_to to behind) stay (Goto to) (comes_same to behind drafts ends all)
    ∙ ap (λ (e : End). if comes_to to behind then e else goto_end to) is

pub end_same : (flat : FlatCode) (block : Block) (draft : DraftBlock) (behind : List Finished) (drafts : List DraftBlock) (ends : List DraftEnd)
    → IsDrafted block draft → AreEnded behind drafts ends
    → end_meant (draft_end flat draft drafts ends) ≡ end_of flat block behind
end_same flat block draft behind drafts ends is all =
    ap (λ (leaves : Option ℕ). end_meant (leave_end leaves drafts ends (stay_end flat draft drafts))) is.leaves
    ∙ leave_meant flat block block.leaves behind drafts ends (stay_end flat draft drafts) all (stay_meant flat block draft behind drafts ends is all)

-- ---- all

pub ends_same : (flat : FlatCode) (blocks : List Block) (drafts : List DraftBlock) → AreDrafted blocks drafts
    → AreEnded (finish flat blocks) drafts (draft_ends flat drafts)
ends_same flat [] [] all = tt
ends_same flat [] (draft ∷ drafts) all = elim all [ ]
ends_same flat (block ∷ blocks) [] all = elim all [ ]
ends_same flat (block ∷ blocks) (draft ∷ drafts) all =
    let others = ends_same flat blocks drafts all.1 in (
      record { block = all.0; end = end_same flat block draft (finish flat blocks) drafts (draft_ends flat drafts) all.0 others },
      others,
    )

-- there are as many
pub as_many_ends : (flat : FlatCode) (drafts : List DraftBlock) → length (draft_ends flat drafts) ≡ length drafts
as_many_ends flat [] = refl
as_many_ends flat (draft ∷ drafts) = ap suc (as_many_ends flat drafts)

-- ---- loops

pub comes_on : (to : ℕ) (blocks : List DraftBlock) (ends : List DraftEnd) (at : ℕ) (block : DraftBlock)
    → slice_get blocks at ≡ Some block
    → begins_point to (kind_of block.of) ≡ false
    → is_silent block.count (drop at ends) ≡ true
    → draft_comes_to to (drop (at + 1) blocks) (drop (at + 1) ends) ≡ draft_comes_to to (drop at blocks) (drop at ends)
comes_on to blocks ends at block is apart silent =
    let rest = drop (at + 1) blocks in
    sym (ap (λ (list : List DraftBlock). draft_comes_to to list (drop at ends)) (drop_item blocks at block is)
    ∙ ap (λ (test : Bool). if test then true else if is_silent block.count (drop at ends) then draft_comes_to to rest (drop 1 (drop at ends)) else
    false) apart
    ∙ ap (λ (test : Bool). if test then draft_comes_to to rest (drop 1 (drop at ends)) else false) silent
    ∙ ap (draft_comes_to to rest) (drop-drop 1 at ends))

some_at : {A : Type 0} (items : List A) (at : ℕ) → at < length items → (item : A) × (slice_get items at ≡ Some item)
some_at items at within =
    elim (slice_get_cases items at).1 [
      | inl here ↦ (here.0, here.2)
      | inr past ↦ absurd (omega (arith, past.0, within))
    ]

pub ends_more : (flat : FlatCode) (blocks : List DraftBlock) (ends : List DraftEnd) (at number : ℕ) (end : DraftEnd)
    → at ≡ number + 1
    → at ≤ length blocks
    → length ends ≡ length blocks
    → drop at ends ≡ draft_ends flat (drop at blocks)
    → ((block : DraftBlock) → slice_get blocks number ≡ Some block → end ≡ draft_end flat block (drop (number + 1) blocks) (drop (number + 1) ends))
    → drop number (slice_set ends number end) ≡ draft_ends flat (drop number blocks)
ends_more flat blocks ends at number end next within as_many so_far is =
    let one = some_at blocks number (omega (arith, next, within)) in
    let block = one.0 in
    let rest = drop (number + 1) blocks in
    let behind : drop (number + 1) ends ≡ draft_ends flat rest =
    ap (λ (n : ℕ). drop n ends) (sym next) ∙ so_far ∙ ap (λ (n : ℕ). draft_ends flat (drop n blocks)) next in
    drop-set_at ends number number end refl (omega (arith, next, within, as_many))
    ∙ ap (λ (first : DraftEnd). first ∷ drop (number + 1) ends) (is block one.1)
    ∙ ap (λ (ended : List DraftEnd). draft_end flat block rest ended ∷ ended) behind
    ∙ ap (draft_ends flat) (sym (drop_item blocks number block one.1))
