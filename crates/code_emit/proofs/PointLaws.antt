-- The blocks of a point, put together.
use Rattle.std.proofs.Common.{◌≡◌, ◌++◌, ◌-◌, ◌==◌, ℕ, true, false, List, [], ◌∷◌, length, Option, Some, None, option_map, refl, sym, ap, subst, ◌∙◌}
use Rattle.std.proofs.lemmas.Bool.{true≢false}
use Rattle.std.proofs.lemmas.Option.{none-some, same_Some}
use Rattle.class_tree.specs.Headers.{Name, headers_of}
use Rattle.code_drafts.specs.Drafts.{kind_of}
use Rattle.code_drafts.specs.Emits.{Emits, Kept, Writing}
use Rattle.code_drafts.specs.Laws.LedRoutes.{left_is_written}
use Rattle.code_drafts.specs.Writable.{IsLeftAt, IsRouteAt, scope}
use Rattle.code_drafts.specs.declared.draft.BlockKind.{BlockKind}
use Rattle.code_drafts.specs.declared.draft.BlockKind.TheVariants as kinds
use Rattle.code_drafts.specs.declared.draft.DraftBlock.{DraftBlock}
use Rattle.code_emit.proofs.DraftedLaws.{block_written, first_full, items_one, then_full, writes_both, writes_none}
use Rattle.code_emit.proofs.EdgeLaws.{no_sites}
use Rattle.code_emit.specs.Inner.DraftedBlocks.{Writes}
use Rattle.code_emit.specs.Inner.MadeBlocks.{IsFullBlock, WritesMade}
use Rattle.code_emit.specs.Inner.MadeItems.{EmitsMaking, IsFullMaking}
use Rattle.code_emit.specs.Inner.PointBlocks.{own_blocks}
use Rattle.code_emit.specs.Inner.ReachedPoints.{AreBlocksFull, AreFullAt, BlocksOf, EmitsAt, IsReached, WritesAt, own_items}
use Rattle.code_emit.specs.declared.drafts.Drafts.{Drafts}
use Rattle.flow_code.specs.FlatCode.{point_at}
use Rattle.flow_code.specs.declared.point.Point.{Point}
use Rattle.flow_code.specs.declared.reason.Reason.{Reason}
use Rattle.making_code.specs.Items.{WItem}
use Rattle.materialise.specs.Growing.{IsFull}
use Rattle.member_link.specs.Machine.Links.{AreLinksOf}
use Rattle.member_link.specs.Machine.Programs.{Links}
use Rattle.plan_flow.specs.PlanScope.{PlanScope}
use Rattle.plan_flow.specs.Plans.{PlannedPoint, planned}
use Rattle.plan_flow.specs.Written.Blocks.{Block, BlockOf, instruction_block, leaves_to, make_block, making}
use Rattle.plan_flow.specs.Written.Routes.{Route}
use Rattle.plan_flow.specs.Written.WrittenConstants.{code_needs}
use Rattle.pool_edit.specs.Edits.{Edit}
use Rattle.virtual_state.specs.Sites.{has}
use Rattle.virtual_state.specs.States.{State}
use Rattle.virtual_state.specs.Without.{without}

-- ---- the state that is left

-- a point that is reached has both
pub left_found : (w : Writing) (at : ℕ) (state rest : State) (made : List ℕ)
    → option_map (λ (point : PlannedPoint). point.state) (planned w.plan at) ≡ Some state
    → option_map (λ (point : PlannedPoint). point.made) (planned w.plan at) ≡ Some made
    → rest ≡ without state (has made)
    → IsLeftAt w at rest
left_found w at state rest made is_state is_made is = by (planned w.plan at) refl is_state is_made where
  by : (found : Option PlannedPoint) → planned w.plan at ≡ found
      → option_map (λ (point : PlannedPoint). point.state) found ≡ Some state
      → option_map (λ (point : PlannedPoint). point.made) found ≡ Some made
      → IsLeftAt w at rest
  by None reached none none_made = absurd (none-some state none)
  by (Some point) reached same same_made = record {
    point = point;
    reached = reached;
    left =
        is
        ∙ ap (λ (s : State). without s (has made)) (sym (same_Some point.state state same))
        ∙ ap (λ (sites : List ℕ). without point.state (has sites)) (sym (same_Some point.made made same_made));
  }

pub none_planned : {A : Type 0} (of : PlannedPoint → A) (found : Option PlannedPoint) → None ≡ option_map of found → found ≡ None
none_planned of None none = refl
none_planned of (Some point) none = absurd (none-some (of point) none)

-- ---- nothing is written

pub none_written : (w : Writing) (at : ℕ) (blocks : BlocksOf) (edit : Edit) (drafts : Drafts)
    → ((links : Links) (constructor : Name → List ℕ) (point : Point) (route : Route)
    → IsReached w links constructor at point route
    → blocks (scope w links) at point route ≡ [])
    → WritesAt w at blocks edit edit drafts drafts
none_written w at blocks edit drafts none = record {
  each = λ links constructor point route reached.
      subst (λ (list : List Block). Writes (scope w links) constructor edit list edit drafts drafts) (sym (none links constructor point route reached))
      (writes_none (scope w links) constructor edit drafts);
}

pub never_written : (w : Writing) (at : ℕ) (blocks : BlocksOf) (edit : Edit) (drafts : Drafts)
    → planned w.plan at ≡ None
    → WritesAt w at blocks edit edit drafts drafts
never_written w at blocks edit drafts none = record {
  each = λ links constructor point route reached.
      absurd (none-some reached.here.point (sym none ∙ reached.here.reached));
}

-- ---- parts

module _ (w : Writing) (at : ℕ) (front back : BlocksOf) where
  abbrev pub both_blocks : BlocksOf
  both_blocks s n point route = front s n point route ++ back s n point route

  pub both_written : (first middle last : Edit) (before between after : Drafts)
      → WritesAt w at front first middle before between
      → WritesAt w at back middle last between after
      → WritesAt w at both_blocks first last before after
  both_written first middle last before between after one other = record {
    each = λ links constructor point route reached.
        writes_both (scope w links) constructor first middle last (front (scope w links) at point route) (back (scope w links) at point route) before between after
        (one.each links constructor point route reached) (other.each links constructor point route reached);
  }

  pub first_too_full : (edit : Edit) (reason : Reason) → AreBlocksFull w at front edit reason → AreBlocksFull w at both_blocks edit reason
  first_too_full edit reason full = record {
    each = λ links constructor point route reached.
        first_full (scope w links) constructor edit (front (scope w links) at point route) (back (scope w links) at point route) reason
        (full.each links constructor point route reached);
  }

  pub then_too_full : (first middle : Edit) (before between : Drafts) (reason : Reason)
      → WritesAt w at front first middle before between
      → AreBlocksFull w at back middle reason
      → AreBlocksFull w at both_blocks first reason
  then_too_full first middle before between reason one full = record {
    each = λ links constructor point route reached.
        then_full (scope w links) constructor first middle (front (scope w links) at point route) (back (scope w links) at point route) before between reason
        (one.each links constructor point route reached) (full.each links constructor point route reached);
  }

-- ---- a block as it is noted

abbrev pub noted : BlockKind → ℕ → State → ℕ → Option ℕ → DraftBlock
noted of at state count leaves =
    record { of = of; at = at; state = state; count = count; leaves = leaves }

emits_to : (s : PlanScope) (constructor : Name → List ℕ) (old new : Edit) (items : List WItem) (before middle after : Kept)
    → Emits s constructor old items new before middle
    → after ≡ middle
    → Emits s constructor old items new before after
emits_to s constructor old new items before middle after emits same =
    subst (λ (kept : Kept). Emits s constructor old items new before kept) (sym same) emits

-- its items were written before it was noted
module _ (w : Writing) (of : BlockKind) (at : ℕ) (state copy : State) (first : ℕ) (leaves : Option ℕ) (old new : Edit) (before after : Drafts) (middle : Kept)
    (is_copy : copy ≡ state)
    (is_first : first ≡ length before.kept.items)
    (kept : after.kept ≡ middle)
    (pushed : after.blocks.items ≡ before.blocks.items ++ noted of at copy (length middle.items - first) leaves ∷ []) where
  count_is : (number : ℕ) → number ≡ length after.kept.items - length before.kept.items → length middle.items - first ≡ number
  count_is number is =
      ap (λ (n : ℕ). length middle.items - n) is_first
      ∙ ap (λ (k : Kept). length k.items - length before.kept.items) (sym kept)
      ∙ sym is

  pub make_block_written : (made : List ℕ)
      → (length made == 0) ≡ false
      → EmitsMaking w at state made old new before.kept middle
      → WritesMade w (kind_of of) at state made leaves old new before after
  make_block_written [] none emits = absurd (true≢false none)
  make_block_written (site ∷ sites) some emits = record {
    each = λ links constructor order meant is_order.
        let s = scope w links in
        let block : Block = record { of = kind_of of; at = at; state = state; items = making s at state (site ∷ sites) order; leaves = leaves } in
        block_written s constructor old new block (noted of at copy (length middle.items - first) leaves) before after
        (emits_to s constructor old new block.items before.kept middle after.kept (emits.each links constructor order meant is_order) kept)
        (λ many. record { of = refl; at = refl; state = is_copy; count = count_is (length block.items) many; leaves = refl }) pushed;
  }

pub own_written : (w : Writing) (at : ℕ) (state copy : State) (first : ℕ) (leaves : Option ℕ) (old new : Edit) (before after : Drafts) (middle : Kept)
    → copy ≡ state
    → first ≡ length before.kept.items
    → after.kept ≡ middle
    → after.blocks.items ≡ before.blocks.items ++ noted (kinds.OfPoint at) at copy (length middle.items - first) leaves ∷ []
    → IsLeftAt w at state
    → ((links : Links) (point : Point) (route : Route) → AreLinksOf (headers_of w.classes) links → point_at w.flat at ≡ Some point → IsRouteAt w links at route
    → leaves ≡ leaves_to point route)
    → EmitsAt w at own_items old new before.kept middle
    → WritesAt w at own_blocks old new before after
own_written w at state copy first leaves old new before after middle is_copy is_first kept pushed left leads emits = record {
  each = λ links constructor point route reached.
      let s = scope w links in
      let block = instruction_block s at point route in
      block_written s constructor old new block (noted (kinds.OfPoint at) at copy (length middle.items - first) leaves) before after
      (emits_to s constructor old new block.items before.kept middle after.kept (emits.each links constructor point route reached) kept)
      (λ many. record {
        of = refl;
        at = refl;
        state = is_copy ∙ left_is_written w links at state route left reached.here;
        count = count_is w (kinds.OfPoint at) at state copy first leaves old new before after middle is_copy is_first kept pushed (length block.items) many;
        leaves = leads links point route reached.meant.is_links reached.there reached.here;
      }) pushed;
}

-- no block, where no object is made
pub no_make_block : (w : Writing) (of : BlockOf) (at : ℕ) (state : State) (made : List ℕ) (leaves : Option ℕ) (edit : Edit) (drafts : Drafts)
    → (length made == 0) ≡ true
    → WritesMade w of at state made leaves edit edit drafts drafts
no_make_block w of at state made leaves edit drafts none = record {
  each = λ links constructor order meant is_order.
      subst (λ (blocks : List Block). Writes (scope w links) constructor edit blocks edit drafts drafts)
      (sym (ap (λ (sites : List ℕ). make_block (scope w links) of at state sites order leaves) (no_sites made none)))
      (writes_none (scope w links) constructor edit drafts);
}

pub make_block_full : (w : Writing) (of : BlockOf) (at : ℕ) (state : State) (made : List ℕ) (leaves : Option ℕ) (edit : Edit) (reason : Reason)
    → (length made == 0) ≡ false
    → IsFullMaking w at state made edit reason
    → IsFullBlock w of at state made leaves edit reason
make_block_full w of at state [] leaves edit reason none full = absurd (true≢false none)
make_block_full w of at state (site ∷ sites) leaves edit reason some full = record {
  each = λ links constructor order meant is_order.
      let s = scope w links in
      let block : Block = record { of = of; at = at; state = state; items = making s at state (site ∷ sites) order; leaves = leaves } in
      subst (λ (items : List WItem). IsFull edit (code_needs s constructor items) reason) (sym (items_one block))
      (full.each links constructor order meant is_order);
}

pub own_full : (w : Writing) (at : ℕ) (edit : Edit) (reason : Reason) → AreFullAt w at own_items edit reason → AreBlocksFull w at own_blocks edit reason
own_full w at edit reason full = record {
  each = λ links constructor point route reached.
      let s = scope w links in
      subst (λ (items : List WItem). IsFull edit (code_needs s constructor items) reason) (sym (items_one (instruction_block s at point route)))
      (full.each links constructor point route reached);
}
