-- Blocks that were written are emitted code once their items have numbers.
use Rattle.std.proofs.Common.{◌≡◌, ◌≤◌, ℕ, Bool, true, false, List, [], ◌∷◌, ◌++◌, length, map, Option, Some, None, refl, sym, ap, subst, ◌∙◌, append-nil, inl, inr, arith}
use Rattle.std.proofs.lemmas.Bool.{true≢false}
use Rattle.std.proofs.lemmas.List.{length-append}
use Rattle.class_model.specs.Pool.{Constants}
use Rattle.class_tree.specs.Headers.{Name, headers_of}
use Rattle.code_drafts.specs.CodeOfPlans.{AreItemsEmitted}
use Rattle.code_drafts.specs.Counts.{AreCounted, AreItems, AreTooMany, table_entries}
use Rattle.code_drafts.specs.Drafts.{AreDrafted, Keeps, all_items, keeps_all, keeps_none, meaning, meant}
use Rattle.code_drafts.specs.Emits.{Writing}
use Rattle.code_drafts.specs.Laws.EmittedParts.{needs_both}
use Rattle.code_drafts.specs.Laws.KeptCounts.{entries_both, few_kept}
use Rattle.code_drafts.specs.Writable.{IsWritable, scope}
use Rattle.code_drafts.specs.declared.draft.DraftItem.{DraftItem}
use Rattle.code_emit.specs.EmittedCode.{CanEmit, IsEmittedFor, IsKeptAs, IsKeptFor, IsMeantBy, StartsBlocks, emitted_items, past_pool, too_many}
use Rattle.code_emit.specs.Inner.DraftedBlocks.{AreKept}
use Rattle.code_emit.specs.Inner.NumberedBlocks.{ArePlaced, AreTooLong}
use Rattle.code_emit.specs.Inner.PassBlocks.{AreAllFull, WritesAll, all_blocks}
use Rattle.code_emit.specs.declared.drafts.Drafts.{Drafts}
use Rattle.code_layout.specs.Emitting.{IsEmitted}
use Rattle.code_layout.specs.declared.emitted.EmitItem.{EmitItem}
use Rattle.flow_code.specs.FlatCode.{FlatCode}
use Rattle.flow_code.specs.declared.reason.Reason.{Reason}
use Rattle.flow_code.specs.declared.reason.Reason.TheVariants as reasons
use Rattle.making_code.specs.Constants.{Need, grow}
use Rattle.making_code.specs.Items.{WItem}
use Rattle.materialise.specs.Growing.{Grows}
use Rattle.materialise.specs.Laws.DescribedConstructors.{descriptors, descriptors_describe}
use Rattle.member_link.specs.Machine.Links.{AreLinksOf}
use Rattle.member_link.specs.Machine.Programs.{Links}
use Rattle.plan_flow.specs.Laws.SomeRouting.{some_routing}
use Rattle.plan_flow.specs.PlanScope.{PlanScope}
use Rattle.plan_flow.specs.Written.Blocks.{Block, blocks_of}
use Rattle.plan_flow.specs.Written.Finish.{End, end_items, end_of, finish, goto_end, no_end, nop_end}
use Rattle.plan_flow.specs.Written.Routes.{Routes}
use Rattle.plan_flow.specs.Written.WrittenCode.{short, written_items}
use Rattle.plan_flow.specs.Written.WrittenConstants.{code_needs}
use Rattle.pool_edit.specs.Edits.{Edit, grown}
use Rattle.written_frames.specs.declared.starts.BlockStart.{BlockStart}

-- ---- what blocks end with needs no constant, and has no handler

end_needs : (s : PlanScope) (constructor : Name → List ℕ) (end : End) → code_needs s constructor (end_items end) ≡ []
end_needs s constructor no_end = refl
end_needs s constructor (goto_end to) = refl
end_needs s constructor nop_end = refl

end_entries : (end : End) → table_entries (end_items end) ≡ 0
end_entries no_end = refl
end_entries (goto_end to) = refl
end_entries nop_end = refl

abbrev written_of : FlatCode → List Block → List WItem
written_of flat blocks = written_items short (finish flat blocks)

module _ (flat : FlatCode) (block : Block) (blocks : List Block) where
  abbrev ends : End
  ends = end_of flat block (finish flat blocks)

  written_is : written_of flat (block ∷ blocks) ≡ (block.items ++ end_items ends) ++ written_of flat blocks
  written_is = refl

pub needs_same : (s : PlanScope) (constructor : Name → List ℕ) (blocks : List Block)
    → code_needs s constructor (written_of s.flat blocks) ≡ code_needs s constructor (all_items blocks)
needs_same s constructor [] = refl
needs_same s constructor (block ∷ blocks) =
    let end = ends s.flat block blocks in
    needs_both s constructor (block.items ++ end_items end) (written_of s.flat blocks)
    ∙ ap (λ (needs : List Need). needs ++ code_needs s constructor (written_of s.flat blocks))
    (needs_both s constructor block.items (end_items end)
    ∙ ap (λ (needs : List Need). code_needs s constructor block.items ++ needs) (end_needs s constructor end)
    ∙ append-nil (code_needs s constructor block.items))
    ∙ ap (λ (needs : List Need). code_needs s constructor block.items ++ needs) (needs_same s constructor blocks)
    ∙ sym (needs_both s constructor block.items (all_items blocks))

pub entries_same : (flat : FlatCode) (blocks : List Block) → table_entries (written_of flat blocks) ≡ table_entries (all_items blocks)
entries_same flat [] = refl
entries_same flat (block ∷ blocks) =
    let end = ends flat block blocks in
    let all = entries_both (block.items ++ end_items end) (written_of flat blocks) in
    let front = entries_both block.items (end_items end) in
    let none = end_entries end in
    let rest = entries_same flat blocks in
    let items = entries_both block.items (all_items blocks) in
    omega (arith, all, front, none, rest, items)

longer : (flat : FlatCode) (blocks : List Block) → length (all_items blocks) ≤ length (written_of flat blocks)
longer flat [] = omega arith
longer flat (block ∷ blocks) =
    let end = ends flat block blocks in
    let all = length-append (block.items ++ end_items end) (written_of flat blocks) in
    let front = length-append block.items (end_items end) in
    let rest = longer flat blocks in
    let items = length-append block.items (all_items blocks) in
    omega (arith, all, front, rest, items)

many_written : (flat : FlatCode) (blocks : List Block) → AreTooMany (all_items blocks) → AreTooMany (written_of flat blocks)
many_written flat blocks many =
    let more = longer flat blocks in
    let entries = entries_same flat blocks in
    elim many [ inl items ↦ inl (omega (arith, more, items)) | inr handlers ↦ inr (omega (arith, entries, handlers)) ]

few_written : (flat : FlatCode) (blocks : List Block) → ¬ AreTooMany (all_items blocks) → length (written_of flat blocks) ≤ 65535 → ¬ AreTooMany (written_of flat blocks)
few_written flat blocks few most many =
    let entries = entries_same flat blocks in
    elim many [ inl items ↦ absurd (omega (arith, most, items)) | inr handlers ↦ few (inr (omega (arith, entries, handlers))) ]

-- ---- the blocks of a plan that were written

-- what they are kept as, whatever is meant
pub record AreAllKept (w : Writing) (old new : Edit) (drafts : Drafts) : Type 0 where
  pub each :
      (links : Links) (constructor : Name → List ℕ) (routes : Routes)
      → IsMeantBy w.classes w.flat w.plan links constructor routes
      → Grows old (code_needs (scope w links) constructor (all_items (blocks_of (scope w links) routes))) new
      × AreKept (scope w links) constructor new (blocks_of (scope w links) routes) drafts

pub all_kept : (w : Writing) (old new : Edit) (before after : Drafts)
    → ((s : PlanScope) (constructor : Name → List ℕ) (edit : Edit) → AreKept s constructor edit [] before)
    → WritesAll w all_blocks old new before after
    → AreAllKept w old new after
all_kept w old new before after none writes = record {
  each = λ links constructor routes is.
      let s = scope w links in
      let all = writes.each links constructor routes (record { is_links = is.is_links; describes = is.describes }) is.routed in
      (all.grows, all.keeps [] (none s constructor old));
}

pub kept_full : (w : Writing) (edit : Edit) (reason : Reason) → AreAllFull w all_blocks edit reason → IsKeptAs w.classes w.flat w.plan edit reason
kept_full w edit reason full = record {
  each = λ links constructor routes is.
      let s = scope w links in
      let past = full.each links constructor routes (record { is_links = is.is_links; describes = is.describes }) is.routed in
      subst (IsKeptFor s constructor routes edit) (sym past.is)
      (past_pool (subst (λ (needs : List Need). grow edit.limit (grown edit) needs ≡ None) (sym (needs_same s constructor (blocks_of s routes))) past.past));
}

-- ---- items that are kept

module _ (w : Writing) (old new : Edit) (drafts : Drafts) (all : AreAllKept w old new drafts) where
  -- they are too many
  kept_long : (links : Links) (constructor : Name → List ℕ) (routes : Routes) → IsMeantBy w.classes w.flat w.plan links constructor routes
      → AreTooMany (emitted_items (scope w links) routes)
      → IsKeptFor (scope w links) constructor routes old reasons.Long
  kept_long links constructor routes is many =
      let s = scope w links in
      too_many (grown new)
      (subst (λ (needs : List Need). grow old.limit (grown old) needs ≡ Some (grown new)) (sym (needs_same s constructor (blocks_of s routes)))
      (all.each links constructor routes is).0.grown_by) many

  pub none_kept : (found : Option (List DraftItem))
      → AreItems drafts.kept.is_long drafts.kept.items found
      → found ≡ None
      → IsKeptAs w.classes w.flat w.plan old reasons.Long
  none_kept found are none = record {
    each = λ links constructor routes is.
        let s = scope w links in
        kept_long links constructor routes is
        (many_written s.flat (blocks_of s routes)
        (by s constructor routes drafts.kept.is_long refl ((all.each links constructor routes is).1.items [])));
  } where
    by : (s : PlanScope) (constructor : Name → List ℕ) (routes : Routes) (long : Bool) → drafts.kept.is_long ≡ long
        → Keeps s constructor (grown new ++ []) (all_items (blocks_of s routes)) drafts.kept.is_long drafts.kept.items
        → AreTooMany (all_items (blocks_of s routes))
    by s constructor routes long is (keeps_none is_long many) = many
    by s constructor routes long is (keeps_all is_short same) = absurd (some_none (sym (are.all is_short) ∙ none)) where
      some_none : Some drafts.kept.items ≡ None → ⊥
      some_none e = absurd cc

  -- all of them
  pub record AreAllThere (links : Links) (constructor : Name → List ℕ) (routes : Routes) (items : List DraftItem) : Type 0 where
    pub few : ¬ AreTooMany (all_items (blocks_of (scope w links) routes))
    pub drafted : AreDrafted (blocks_of (scope w links) routes) drafts.blocks.items
    pub means : (more : Constants) → map meaning items ≡ map (meant (scope w links) constructor (grown new ++ more)) (all_items (blocks_of (scope w links) routes))

  there : (links : Links) (constructor : Name → List ℕ) (routes : Routes) (found : Option (List DraftItem)) (items : List DraftItem)
      → IsMeantBy w.classes w.flat w.plan links constructor routes
      → AreItems drafts.kept.is_long drafts.kept.items found
      → found ≡ Some items
      → AreAllThere links constructor routes items
  there links constructor routes found items is are some = by drafts.kept.is_long refl where
    s : PlanScope
    s = scope w links

    kept : AreKept s constructor new (blocks_of s routes) drafts
    kept = (all.each links constructor routes is).1

    by : (long : Bool) → drafts.kept.is_long ≡ long → AreAllThere links constructor routes items
    by true is_long = absurd (none_some (sym (are.none is_long) ∙ some)) where
      none_some : None ≡ Some items → ⊥
      none_some e = absurd cc
    by false is_short = record { few = few_all; drafted = kept.drafted few_all; means = means } where
      same_items : drafts.kept.items ≡ items
      same_items = cc_items (sym (are.all is_short) ∙ some) where
        cc_items : Some drafts.kept.items ≡ Some items → drafts.kept.items ≡ items
        cc_items e = cc

      of_kept : (pool : Constants) → Keeps s constructor pool (all_items (blocks_of s routes)) drafts.kept.is_long drafts.kept.items
          → map meaning drafts.kept.items ≡ map (meant s constructor pool) (all_items (blocks_of s routes))
      of_kept pool (keeps_all short_is same) = same
      of_kept pool (keeps_none long_is many) = absurd (true≢false (sym long_is ∙ is_short))

      means : (more : Constants) → map meaning items ≡ map (meant s constructor (grown new ++ more)) (all_items (blocks_of s routes))
      means = λ more. ap (map meaning) (sym same_items) ∙ of_kept (grown new ++ more) (kept.items more)

      few_all : ¬ AreTooMany (all_items (blocks_of s routes))
      few_all = few_kept s constructor (grown new ++ []) (all_items (blocks_of s routes)) drafts.kept.items are.few.entries
          (subst (λ (long : Bool). AreCounted long drafts.kept.items are.few.entries) is_short are.few.counted) (of_kept (grown new ++ []) (kept.items []))

  module _ (found : Option (List DraftItem)) (items : List DraftItem) (are : AreItems drafts.kept.is_long drafts.kept.items found) (some : found ≡ Some items) where
    -- once they have numbers
    pub long_kept : (reason : Reason)
        → ((s : PlanScope) (constructor : Name → List ℕ) (pool : Constants) (blocks : List Block)
        → s.flat ≡ w.flat
        → AreDrafted blocks drafts.blocks.items
        → map meaning items ≡ map (meant s constructor pool) (all_items blocks)
        → AreTooLong s blocks reason)
        → IsKeptAs w.classes w.flat w.plan old reason
    long_kept reason long = record {
      each = λ links constructor routes is.
          let s = scope w links in
          let whole = there links constructor routes found items is are some in
          let past = long s constructor (grown new ++ []) (blocks_of s routes) refl whole.drafted (whole.means []) in
          subst (IsKeptFor s constructor routes old) (sym past.is) (kept_long links constructor routes is (inl past.many));
    }

    module _ (placed : List EmitItem) (starts : List BlockStart)
        (numbered : (s : PlanScope) (constructor : Name → List ℕ) (pool : Constants) (blocks : List Block)
        → s.flat ≡ w.flat
        → AreDrafted blocks drafts.blocks.items
        → map meaning items ≡ map (meant s constructor pool) (all_items blocks)
        → ArePlaced s constructor pool blocks placed starts) where
      placed_for : (links : Links) (constructor : Name → List ℕ) (routes : Routes) → IsMeantBy w.classes w.flat w.plan links constructor routes
          → ArePlaced (scope w links) constructor (grown new) (blocks_of (scope w links) routes) placed starts
      placed_for links constructor routes is =
          let s = scope w links in
          let whole = there links constructor routes found items is are some in
          numbered s constructor (grown new) (blocks_of s routes) refl whole.drafted
          (subst (λ (pool : Constants). map meaning items ≡ map (meant s constructor pool) (all_items (blocks_of s routes))) (append-nil (grown new)) (whole.means []))

      pub emitted_for : IsEmittedFor w.classes w.flat w.plan old new placed
      emitted_for = record {
        each = λ links constructor routes is.
            let s = scope w links in
            let whole = there links constructor routes found items is are some in
            let numbers = placed_for links constructor routes is in record {
              grows = subst (λ (needs : List Need). Grows old needs new) (sym (needs_same s constructor (blocks_of s routes))) (all.each links constructor routes is).0;
              items = numbers.are;
              few = few_written s.flat (blocks_of s routes) whole.few numbers.few;
            };
      }

      pub starts_for : StartsBlocks w.classes w.flat w.plan starts
      starts_for = record { each = λ links constructor routes is. (placed_for links constructor routes is).start }

      -- so they are emitted code, since something is meant
      pub are_emitted : AreItemsEmitted
          → CanEmit w.classes w.flat w.plan
          → (links : Links)
          → AreLinksOf (headers_of w.classes) links
          → IsEmitted placed
      are_emitted law can links is_links =
          let s = scope w links in
          let valid = can.valid links is_links in
          let routes = some_routing s w.plan valid in
          let constructor = descriptors w.classes in
          let is : IsMeantBy w.classes w.flat w.plan links constructor routes.0 =
          record { is_links = is_links; describes = descriptors_describe w.classes; routed = routes.1 } in
          law s constructor (grown new) w.plan routes.0 placed can.formed valid routes.1 (placed_for links constructor routes.0 is).are

-- ---- what is asked

pub writable : (w : Writing) → CanEmit w.classes w.flat w.plan → IsWritable w
writable w can = record {
  few_units = can.few_units;
  narrow = can.narrow;
  flows = can.flows;
  constructors = can.constructors;
  valid = can.valid;
}
