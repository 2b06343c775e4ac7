-- Blocks that are written, one behind the other, with the constants that they need.
use Rattle.std.proofs.Common.{◌≡◌, ◌++◌, ◌-◌, ℕ, List, [], ◌∷◌, length, refl, sym, ap, subst, ◌∙◌, append_assoc, append-nil, arith}
use Rattle.std.proofs.lemmas.Grind.{flat_map-append}
use Rattle.std.proofs.lemmas.List.{length-append}
use Rattle.class_tree.specs.Headers.{Name}
use Rattle.code_drafts.specs.Counts.{AreTooMany}
use Rattle.code_drafts.specs.Drafts.{AreDrafted, IsDrafted, Keeps, KeepsIn, all_items, keeps_all, keeps_none}
use Rattle.code_drafts.specs.Emits.{Emits}
use Rattle.code_drafts.specs.Laws.EmittedParts.{needs_both}
use Rattle.materialise.specs.Laws.GrownEdits.{full_first, full_then, grows_both, grows_none}
use Rattle.code_drafts.specs.Laws.KeptCounts.{as_long, too_many_stay}
use Rattle.code_drafts.specs.declared.draft.DraftBlock.{DraftBlock}
use Rattle.code_emit.specs.Inner.DraftedBlocks.{AreKept, Writes, WritesTo}
use Rattle.code_emit.specs.declared.drafts.Drafts.{Drafts}
use Rattle.flow_code.specs.declared.reason.Reason.{Reason}
use Rattle.making_code.specs.Constants.{Need}
use Rattle.making_code.specs.Items.{WItem}
use Rattle.materialise.specs.Growing.{Grows, IsFull}
use Rattle.plan_flow.specs.PlanScope.{PlanScope}
use Rattle.plan_flow.specs.Written.Blocks.{Block}
use Rattle.plan_flow.specs.Written.WrittenConstants.{code_needs}
use Rattle.pool_edit.specs.Edits.{Edit, grown}

pub items_both : (front back : List Block) → all_items (front ++ back) ≡ all_items front ++ all_items back
items_both front back = flat_map-append (λ (block : Block). block.items) front back

pub items_one : (block : Block) → all_items (block ∷ []) ≡ block.items
items_one block = append-nil block.items

drafted_both : (front back : List Block) (drafts others : List DraftBlock)
    → AreDrafted front drafts
    → AreDrafted back others
    → AreDrafted (front ++ back) (drafts ++ others)
drafted_both [] back [] others one other = other
drafted_both [] back (draft ∷ drafts) others one other = absurd one
drafted_both (block ∷ front) back [] others one other = absurd one
drafted_both (block ∷ front) back (draft ∷ drafts) others one other = (one.0, drafted_both front back drafts others one.1 other)

-- items that are not too many are all kept
pub as_many_kept : (s : PlanScope) (constructor : Name → List ℕ) (edit : Edit) (blocks : List Block) (drafts : Drafts)
    → AreKept s constructor edit blocks drafts
    → ¬ AreTooMany (all_items blocks)
    → length drafts.kept.items ≡ length (all_items blocks)
as_many_kept s constructor edit blocks drafts kept few = by (kept.items []) where
  by : {pool : _} → Keeps s constructor pool (all_items blocks) drafts.kept.is_long drafts.kept.items
      → length drafts.kept.items ≡ length (all_items blocks)
  by {pool} (keeps_all is same) = as_long s constructor pool (all_items blocks) drafts.kept.items same
  by {pool} (keeps_none is many) = absurd (few many)

module _ (s : PlanScope) (constructor : Name → List ℕ) where
  -- ---- needs

  needs_two : (front back : List Block)
      → code_needs s constructor (all_items (front ++ back)) ≡ code_needs s constructor (all_items front) ++ code_needs s constructor (all_items back)
  needs_two front back =
      ap (code_needs s constructor) (items_both front back) ∙ needs_both s constructor (all_items front) (all_items back)

  pub first_full : (edit : Edit) (front back : List Block) (reason : Reason)
      → IsFull edit (code_needs s constructor (all_items front)) reason
      → IsFull edit (code_needs s constructor (all_items (front ++ back))) reason
  first_full edit front back reason full =
      subst (λ (needs : List Need). IsFull edit needs reason) (sym (needs_two front back))
      (full_first edit (code_needs s constructor (all_items front)) (code_needs s constructor (all_items back)) reason full)

  pub then_full : (first middle : Edit) (front back : List Block) (before between : Drafts) (reason : Reason)
      → Writes s constructor first front middle before between
      → IsFull middle (code_needs s constructor (all_items back)) reason
      → IsFull first (code_needs s constructor (all_items (front ++ back))) reason
  then_full first middle front back before between reason one full =
      subst (λ (needs : List Need). IsFull first needs reason) (sym (needs_two front back))
      (full_then first middle (code_needs s constructor (all_items front)) (code_needs s constructor (all_items back)) reason one.grows full)

  -- ---- blocks behind blocks

  pub writes_none : (edit : Edit) (drafts : Drafts) → Writes s constructor edit [] edit drafts drafts
  writes_none edit drafts = record {
    grows = grows_none edit;
    keeps = λ front kept. subst (λ (blocks : List Block). AreKept s constructor edit blocks drafts) (sym (append-nil front)) kept;
  }

  pub writes_both : (first middle last : Edit) (front back : List Block) (before between after : Drafts)
      → Writes s constructor first front middle before between
      → Writes s constructor middle back last between after
      → Writes s constructor first (front ++ back) last before after
  writes_both first middle last front back before between after one other = record {
    grows =
        subst (λ (needs : List Need). Grows first needs last) (sym (needs_two front back))
        (grows_both first middle last (code_needs s constructor (all_items front)) (code_needs s constructor (all_items back)) one.grows other.grows);
    keeps = λ blocks kept.
        subst (λ (all : List Block). AreKept s constructor last all after) (append_assoc blocks front back)
        (other.keeps (blocks ++ front) (one.keeps blocks kept));
  }

  -- ---- one block

  -- its items were written, and then it was noted
  pub block_written : (old new : Edit) (block : Block) (draft : DraftBlock) (before after : Drafts)
      → Emits s constructor old block.items new before.kept after.kept
      → (length block.items ≡ length after.kept.items - length before.kept.items → IsDrafted block draft)
      → after.blocks.items ≡ before.blocks.items ++ draft ∷ []
      → Writes s constructor old (block ∷ []) new before after
  block_written old new block draft before after emits is pushed = record {
    grows = subst (λ (items : List WItem). Grows old (code_needs s constructor items) new) (sym (items_one block)) emits.grows;
    keeps = λ front kept. both front kept;
  } where
    whole : (front : List Block) → all_items (front ++ block ∷ []) ≡ all_items front ++ block.items
    whole front = items_both front (block ∷ []) ∙ ap (λ (items : List WItem). all_items front ++ items) (items_one block)

    both : (front : List Block) → AreKept s constructor old front before → AreKept s constructor new (front ++ block ∷ []) after
    both front kept = record { items = items; drafted = λ few. drafted few } where
      items : KeepsIn s constructor new (all_items (front ++ block ∷ [])) after.kept.is_long after.kept.items
      items = λ more.
          subst (λ (list : List WItem). Keeps s constructor (grown new ++ more) list after.kept.is_long after.kept.items) (sym (whole front))
          (emits.keeps (all_items front) kept.items more)

      drafted : ¬ AreTooMany (all_items (front ++ block ∷ [])) → AreDrafted (front ++ block ∷ []) after.blocks.items
      drafted few =
          let few_before : ¬ AreTooMany (all_items front) =
          λ many. few (subst AreTooMany (sym (whole front)) (too_many_stay (all_items front) block.items many)) in
          let first = as_many_kept s constructor old front before kept few_before in
          let all = as_many_all few in
          let lengths = ap length (whole front) ∙ length-append (all_items front) block.items in
          let count : length block.items ≡ length after.kept.items - length before.kept.items = omega (arith, first, all, lengths) in
          subst (AreDrafted (front ++ block ∷ [])) (sym pushed)
          (drafted_both front (block ∷ []) before.blocks.items (draft ∷ []) (kept.drafted few_before) (is count, tt)) where
            as_many_all : ¬ AreTooMany (all_items (front ++ block ∷ [])) → length after.kept.items ≡ length (all_items (front ++ block ∷ []))
            as_many_all none = by (items []) where
              by : {pool : _} → Keeps s constructor pool (all_items (front ++ block ∷ [])) after.kept.is_long after.kept.items
                  → length after.kept.items ≡ length (all_items (front ++ block ∷ []))
              by {pool} (keeps_all same_long same) = as_long s constructor pool (all_items (front ++ block ∷ [])) after.kept.items same
              by {pool} (keeps_none same_long many) = absurd (none many)

  -- ---- block by block

  pub to_first : (edit : Edit) (all : List Block) (drafts : Drafts) → WritesTo s constructor edit all all edit drafts drafts
  to_first edit all drafts = record { done = []; writes = writes_none edit drafts; whole = refl }

  pub to_more : (old now new : Edit) (all left part rest : List Block) (before between after : Drafts)
      → WritesTo s constructor old all left now before between
      → left ≡ part ++ rest
      → Writes s constructor now part new between after
      → WritesTo s constructor old all rest new before after
  to_more old now new all left part rest before between after so_far is writes = record {
    done = so_far.done ++ part;
    writes = writes_both old now new so_far.done part before between after so_far.writes writes;
    whole =
        so_far.whole
        ∙ ap (λ (blocks : List Block). so_far.done ++ blocks) is
        ∙ sym (append_assoc so_far.done part rest);
  }

  pub to_full : (old now : Edit) (all left part rest : List Block) (before between : Drafts) (reason : Reason)
      → WritesTo s constructor old all left now before between
      → left ≡ part ++ rest
      → IsFull now (code_needs s constructor (all_items part)) reason
      → IsFull old (code_needs s constructor (all_items all)) reason
  to_full old now all left part rest before between reason so_far is full =
      subst (λ (blocks : List Block). IsFull old (code_needs s constructor (all_items blocks)) reason) (sym (so_far.whole ∙ ap (λ (blocks : List Block). so_far.done ++ blocks) is))
      (then_full old now so_far.done (part ++ rest) before between reason so_far.writes (first_full now part rest reason full))

  pub to_end : (old now : Edit) (all left : List Block) (before between : Drafts)
      → WritesTo s constructor old all left now before between
      → left ≡ []
      → Writes s constructor old all now before between
  to_end old now all left before between so_far is =
      subst (λ (blocks : List Block). Writes s constructor old blocks now before between)
      (sym (so_far.whole ∙ ap (λ (blocks : List Block). so_far.done ++ blocks) is ∙ append-nil so_far.done)) so_far.writes
