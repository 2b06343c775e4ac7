-- Items that are written, part by part, with the constants that they need.
use Rattle.std.proofs.Common.{◌≡◌, ◌++◌, ℕ, List, [], ◌∷◌, Bool, Result, Ok, Err, IfOk, sym, ap, subst, ◌∙◌, append_assoc, append-nil}
use Rattle.std.specs.List.{flat_map}
use Rattle.std.proofs.lemmas.Grind.{flat_map-append}
use Rattle.class_model.specs.Pool.{Constants, entries_of}
use Rattle.class_model.specs.declared.pool.Const.{Const}
use Rattle.class_tree.specs.Headers.{Classes, Name}
use Rattle.code_drafts.specs.Drafts.{Keeps, KeepsIn, meaning, meant}
use Rattle.code_drafts.specs.Emits.{Emits, Kept}
use Rattle.code_drafts.specs.Puts.{PutsItems}
use Rattle.code_drafts.specs.declared.draft.DraftItem.{DraftItem}
use Rattle.flow_code.specs.FlatCode.{FlatCode}
use Rattle.flow_code.specs.declared.reason.Reason.{Reason}
use Rattle.making_code.specs.Constants.{Need, grow}
use Rattle.making_code.specs.Items.{WItem}
use Rattle.materialise.specs.Growing.{Grows, IsFull}
use Rattle.materialise.specs.Laws.GrownEdits.{full_first, full_then, grown_more, grows_both, grows_none}
use Rattle.member_link.specs.Machine.Programs.{Links}
use Rattle.plan_flow.specs.PlanScope.{PlanScope, scope_of}
use Rattle.plan_flow.specs.Written.WrittenConstants.{code_needs, item_needs}
use Rattle.pool_edit.specs.Edits.{Continues, Edit, grown}

-- ---- pools that grow

-- what items are kept as stays what it is while the pool grows
pub kept_later : (s : PlanScope) (constructor : Name → List ℕ) (old new : Edit) (items : List WItem) (is_long : Bool) (drafts : List DraftItem)
    → Continues old new
    → KeepsIn s constructor old items is_long drafts
    → KeepsIn s constructor new items is_long drafts
kept_later s constructor old new items is_long drafts so_far kept = λ more.
    subst (λ (pool : Constants). Keeps s constructor pool items is_long drafts)
    (sym (ap (λ (pool : Constants). pool ++ more) (grown_more old new so_far) ∙ append_assoc (grown old) (flat_map entries_of so_far.more) more))
    (kept (flat_map entries_of so_far.more ++ more))

-- ---- items, part by part

module _ (s : PlanScope) (constructor : Name → List ℕ) where
  pub needs_both : (front back : List WItem)
      → code_needs s constructor (front ++ back) ≡ code_needs s constructor front ++ code_needs s constructor back
  needs_both front back = flat_map-append (item_needs s constructor) front back

  pub needs_one : (one : WItem) → code_needs s constructor (one ∷ []) ≡ item_needs s constructor one
  needs_one one = append-nil (item_needs s constructor one)

  pub emits_none : (edit : Edit) (kept : Kept) → Emits s constructor edit [] edit kept kept
  emits_none edit kept = record {
    grows = grows_none edit;
    keeps = λ front before. subst (λ (items : List WItem). KeepsIn s constructor edit items kept.is_long kept.items) (sym (append-nil front)) before;
  }

  pub emits_both : (first middle last : Edit) (front back : List WItem) (before between after : Kept)
      → Emits s constructor first front middle before between
      → Emits s constructor middle back last between after
      → Emits s constructor first (front ++ back) last before after
  emits_both first middle last front back before between after one other = record {
    grows =
        subst (λ (needs : List Need). Grows first needs last) (sym (needs_both front back))
        (grows_both first middle last (code_needs s constructor front) (code_needs s constructor back) one.grows other.grows);
    keeps = λ items kept.
        subst (λ (all : List WItem). KeepsIn s constructor last all after.is_long after.items) (append_assoc items front back)
        (other.keeps (items ++ front) (one.keeps items kept));
  }

  -- an item whose constants were added before it was written
  pub emits_one : (old new : Edit) (one : WItem) (item : DraftItem) (before after : Kept)
      → Continues old new
      → Grows old (item_needs s constructor one) new
      → ((more : Constants) → meaning item ≡ meant s constructor (grown new ++ more) one)
      → ((pool : Constants) (items : List WItem) → Keeps s constructor pool items before.is_long before.items
      → meaning item ≡ meant s constructor pool one
      → Keeps s constructor pool (items ++ one ∷ []) after.is_long after.items)
      → Emits s constructor old (one ∷ []) new before after
  emits_one old new one item before after so_far grows means pushes = record {
    grows = subst (λ (needs : List Need). Grows old needs new) (sym (needs_one one)) grows;
    keeps = λ front kept more.
        pushes (grown new ++ more) front (kept_later s constructor old new front before.is_long before.items so_far kept more) (means more);
  }

  -- a part does not fit, so neither do all
  pub full_part : (edit : Edit) (front back : List WItem) (reason : Reason)
      → IsFull edit (code_needs s constructor front) reason
      → IsFull edit (code_needs s constructor (front ++ back)) reason
  full_part edit front back reason full =
      subst (λ (needs : List Need). IsFull edit needs reason) (sym (needs_both front back))
      (full_first edit (code_needs s constructor front) (code_needs s constructor back) reason full)

  pub full_behind : (first middle : Edit) (front back : List WItem) (before between : Kept) (reason : Reason)
      → Emits s constructor first front middle before between
      → IsFull middle (code_needs s constructor back) reason
      → IsFull first (code_needs s constructor (front ++ back)) reason
  full_behind first middle front back before between reason one full =
      subst (λ (needs : List Need). IsFull first needs reason) (sym (needs_both front back))
      (full_then first middle (code_needs s constructor front) (code_needs s constructor back) reason one.grows full)

-- ---- items without constants

-- they leave the pool as it is
pub puts_emit : (classes : Classes) (links : Links) (flat : FlatCode) (constructor : Name → List ℕ) (edit : Edit) (items : List WItem) (before after : Kept)
    → PutsItems flat items before after
    → Emits (scope_of classes links flat) constructor edit items edit before after
puts_emit classes links flat constructor edit items before after puts = record {
  grows = subst (λ (needs : List Need). Grows edit needs edit) (sym (puts.needless classes links constructor)) (grows_none edit);
  keeps = λ front kept more. puts.keeps classes links constructor _ front (kept more);
}

-- behind items without constants
module _ (classes : Classes) (links : Links) (flat : FlatCode) (constructor : Name → List ℕ) where
  pub puts_then : (old new : Edit) (front back : List WItem) (before middle after : Kept)
      → PutsItems flat front before middle
      → Emits (scope_of classes links flat) constructor old back new middle after
      → Emits (scope_of classes links flat) constructor old (front ++ back) new before after
  puts_then old new front back before middle after puts emits =
      emits_both (scope_of classes links flat) constructor old old new front back before middle after
      (puts_emit classes links flat constructor old front before middle puts) emits

  pub puts_full : (old : Edit) (front back : List WItem) (before middle : Kept) (reason : Reason)
      → PutsItems flat front before middle
      → IsFull old (code_needs (scope_of classes links flat) constructor back) reason
      → IsFull old (code_needs (scope_of classes links flat) constructor (front ++ back)) reason
  puts_full old front back before middle reason puts full =
      full_behind (scope_of classes links flat) constructor old old front back before middle reason
      (puts_emit classes links flat constructor old front before middle puts) full

-- ---- answers

pub if_ok : {A E : Type 0} {P Q : A → Type 0} (result : Result A E) → ((value : A) → P value → Q value) → IfOk result P → IfOk result Q
if_ok (Ok value) more holds = more value holds
if_ok (Err fault) more holds = tt
