-- The items of finished blocks: each has its form and leads to blocks that stand, or it is the jump inside a test for null.
use Rattle.std.proofs.Common.{◌≡◌, ◌≢◌, ◌<◌, ◌+◌, ◌⊎◌, inl, inr, ℕ, zero, suc, Bool, true, false, List, [], ◌∷◌, ◌++◌, length, take, slice_get, Option, Some, None, refl, sym, ap, subst, ◌∙◌, arith}
use Rattle.std.specs.List.{AllByRecursion}
use Rattle.std.proofs.lemmas.Bool.{false≢true}
use Rattle.std.proofs.lemmas.List.{length-append}
use Rattle.std.proofs.lemmas.Option.{none-some, same_Some}
use Rattle.class_model.specs.declared.instr.Imm.TheVariants as imms
use Rattle.class_model.specs.declared.instr.Instr.TheVariants.{Const, Goto, IfNull, Nop, Throw}
use Rattle.class_model.specs.declared.opcodes.TheConstants.{IFNONNULL}
use Rattle.code_drafts.specs.Laws.FittingItems.{fits_plain}
use Rattle.code_drafts.specs.Laws.GoodBlocks.{Closes, Each, HasItems, IsFar, IsGood, all_far, leaves, test_items, tests_null, writes}
use Rattle.code_drafts.specs.Laws.ReachedStarts.{LeadsSome}
use Rattle.making_code.specs.Items.{WCatch, WItem, ahead, item, plain, to_point}
use Rattle.making_code.specs.StateFrames.{differ}
use Rattle.plan_flow.specs.Laws.WrittenBlocks.{first_item, holds_of_both}
use Rattle.plan_flow.specs.PlanScope.{PlanScope}
use Rattle.plan_flow.specs.Written.Blocks.{Block}
use Rattle.plan_flow.specs.Written.Finish.{End, Finished, comes_to, empty_end, end_items, end_of, finish, finished_items, goto_end, is_empty, no_end, nop_end}
use Rattle.plan_flow.specs.Written.Routes.{Routes}
use Rattle.plan_flow.specs.Written.WrittenCode.{short, written_items}
use Rattle.plan_flow.specs.Written.WrittenFrames.{written_frame}

-- ---- finished blocks

pub data HasWritten (s : PlanScope) (routes : Routes) (items : List WItem) (behind : List Finished) : Type 0 where
  far_alone : AllByRecursion (IsFar s routes) items → HasWritten s routes items behind
  tests : (local : ℕ) (catches : List WCatch)
      → items ≡ test_items local catches
      → AllByRecursion (λ (catch : WCatch). LeadsSome s routes catch.to) catches
      → behind ≢ []
      → HasWritten s routes items behind

pub record IsDone (s : PlanScope) (routes : Routes) (one : Finished) (behind : List Finished) : Type 0 where
  pub some : behind ≡ [] → is_empty (finished_items one) ≡ false
  pub items : HasWritten s routes (finished_items one) behind

some_left : (left right : List WItem) → is_empty left ≡ false → is_empty (left ++ right) ≡ false
some_left [] right some = absurd (false≢true (sym some))
some_left (one ∷ left) right some = refl

some_last : (left : List WItem) (one : WItem) → is_empty (left ++ (one ∷ [])) ≡ false
some_last [] one = refl
some_last (first ∷ left) one = refl

module _ (s : PlanScope) (routes : Routes) where
  abbrev LeadsEnd : End → Type 0
  LeadsEnd no_end = Unit {0}
  LeadsEnd nop_end = Unit {0}
  LeadsEnd (goto_end to) = LeadsSome s routes (to_point to)

  far_end : (end : End) → LeadsEnd end → AllByRecursion (IsFar s routes) (end_items end)
  far_end no_end leads = tt
  far_end nop_end leads = (record { fits = fits_plain s Nop 0 tt refl; targets = tt; catches = tt }, tt)
  far_end (goto_end to) leads = (record { fits = fits_plain s (Goto 0) 1 tt refl; targets = (leads, tt); catches = tt }, tt)

  empty_leads : (block : Block) (behind : List Finished) → LeadsEnd (empty_end s.flat block behind)
  empty_leads block [] = tt
  empty_leads block (next ∷ others) = by (differ (written_frame s.flat block) (written_frame s.flat next.block)) refl where
    by : (differs : Bool) → differ (written_frame s.flat block) (written_frame s.flat next.block) ≡ differs
        → LeadsEnd (empty_end s.flat block (next ∷ others))
    by true is = rw (is) tt
    by false is = rw (is) tt

  end_leads : (block : Block) (behind : List Finished) → ((to : ℕ) → block.leaves ≡ Some to → LeadsSome s routes (to_point to))
      → LeadsEnd (end_of s.flat block behind)
  end_leads block behind leads = by block.leaves refl (is_empty block.items) refl where
    by : (goes : Option ℕ) → block.leaves ≡ goes → (empty : Bool) → is_empty block.items ≡ empty → LeadsEnd (end_of s.flat block behind)
    by None goes true is = rw (goes, is) (empty_leads block behind)
    by None goes false is = rw (goes, is) tt
    by (Some to) goes empty is = by_next (comes_to to behind) refl empty is where
      by_next : (comes : Bool) → comes_to to behind ≡ comes → (empty : Bool) → is_empty block.items ≡ empty → LeadsEnd (end_of s.flat block behind)
      by_next true comes true is = rw (goes, comes, is) (empty_leads block behind)
      by_next true comes false is = rw (goes, comes, is) tt
      by_next false comes empty is = rw (goes, comes) (leads to goes)

  none_finished : (blocks : List Block) → finish s.flat blocks ≡ [] → blocks ≡ []
  none_finished [] none = refl
  none_finished (block ∷ blocks) none = absurd (cc none)

  -- each finished block is done, where each block is good
  pub finished_done : (blocks : List Block) → Each (IsGood s routes) blocks → Each (IsDone s routes) (finish s.flat blocks)
  finished_done [] good = tt
  finished_done (block ∷ blocks) good = (record { some = last; items = by_items good.0.items }, finished_done blocks good.1) where
    behind : List Finished
    behind = finish s.flat blocks

    last : finish s.flat blocks ≡ [] → is_empty (block.items ++ end_items (end_of s.flat block (finish s.flat blocks))) ≡ false
    last none = by_closes (good.0.closes (none_finished blocks none)) where
      by_closes : Closes block → is_empty (block.items ++ end_items (end_of s.flat block (finish s.flat blocks))) ≡ false
      by_closes (writes some) = some_left block.items (end_items (end_of s.flat block (finish s.flat blocks))) some
      by_closes (leaves to goes) =
          subst (λ (others : List Finished). is_empty (block.items ++ end_items (end_of s.flat block others)) ≡ false) (sym none)
          (rw (goes) (some_last block.items _))

    by_items : HasItems s routes block blocks
        → HasWritten s routes (block.items ++ end_items (end_of s.flat block (finish s.flat blocks))) (finish s.flat blocks)
    by_items (all_far far) =
        far_alone (holds_of_both (IsFar s routes) block.items (end_items (end_of s.flat block (finish s.flat blocks))) far
        (far_end (end_of s.flat block (finish s.flat blocks)) (end_leads block (finish s.flat blocks) good.0.leads)))
    by_items (tests_null local catches written stays lead on) =
        tests local catches
        (ap (λ (end : End). block.items ++ end_items end) stops ∙ ap (λ (items : List WItem). items ++ []) written) lead
        (λ none. on (none_finished blocks none)) where
          some : is_empty block.items ≡ false
          some = ap is_empty written

          stops : end_of s.flat block (finish s.flat blocks) ≡ no_end
          stops = rw (stays, some) refl

  -- ---- where they are

  has_length : (items : List WItem) → is_empty items ≡ false → 0 < length items
  has_length [] some = absurd (false≢true (sym some))
  has_length (one ∷ items) some = omega arith

  pub some_written : (one : Finished) (behind : List Finished) → Each (IsDone s routes) (one ∷ behind)
      → 0 < length (written_items short (one ∷ behind))
  some_written one [] done =
      let all = length-append (finished_items one) [] in
      let some = has_length (finished_items one) (done.0.some refl) in
      omega (arith, all, some)
  some_written one (next ∷ behind) done =
      let all = length-append (finished_items one) (written_items short (next ∷ behind)) in
      let some = some_written next behind done.1 in
      omega (arith, all, some)

  -- each block starts at an item
  pub starts_within : (all : List Finished) (number : ℕ) (one : Finished) → Each (IsDone s routes) all
      → slice_get all number ≡ Some one
      → first_item short all number < length (written_items short all)
  starts_within [] number one done is = absurd (none-some one is)
  starts_within (first ∷ all) zero one done is = some_written first all done
  starts_within (first ∷ all) (suc number) one done is =
      let left = length-append (finished_items first) (written_items short (take number all)) in
      let right = length-append (finished_items first) (written_items short all) in
      let rest = starts_within all number one done.1 is in
      omega (arith, left, right, rest)

-- ---- each item

abbrev pub near_jump : WItem
near_jump = record { instr = plain (IfNull IFNONNULL 0); targets = ahead 3 ∷ []; catches = [] }

-- an item of a number: one that leads to blocks that stand, or the jump inside a test for null
pub data IsWrittenAt (s : PlanScope) (routes : Routes) (items : List WItem) (at : ℕ) (one : WItem) : Type 0 where
  is_far : IsFar s routes one → IsWrittenAt s routes items at one
  is_near : (thrown : WItem)
      → one ≡ near_jump
      → slice_get items (at + 1) ≡ Some (item (plain (Const imms.Null)))
      → slice_get items (at + 2) ≡ Some thrown
      → thrown.instr ≡ plain Throw
      → thrown.targets ≡ []
      → at + 3 < length items
      → IsWrittenAt s routes items at one

in_either : (left right : List WItem) (at : ℕ) (one : WItem)
    → slice_get (left ++ right) at ≡ Some one
    → (slice_get left at ≡ Some one) ⊎ ((more : ℕ) × (at ≡ length left + more) × (slice_get right more ≡ Some one))
in_either [] right at one is = inr (at, omega arith, is)
in_either (first ∷ left) right zero one is = inl is
in_either (first ∷ left) right (suc at) one is = by (in_either left right at one is) where
  by : (slice_get left at ≡ Some one) ⊎ ((more : ℕ) × (at ≡ length left + more) × (slice_get right more ≡ Some one))
      → (slice_get left at ≡ Some one) ⊎ ((more : ℕ) × (suc at ≡ suc (length left) + more) × (slice_get right more ≡ Some one))
  by (inl here) = inl here
  by (inr there) = inr (there.0, let number = there.1 in omega (arith, number), there.2)

item_behind_left : (left right : List WItem) (place : ℕ) → slice_get (left ++ right) (length left + place) ≡ slice_get right place
item_behind_left [] right place =
    let zeroth : 0 + place ≡ place = omega arith in
    ap (slice_get right) zeroth
item_behind_left (one ∷ left) right place =
    let next : suc (length left) + place ≡ suc (length left + place) = omega arith in
    ap (slice_get (one ∷ left ++ right)) next ∙ item_behind_left left right place

all_at : (P : WItem → Type 0) (items : List WItem) (number : ℕ) (one : WItem) → AllByRecursion P items → slice_get items number ≡ Some one → P one
all_at P [] number one all is = absurd (none-some one is)
all_at P (first ∷ items) zero one all is = subst P (same_Some first one is) all.0
all_at P (first ∷ items) (suc number) one all is = all_at P items number one all.1 is

module _ (s : PlanScope) (routes : Routes) where
  tested_at : (local : ℕ) (catches : List WCatch) (rest : List WItem) (at : ℕ) (one : WItem)
      → AllByRecursion (λ (catch : WCatch). LeadsSome s routes catch.to) catches
      → 0 < length rest
      → slice_get (test_items local catches) at ≡ Some one
      → IsWrittenAt s routes (test_items local catches ++ rest) at one
  tested_at local catches rest zero one lead some is =
      is_far (subst (IsFar s routes) (same_Some _ one is)
      (record { fits = record { form = λ constructor pool. tt; many = λ constructor pool. refl }; targets = tt; catches = tt }))
  tested_at local catches rest (suc zero) one lead some is =
      is_near _ (sym (same_Some near_jump one is)) refl refl refl refl (omega (arith, some))
  tested_at local catches rest (suc (suc zero)) one lead some is =
      is_far (subst (IsFar s routes) (same_Some _ one is) (record { fits = fits_plain s (Const imms.Null) 0 tt refl; targets = tt; catches = tt }))
  tested_at local catches rest (suc (suc (suc zero))) one lead some is =
      is_far (subst (IsFar s routes) (same_Some _ one is) (record { fits = fits_plain s Throw 0 tt refl; targets = tt; catches = lead }))
  tested_at local catches rest (suc (suc (suc (suc at)))) one lead some is = absurd (none-some one is)

  shifted : (left right : List WItem) (at more : ℕ) (one : WItem) → at ≡ length left + more → IsWrittenAt s routes right more one
      → IsWrittenAt s routes (left ++ right) at one
  shifted left right at more one is (is_far far) = is_far far
  shifted left right at more one is (is_near thrown same null throws instr targets within) =
      is_near thrown same (ap (slice_get (left ++ right)) next ∙ item_behind_left left right (more + 1) ∙ null)
      (ap (slice_get (left ++ right)) second ∙ item_behind_left left right (more + 2) ∙ throws) instr targets
      (let all = length-append left right in omega (arith, is, within, all)) where
        next : at + 1 ≡ length left + (more + 1)
        next = omega (arith, is)

        second : at + 2 ≡ length left + (more + 2)
        second = omega (arith, is)

  pub written_at : (all : List Finished) (at : ℕ) (one : WItem) → Each (IsDone s routes) all
      → slice_get (written_items short all) at ≡ Some one
      → IsWrittenAt s routes (written_items short all) at one
  written_at [] at one done is = absurd (none-some one is)
  written_at (first ∷ all) at one done is =
      by (in_either (finished_items first) (written_items short all) at one is) (λ more there. written_at all more one done.1 there) where
        some_behind : (others : List Finished) → others ≢ [] → Each (IsDone s routes) others → 0 < length (written_items short others)
        some_behind [] on done_also = absurd (on refl)
        some_behind (next ∷ others) on done_also = some_written s routes next others done_also

        by_items : HasWritten s routes (finished_items first) all → slice_get (finished_items first) at ≡ Some one
            → IsWrittenAt s routes (finished_items first ++ written_items short all) at one
        by_items (far_alone far) here = is_far (all_at (IsFar s routes) (finished_items first) at one far here)
        by_items (tests local catches written lead on) here =
            subst (λ (items : List WItem). IsWrittenAt s routes (items ++ written_items short all) at one) (sym written)
            (tested_at local catches (written_items short all) at one lead (some_behind all on done.1)
            (sym (ap (λ (items : List WItem). slice_get items at) written) ∙ here))

        by : (slice_get (finished_items first) at ≡ Some one)
            ⊎ ((more : ℕ) × (at ≡ length (finished_items first) + more) × (slice_get (written_items short all) more ≡ Some one))
            → ((more : ℕ) → slice_get (written_items short all) more ≡ Some one → IsWrittenAt s routes (written_items short all) more one)
            → IsWrittenAt s routes (finished_items first ++ written_items short all) at one
        by (inl here) behind = by_items done.0.items here
        by (inr there) behind =
            shifted (finished_items first) (written_items short all) at there.0 one there.1 (behind there.0 there.2)
