-- What is written of an instruction, put together.
use Rattle.std.proofs.Common.{◌≡◌, ℕ, List, [], ◌∷◌, ◌++◌, map, Option, Some, None, option_map, refl, sym, ap, subst, ◌∙◌, append-nil}
use Rattle.class_model.specs.declared.instr.Instr.TheVariants.{Throw}
use Rattle.class_tree.specs.Headers.{Name}
use Rattle.code_drafts.specs.Laws.EmittedParts.{emits_one, needs_one}
use Rattle.code_drafts.proofs.PutLaws.{Pushes}
use Rattle.code_drafts.specs.Inner.CarriedWords.{Catches, IsDraft}
use Rattle.code_drafts.specs.Drafts.{Meant, meaning}
use Rattle.code_drafts.specs.Emits.{Emits, Kept}
use Rattle.code_drafts.specs.declared.draft.DraftCatch.{DraftCatch}
use Rattle.code_drafts.specs.declared.draft.DraftItem.{DraftItem}
use Rattle.code_drafts.specs.declared.draft.Target.{Target}
use Rattle.flow_code.specs.declared.point.FlatInstr.TheVariants.{NullTest}
use Rattle.flow_code.specs.declared.point.Point.{Point}
use Rattle.flow_code.specs.declared.reason.Reason.{Reason}
use Rattle.making_code.specs.Constants.{Need}
use Rattle.making_code.specs.Items.{WItem, WTarget, plain}
use Rattle.materialise.specs.Growing.{IsFull}
use Rattle.plan_flow.specs.PlanScope.{PlanScope}
use Rattle.plan_flow.specs.PlanSlots.{held}
use Rattle.plan_flow.specs.Written.Routes.{Route}
use Rattle.plan_flow.specs.Written.Templates.{catches_at, items_at, null_test}
use Rattle.plan_flow.specs.Written.WrittenConstants.{code_needs, item_needs}
use Rattle.pool_edit.specs.Edits.{Continues, Edit}
use Rattle.virtual_state.specs.States.{State}
use Rattle.virtual_state.specs.declared.slot.Slot.TheVariants.{Plain, Virt, Unusable}

-- ---- tests for null

module _ (s : PlanScope) (at : ℕ) (point : Point) (state : State) (route : Route) (local : ℕ) (is : point.instr ≡ NullTest local) where
  pub test_virtual : (site : ℕ) → held state local ≡ Virt site → [] ≡ items_at s at point state route
  test_virtual site holds = sym (rw (is, holds) refl)

  pub test_plain : held state local ≡ Plain → null_test at point route local ≡ items_at s at point state route
  test_plain holds = sym (rw (is, holds) refl)

  pub test_unusable : held state local ≡ Unusable → null_test at point route local ≡ items_at s at point state route
  test_unusable holds = sym (rw (is, holds) refl)

-- ---- items with constants

pub draft_emits : (s : PlanScope) (constructor : Name → List ℕ) (old new : Edit) (one : WItem) (draft : DraftItem) (before after : Kept)
    → IsDraft s constructor old new one draft
    → Continues old new
    → Pushes draft before after
    → Emits s constructor old (one ∷ []) new before after
draft_emits s constructor old new one draft before after is goes pushes =
    emits_one s constructor old new one draft before after goes is.grows is.means (λ pool items kept same. pushes s constructor pool items one kept same)

pub draft_full : (s : PlanScope) (constructor : Name → List ℕ) (old : Edit) (one : WItem) (reason : Reason)
    → IsFull old (item_needs s constructor one) reason
    → IsFull old (code_needs s constructor (one ∷ [])) reason
draft_full s constructor old one reason full = subst (λ (needs : List Need). IsFull old needs reason) (sym (needs_one s constructor one)) full

-- the throw of a test for null
abbrev pub throw_item : ℕ → Point → Route → WItem
throw_item at point route = record { instr = plain Throw; targets = []; catches = catches_at at point route }

abbrev meant_throw : List (WTarget × ℕ) → Meant
meant_throw list = record { instr = Throw; targets = []; catches = list }

abbrev draft_throw : List Target → List DraftCatch → DraftItem
draft_throw targets catches = record { instr = Throw; targets = targets; catches = catches }

pub throw_draft : (s : PlanScope) (constructor : Name → List ℕ) (at : ℕ) (point : Point) (route : Route) (old new : Edit) (targets : List Target) (catches : List DraftCatch)
    → targets ≡ []
    → Catches (catches_at at point route) old [] new catches
    → IsDraft s constructor old new (throw_item at point route) (draft_throw targets catches)
throw_draft s constructor at point route old new targets catches none caught = record {
  grows = caught.grows;
  means = λ more.
      ap (λ (list : List Target). meaning (draft_throw list catches)) none
      ∙ ap (λ (list : List (WTarget × ℕ)). meant_throw list) (caught.are more);
}
