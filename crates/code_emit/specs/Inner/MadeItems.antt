-- Make code as items.
use Rattle.std.specs.Prelude.{◌≡◌, ◌++◌, ℕ, List, [], map}
use Rattle.class_model.specs.Pool.{Constants}
use Rattle.class_model.specs.declared.instr.Instr.{Instr}
use Rattle.class_tree.specs.Headers.{Name}
use Rattle.code_drafts.specs.Drafts.{Keeps, Meant, meant}
use Rattle.code_drafts.specs.Emits.{Emits, Kept, Writing}
use Rattle.code_drafts.specs.Writable.{AreMeant, scope}
use Rattle.flow_code.specs.declared.reason.Reason.{Reason}
use Rattle.making_code.specs.Items.{WItem}
use Rattle.making_code.specs.MakeOrder.{IsMakeOrder}
use Rattle.materialise.specs.Growing.{IsFull}
use Rattle.member_link.specs.Machine.Programs.{Links}
use Rattle.plan_flow.specs.PlanScope.{PlanScope}
use Rattle.plan_flow.specs.Written.Blocks.{making}
use Rattle.plan_flow.specs.Written.WrittenConstants.{code_needs}
use Rattle.pool_edit.specs.Edits.{Edit}
use Rattle.virtual_state.specs.States.{State}

-- ---- make code of a set of sites, in the one order in which its objects are made

pub record EmitsMaking (w : Writing) (at : ℕ) (state : State) (made : List ℕ) (old new : Edit)
    (before after : Kept)
    : Type 0 where
  pub each :
      (links : Links) (constructor : Name → List ℕ) (order : List ℕ)
      → AreMeant w links constructor
      → IsMakeOrder state.objects made order
      → Emits (scope w links) constructor old (making (scope w links) at state made order) new
      before after

pub record IsFullMaking (w : Writing) (at : ℕ) (state : State) (made : List ℕ) (edit : Edit)
    (reason : Reason)
    : Type 0 where
  pub each :
      (links : Links) (constructor : Name → List ℕ) (order : List ℕ)
      → AreMeant w links constructor
      → IsMakeOrder state.objects made order
      → IsFull edit
      (code_needs (scope w links) constructor (making (scope w links) at state made order)) reason

-- ---- instructions that do not jump and that no handler catches

abbrev pub alone : Instr → Meant
alone instr = record { instr = instr; targets = []; catches = [] }

-- items that mean these instructions were written, behind whatever was
pub record PutsInstrs (instrs : List Instr) (before after : Kept) : Type 0 where
  pub each :
      (s : PlanScope) (constructor : Name → List ℕ) (pool : Constants) (front items : List WItem)
      → map alone instrs ≡ map (meant s constructor pool) items
      → Keeps s constructor pool front before.is_long before.items
      → Keeps s constructor pool (front ++ items) after.is_long after.items
