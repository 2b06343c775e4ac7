-- Blocks of make code.
use Rattle.std.specs.Prelude.{ℕ, List, Option}
use Rattle.class_tree.specs.Headers.{Name}
use Rattle.code_drafts.specs.Drafts.{all_items}
use Rattle.code_drafts.specs.Emits.{Writing}
use Rattle.code_drafts.specs.Writable.{AreMeant, scope}
use Rattle.code_emit.specs.Inner.DraftedBlocks.{Writes}
use Rattle.code_emit.specs.declared.drafts.Drafts.{Drafts}
use Rattle.flow_code.specs.declared.reason.Reason.{Reason}
use Rattle.making_code.specs.MakeOrder.{IsMakeOrder}
use Rattle.materialise.specs.Growing.{IsFull}
use Rattle.member_link.specs.Machine.Programs.{Links}
use Rattle.plan_flow.specs.Written.Blocks.{BlockOf, make_block}
use Rattle.plan_flow.specs.Written.WrittenConstants.{code_needs}
use Rattle.pool_edit.specs.Edits.{Edit}
use Rattle.virtual_state.specs.States.{State}

pub record WritesMade (w : Writing) (of : BlockOf) (at : ℕ) (state : State) (made : List ℕ)
    (leaves : Option ℕ) (old new : Edit) (before after : Drafts)
    : Type 0 where
  pub each :
      (links : Links) (constructor : Name → List ℕ) (order : List ℕ)
      → AreMeant w links constructor
      → IsMakeOrder state.objects made order
      → Writes (scope w links) constructor old
      (make_block (scope w links) of at state made order leaves) new before after

pub record IsFullBlock (w : Writing) (of : BlockOf) (at : ℕ) (state : State) (made : List ℕ)
    (leaves : Option ℕ) (edit : Edit) (reason : Reason)
    : Type 0 where
  pub each :
      (links : Links) (constructor : Name → List ℕ) (order : List ℕ)
      → AreMeant w links constructor
      → IsMakeOrder state.objects made order
      → IsFull edit
      (code_needs (scope w links) constructor
      (all_items (make_block (scope w links) of at state made order leaves))) reason
