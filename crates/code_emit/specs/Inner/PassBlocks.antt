-- The blocks of all points, pass by pass, whatever links, descriptors of field constructors and routes are meant.
use Rattle.std.specs.Prelude.{◌≡◌, ℕ, List}
use Rattle.class_tree.specs.Headers.{Name}
use Rattle.code_drafts.specs.Drafts.{all_items}
use Rattle.code_drafts.specs.Emits.{Writing}
use Rattle.code_drafts.specs.Writable.{AreMeant, scope}
use Rattle.code_emit.specs.Inner.DraftedBlocks.{Writes}
use Rattle.code_emit.specs.Inner.PadBlocks.{pads_at}
use Rattle.code_emit.specs.Inner.ReachedPoints.{BlocksOf}
use Rattle.code_emit.specs.declared.drafts.Drafts.{Drafts}
use Rattle.code_emit.specs.declared.pads.Pads.TheVariants as sorts
use Rattle.code_emit.specs.declared.passes.Pass.{Pass}
use Rattle.code_emit.specs.declared.passes.Pass.TheVariants.{HandlerPads, JumpPads, Points}
use Rattle.flow_code.specs.declared.reason.Reason.{Reason}
use Rattle.materialise.specs.Growing.{IsFull}
use Rattle.member_link.specs.Machine.Programs.{Links}
use Rattle.plan_flow.specs.PlanScope.{PlanScope}
use Rattle.plan_flow.specs.Written.Blocks.{Block, blocks_of, of_reached, point_blocks}
use Rattle.plan_flow.specs.Written.Routes.{IsRouted, Routes}
use Rattle.plan_flow.specs.Written.WrittenConstants.{code_needs}
use Rattle.pool_edit.specs.Edits.{Edit}

abbrev pub blocks_at : Pass → BlocksOf
blocks_at Points s at point route = point_blocks s at point route
blocks_at JumpPads s at point route = pads_at sorts.Jump s at point route
blocks_at HandlerPads s at point route = pads_at sorts.Handler s at point route

-- nothing was written
pub record IsUntouched (old new : Edit) (before after : Drafts) : Type 0 where
  pub pool : new ≡ old
  pub drafts : after ≡ before

-- ---- all points

abbrev pub AllBlocks : Type 0
AllBlocks = PlanScope → Routes → List Block

abbrev pub pass_blocks : Pass → AllBlocks
pass_blocks pass s routes = of_reached (blocks_at pass s) 0 s.flat.points routes

abbrev pub all_blocks : AllBlocks
all_blocks s routes = blocks_of s routes

pub record WritesAll (w : Writing) (blocks : AllBlocks) (old new : Edit) (before after : Drafts)
    : Type 0 where
  pub each :
      (links : Links) (constructor : Name → List ℕ) (routes : Routes)
      → AreMeant w links constructor
      → IsRouted (scope w links) w.plan routes
      → Writes (scope w links) constructor old (blocks (scope w links) routes) new before after

pub record AreAllFull (w : Writing) (blocks : AllBlocks) (edit : Edit) (reason : Reason)
    : Type 0 where
  pub each :
      (links : Links) (constructor : Name → List ℕ) (routes : Routes)
      → AreMeant w links constructor
      → IsRouted (scope w links) w.plan routes
      → IsFull edit
      (code_needs (scope w links) constructor (all_items (blocks (scope w links) routes))) reason
