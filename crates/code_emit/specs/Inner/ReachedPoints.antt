-- What is written of a reached point, whatever links, descriptors of field constructors and routes are meant.
use Rattle.std.specs.Prelude.{◌≡◌, ℕ, List, [], map, slice_get, Some}
use Rattle.class_model.specs.declared.instr.Instr.{Instr}
use Rattle.class_tree.specs.Headers.{Name}
use Rattle.code_drafts.specs.Drafts.{all_items}
use Rattle.code_drafts.specs.Emits.{Emits, Kept, Writing}
use Rattle.code_drafts.specs.Writable.{AreMeant, IsRouteAt, scope}
use Rattle.code_drafts.specs.declared.template.Template.{Template}
use Rattle.code_drafts.specs.declared.template.Template.TheVariants as variants
use Rattle.code_emit.specs.Inner.DraftedBlocks.{Writes}
use Rattle.code_emit.specs.declared.drafts.Drafts.{Drafts}
use Rattle.flow_code.specs.FlatCode.{point_at}
use Rattle.flow_code.specs.declared.point.Point.{Point}
use Rattle.flow_code.specs.declared.reason.Reason.{Reason}
use Rattle.making_code.specs.Items.{WItem, item}
use Rattle.materialise.specs.Growing.{IsFull}
use Rattle.member_link.specs.Machine.Programs.{Links}
use Rattle.plan_flow.specs.PlanScope.{PlanScope}
use Rattle.plan_flow.specs.Written.Blocks.{Block, state_written}
use Rattle.plan_flow.specs.Written.Routes.{Route, RouteEdge}
use Rattle.plan_flow.specs.Written.Templates.{as_it_is, items_at, made_on_jump}
use Rattle.plan_flow.specs.Written.WrittenConstants.{code_needs}
use Rattle.pool_edit.specs.Edits.{Edit}

-- a reached point, with its route
pub record IsReached (w : Writing) (links : Links) (constructor : Name → List ℕ) (at : ℕ)
    (point : Point) (route : Route)
    : Type 0 where
  pub meant : AreMeant w links constructor
  pub there : point_at w.flat at ≡ Some point
  pub here : IsRouteAt w links at route

-- ---- items

abbrev pub ItemsOf : Type 0
ItemsOf = PlanScope → ℕ → Point → Route → List WItem

pub record EmitsAt (w : Writing) (at : ℕ) (items : ItemsOf) (old new : Edit) (before after : Kept)
    : Type 0 where
  pub each :
      (links : Links) (constructor : Name → List ℕ) (point : Point) (route : Route)
      → IsReached w links constructor at point route
      → Emits (scope w links) constructor old (items (scope w links) at point route) new before after

pub record AreFullAt (w : Writing) (at : ℕ) (items : ItemsOf) (edit : Edit) (reason : Reason)
    : Type 0 where
  pub each :
      (links : Links) (constructor : Name → List ℕ) (point : Point) (route : Route)
      → IsReached w links constructor at point route
      → IsFull edit
      (code_needs (scope w links) constructor (items (scope w links) at point route)) reason

-- those of the point's instruction
abbrev pub own_items : ItemsOf
own_items s at point route = items_at s at point (state_written route) route

-- those that need the pool: the instruction as it is, or make code
abbrev pub rest_of : PlanScope → ℕ → Point → Route → ℕ → Instr → Template → List WItem
rest_of s at point route class instr variants.AsItIs = as_it_is at point route class instr
rest_of s at point route class instr (variants.Jump pops) = map item (made_on_jump s route)
rest_of s at point route class instr other = []

-- ---- blocks

abbrev pub BlocksOf : Type 0
BlocksOf = PlanScope → ℕ → Point → Route → List Block

pub record WritesAt (w : Writing) (at : ℕ) (blocks : BlocksOf) (old new : Edit)
    (before after : Drafts)
    : Type 0 where
  pub each :
      (links : Links) (constructor : Name → List ℕ) (point : Point) (route : Route)
      → IsReached w links constructor at point route
      → Writes (scope w links) constructor old (blocks (scope w links) at point route) new
      before after

pub record AreBlocksFull (w : Writing) (at : ℕ) (blocks : BlocksOf) (edit : Edit) (reason : Reason)
    : Type 0 where
  pub each :
      (links : Links) (constructor : Name → List ℕ) (point : Point) (route : Route)
      → IsReached w links constructor at point route
      → IsFull edit
      (code_needs (scope w links) constructor (all_items (blocks (scope w links) at point route)))
      reason

-- ---- blocks of an edge

abbrev pub EdgeBlocks : Type 0
EdgeBlocks = PlanScope → ℕ → RouteEdge → List Block

pub record WritesEdge (w : Writing) (at number : ℕ) (blocks : EdgeBlocks) (old new : Edit)
    (before after : Drafts)
    : Type 0 where
  pub each :
      (links : Links) (constructor : Name → List ℕ) (point : Point) (route : Route)
      (edge : RouteEdge)
      → IsReached w links constructor at point route
      → slice_get route.edges number ≡ Some edge
      → Writes (scope w links) constructor old (blocks (scope w links) at edge) new before after

pub record IsBlockFull (w : Writing) (at number : ℕ) (blocks : EdgeBlocks) (edit : Edit)
    (reason : Reason)
    : Type 0 where
  pub each :
      (links : Links) (constructor : Name → List ℕ) (point : Point) (route : Route)
      (edge : RouteEdge)
      → IsReached w links constructor at point route
      → slice_get route.edges number ≡ Some edge
      → IsFull edit
      (code_needs (scope w links) constructor (all_items (blocks (scope w links) at edge))) reason
