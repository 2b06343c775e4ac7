-- Pads, by their sort.
use Rattle.std.specs.Prelude.{◌≡◌, ℕ, Bool, List, [], slice_get, Option, Some, None}
use Rattle.std.specs.List.{flat_map}
use Rattle.code_drafts.specs.Drafts.{kind_of}
use Rattle.code_drafts.specs.declared.draft.BlockKind.{BlockKind}
use Rattle.code_emit.specs.Inner.ReachedPoints.{BlocksOf, EdgeBlocks}
use Rattle.code_emit.specs.declared.pads.Pads.{Pads}
use Rattle.code_emit.specs.declared.pads.Pads.TheVariants as sorts
use Rattle.plan_flow.specs.PlanScope.{PlanScope}
use Rattle.plan_flow.specs.Plans.{MadeEdge, Plan, PlannedPoint, planned}
use Rattle.plan_flow.specs.Written.Blocks.{Block, handler_pad_of, handler_pads, jump_pad_of, jump_pads, make_block}
use Rattle.plan_flow.specs.Written.Routes.{RouteEdge}

abbrev pub pad_of : Pads → Bool → EdgeBlocks
pad_of sorts.Jump decided s at edge = jump_pad_of s at decided edge edge.by
pad_of sorts.Handler decided s at edge = handler_pad_of s at edge edge.by

-- those of all edges of a point
abbrev pub edge_pads : Pads → Bool → BlocksOf
edge_pads of decided s at point route = flat_map (pad_of of decided s at) route.edges

abbrev pub pads_at : Pads → BlocksOf
pads_at sorts.Jump s at point route = jump_pads s at point route
pads_at sorts.Handler s at point route = handler_pads s at point route

-- the pad of an edge as the code names it
abbrev pub block_for : PlanScope → Option BlockKind → RouteEdge → List Block
block_for s None edge = []
block_for s (Some kind) edge =
    make_block s (kind_of kind) edge.to edge.state edge.made edge.order (Some edge.to)

-- no object is made on an edge of a point
pub record MakesNone (plan : Plan) (at : ℕ) : Type 0 where
  pub each :
      (point : PlannedPoint) (number : ℕ) (edge : MadeEdge)
      → planned plan at ≡ Some point
      → slice_get point.edges number ≡ Some edge
      → edge.made ≡ []
