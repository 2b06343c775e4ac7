-- The blocks of a point, one by one.
use Rattle.std.specs.Prelude.{◌≡◌, ℕ, [], ◌∷◌, Option, Some, None}
use Rattle.code_drafts.specs.Emits.{Writing}
use Rattle.code_drafts.specs.Writable.{IsLeftAt}
use Rattle.code_emit.specs.Inner.ReachedPoints.{BlocksOf}
use Rattle.plan_flow.specs.Plans.{planned}
use Rattle.plan_flow.specs.Written.Blocks.{before_point, instruction_block, make_block, next_block}
use Rattle.plan_flow.specs.Written.Routes.{edge_by}
use Rattle.plan_flow.specs.declared.edge.EdgeKind.TheVariants as edges
use Rattle.virtual_state.specs.States.{State}

-- the state in which the instruction of a point is written, if the point is reached
abbrev pub IsLeftOrNone : Writing → ℕ → Option State → Type 0
IsLeftOrNone w at None = planned w.plan at ≡ None
IsLeftOrNone w at (Some state) = IsLeftAt w at state

abbrev pub before_blocks : BlocksOf
before_blocks s at point route =
    make_block s (before_point at) at route.state route.made route.order None

abbrev pub own_blocks : BlocksOf
own_blocks s at point route = instruction_block s at point route ∷ []

abbrev pub onward_blocks : BlocksOf
onward_blocks s at point route = next_block s at (edge_by route edges.Next)
