-- The blocks of written code, in order. It is this project's profile.
--
-- Of each reached point: the make code before its instruction, the instruction, and the make code on its edge to the next point. Behind all
-- points stand pads: of each jump edge on which objects are made, and then of each handler edge. The make code on the edge of a goto, or of a
-- jump that is decided, belongs to its instruction.
use Rattle.std.specs.Prelude.{ℕ, suc, Bool, true, false, List, [], ◌∷◌, ◌++◌, map, Option, Some, None, option_map, if◌then◌else◌}
use Rattle.std.specs.List.{flat_map}
use Rattle.class_model.specs.declared.instr.Instr.{Instr}
use Rattle.class_model.specs.declared.instr.Instr.TheVariants.{Goto}
use Rattle.flow_code.specs.declared.point.FlatInstr.{FlatInstr}
use Rattle.flow_code.specs.declared.point.FlatInstr.TheVariants.{Of, NullTest}
use Rattle.flow_code.specs.declared.point.Point.{Point}
use Rattle.making_code.specs.Items.{WItem, item}
use Rattle.making_code.specs.MakeCode.{make_code}
use Rattle.plan_flow.specs.PlanScope.{PlanScope}
use Rattle.plan_flow.specs.Written.Routes.{Route, RouteEdge, Routes, edge_by}
use Rattle.plan_flow.specs.Written.Templates.{is_folded, items_at}
use Rattle.plan_flow.specs.declared.edge.EdgeKind.{EdgeKind}
use Rattle.plan_flow.specs.declared.edge.EdgeKind.TheVariants as edges
use Rattle.virtual_state.specs.Sites.{has}
use Rattle.virtual_state.specs.States.{State}
use Rattle.virtual_state.specs.Without.{without}

-- what a block is: by the number of a point, and of a target or a handler
pub data BlockOf : Type 0 where
  before_point : ℕ → BlockOf
  of_point : ℕ → BlockOf
  on_next_edge : ℕ → BlockOf
  jump_pad : ℕ → ℕ → BlockOf
  handler_pad : ℕ → ℕ → BlockOf

-- A block: the typed point and the state with which it begins; its items; and the point that it goes to at its end, if it does not go on to
-- the block behind it.
pub record Block : Type 0 where
  pub of : BlockOf
  pub at : ℕ
  pub state : State
  pub items : List WItem
  pub leaves : Option ℕ

-- ---- make code

abbrev pub making : PlanScope → ℕ → State → List ℕ → List ℕ → List WItem
making s at state made order = map item (make_code s.flat at state made order)

-- a block of make code, if objects are made
abbrev pub make_block :
    PlanScope → BlockOf → ℕ → State → List ℕ → List ℕ → Option ℕ → List Block
make_block s of at state [] order leaves = []
make_block s of at state (site ∷ sites) order leaves = record {
  of = of;
  at = at;
  state = state;
  items = making s at state (site ∷ sites) order;
  leaves = leaves;
} ∷ []

-- ---- points

-- the state in which the instruction of a point is written
abbrev pub state_written : Route → State
state_written route = without route.state (has route.made)

-- the instruction goes to its target, and on nowhere else, and its jump edge has no pad: a goto, or a comparison that a virtual object
-- decides
abbrev pub is_decided : Point → Route → Bool
is_decided point route = of_instr point.instr where
  of_instr : FlatInstr → Bool
  of_instr (Of class (Goto to)) = true
  of_instr (Of class instr) = is_folded point.typed (state_written route) instr
  of_instr (NullTest local) = false

abbrev pub leaves_to : Point → Route → Option ℕ
leaves_to point route =
    if is_decided point route then option_map (λ edge. edge.to) (edge_by route (edges.Jump 0))
    else None

abbrev pub instruction_block : PlanScope → ℕ → Point → Route → Block
instruction_block s at point route = record {
  of = of_point at;
  at = at;
  state = state_written route;
  items = items_at s at point (state_written route) route;
  leaves = leaves_to point route;
}

abbrev pub next_block : PlanScope → ℕ → Option RouteEdge → List Block
next_block s at None = []
next_block s at (Some edge) =
    make_block s (on_next_edge at) edge.to edge.state edge.made edge.order None

abbrev pub point_blocks : PlanScope → ℕ → Point → Route → List Block
point_blocks s at point route =
    make_block s (before_point at) at route.state route.made route.order None
    ++ (instruction_block s at point route ∷ [])
    ++ next_block s at (edge_by route edges.Next)

-- ---- pads

abbrev pub jump_pad_of : PlanScope → ℕ → Bool → RouteEdge → EdgeKind → List Block
jump_pad_of s at false edge (edges.Jump number) =
    make_block s (jump_pad at number) edge.to edge.state edge.made edge.order (Some edge.to)
jump_pad_of s at decided edge by = []

abbrev pub jump_pads : PlanScope → ℕ → Point → Route → List Block
jump_pads s at point route =
    flat_map (λ edge. jump_pad_of s at (is_decided point route) edge edge.by) route.edges

abbrev pub handler_pad_of : PlanScope → ℕ → RouteEdge → EdgeKind → List Block
handler_pad_of s at edge (edges.Handler number) =
    make_block s (handler_pad at number) edge.to edge.state edge.made edge.order (Some edge.to)
handler_pad_of s at edge by = []

abbrev pub handler_pads : PlanScope → ℕ → Point → Route → List Block
handler_pads s at point route =
    flat_map (λ edge. handler_pad_of s at edge edge.by) route.edges

-- ---- all

-- what is made of each reached point, from a number on
abbrev pub of_reached : (ℕ → Point → Route → List Block) → ℕ → List Point → Routes → List Block
of_reached blocks at [] routes = []
of_reached blocks at (point ∷ points) [] = []
of_reached blocks at (point ∷ points) (None ∷ routes) = of_reached blocks (suc at) points routes
of_reached blocks at (point ∷ points) (Some route ∷ routes) =
    blocks at point route ++ of_reached blocks (suc at) points routes

abbrev pub blocks_of : PlanScope → Routes → List Block
blocks_of s routes =
    of_reached (point_blocks s) 0 s.flat.points routes
    ++ of_reached (jump_pads s) 0 s.flat.points routes
    ++ of_reached (handler_pads s) 0 s.flat.points routes
