-- Which objects written code makes and which monitors it enters, in order, by the plan alone. It is this project's profile.
use Rattle.std.specs.Prelude.{ℕ, Bool, true, false, List, [], ◌∷◌, ◌++◌, replicate, Option, Some, None, if◌then◌else◌}
use Rattle.std.specs.List.{flat_map, slice_get}
use Rattle.class_model.specs.PoolChecks.{class_at}
use Rattle.class_model.specs.declared.instr.Instr.{Instr}
use Rattle.class_model.specs.declared.instr.Instr.TheVariants.{Enter, New}
use Rattle.class_tree.specs.Headers.{Name}
use Rattle.flow_code.specs.declared.point.FlatInstr.{FlatInstr}
use Rattle.flow_code.specs.declared.point.FlatInstr.TheVariants.{Of, NullTest}
use Rattle.flow_code.specs.declared.point.Point.{Point}
use Rattle.flow_code.specs.declared.point.Site.{Site}
use Rattle.plan_flow.specs.PlanScope.{PlanScope, pool_of, site_at}
use Rattle.plan_flow.specs.PlanSlots.{held}
use Rattle.plan_flow.specs.PlanTable.{operand}
use Rattle.plan_flow.specs.Written.Blocks.{is_decided, state_written}
use Rattle.plan_flow.specs.Written.Routes.{Route, RouteEdge, Routes, edge_by}
use Rattle.plan_flow.specs.Written.Templates.{is_virtual}
use Rattle.plan_flow.specs.declared.edge.EdgeKind.{EdgeKind}
use Rattle.plan_flow.specs.declared.edge.EdgeKind.TheVariants as edges
use Rattle.virtual_state.specs.States.{State, object_of}
use Rattle.virtual_state.specs.declared.slot.VObject.{VObject}

-- a new of a class, or a monitorenter
pub data Place : Type 0 where
  makes_object : Name → Place
  enters_monitor : Place

-- the objects of sites are made in order, and their monitors entered as often as they are held
abbrev pub site_places : PlanScope → State → ℕ → List Place
site_places s state site = of_parts (slice_get s.flat.sites site) (object_of state.objects site) where
  of_parts : Option Site → Option VObject → List Place
  of_parts (Some one) (Some object) =
      makes_object one.class ∷ replicate object.depth enters_monitor
  of_parts one object = []

abbrev pub made_places : PlanScope → State → List ℕ → List Place
made_places s state order = flat_map (site_places s state) order

-- what is made on an edge
abbrev pub edge_places : PlanScope → Option RouteEdge → List Place
edge_places s None = []
edge_places s (Some edge) = made_places s edge.state edge.order

-- a new of no candidate site, and a monitorenter of what is plain
abbrev pub new_places : Option ℕ → Option Name → List Place
new_places None (Some class) = makes_object class ∷ []
new_places site class = []

abbrev pub instr_places : PlanScope → ℕ → Point → State → FlatInstr → List Place
instr_places s at point state (Of class (New index)) =
    new_places (site_at s.flat at) (class_at (pool_of s class) index)
instr_places s at point state (Of class Enter) =
    if is_virtual (held state (operand point.typed 0)) then [] else enters_monitor ∷ []
instr_places s at point state instr = []

abbrev pub point_places : PlanScope → ℕ → Point → Route → List Place
point_places s at point route =
    made_places s route.state route.order
    ++ instr_places s at point (state_written route) point.instr
    ++ (if is_decided point route then edge_places s (edge_by route (edges.Jump 0)) else [])
    ++ edge_places s (edge_by route edges.Next)

-- those of pads
abbrev pub jump_pad_places : PlanScope → Bool → RouteEdge → EdgeKind → List Place
jump_pad_places s false edge (edges.Jump number) = made_places s edge.state edge.order
jump_pad_places s decided edge by = []

abbrev pub jump_places : PlanScope → ℕ → Point → Route → List Place
jump_places s at point route =
    flat_map (λ edge. jump_pad_places s (is_decided point route) edge edge.by) route.edges

abbrev pub handler_pad_places : PlanScope → RouteEdge → EdgeKind → List Place
handler_pad_places s edge (edges.Handler number) = made_places s edge.state edge.order
handler_pad_places s edge by = []

abbrev pub handler_places : PlanScope → ℕ → Point → Route → List Place
handler_places s at point route =
    flat_map (λ edge. handler_pad_places s edge edge.by) route.edges

-- ---- all

abbrev pub of_reached : (ℕ → Point → Route → List Place) → ℕ → List Point → Routes → List Place
of_reached places at [] routes = []
of_reached places at (point ∷ points) [] = []
of_reached places at (point ∷ points) (None ∷ routes) =
    of_reached places (ℕ.suc at) points routes
of_reached places at (point ∷ points) (Some route ∷ routes) =
    places at point route ++ of_reached places (ℕ.suc at) points routes

-- The places of written code, by the routes of its plan.
abbrev pub places_of : PlanScope → Routes → List Place
places_of s routes =
    of_reached (point_places s) 0 s.flat.points routes
    ++ of_reached (jump_places s) 0 s.flat.points routes
    ++ of_reached (handler_places s) 0 s.flat.points routes
