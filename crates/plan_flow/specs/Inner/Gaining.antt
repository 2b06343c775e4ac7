-- When a plan saves something, by what the plan has of its points and edges alone.
use Rattle.std.specs.Prelude.{◌⊎◌, ◌&&◌, ◌||◌, ◌-◌, ℕ, Bool, true, false, not, List, length, Option, Some, None, IsTrue}
use Rattle.std.specs.List.{list_any}
use Rattle.class_model.specs.declared.instr.Instr.TheVariants.{Return, Enter}
use Rattle.flow_code.specs.declared.point.FlatInstr.{FlatInstr}
use Rattle.flow_code.specs.declared.point.FlatInstr.TheVariants.{Of}
use Rattle.plan_flow.specs.PlanSlots.{held}
use Rattle.plan_flow.specs.Plans.{MadeEdge, Plan, PlannedPoint, planned, state_left}
use Rattle.plan_flow.specs.declared.edge.EdgeKind.{EdgeKind}
use Rattle.plan_flow.specs.declared.edge.EdgeKind.TheVariants as edges
use Rattle.virtual_state.specs.Sites.{has}
use Rattle.virtual_state.specs.States.{State, is_present}
use Rattle.virtual_state.specs.declared.slot.Slot.{Slot}
use Rattle.virtual_state.specs.declared.slot.Slot.TheVariants.{Virt}

-- ---- points

-- an object is present
pub record HasSite (state : State) : Type 0 where
  pub site : ℕ
  pub present : IsTrue (is_present state.objects site)

-- whether a slot holds a virtual object, and stays so where these objects are made
abbrev pub is_kept_virtual : List ℕ → Slot → Bool
is_kept_virtual made (Virt site) = not (has made site)
is_kept_virtual made other = false

-- an instruction is a return where an object is virtual, or enters the monitor of one
abbrev pub GainsBy : FlatInstr → PlannedPoint → Type 0
GainsBy (Of class (Return kind)) point = HasSite (state_left point)
GainsBy (Of class Enter) point =
    IsTrue (is_kept_virtual point.made (held point.state (length point.state.slots - 1)))
GainsBy other point = ⊥

-- ---- edges

-- whether no exception takes an edge
abbrev pub is_normal : EdgeKind → Bool
is_normal edges.Next = true
is_normal (edges.Jump number) = true
is_normal (edges.Handler number) = false

-- whether an object is virtual before a point, if that is reached
abbrev pub is_before : Option PlannedPoint → ℕ → Bool
is_before None site = false
is_before (Some point) site = is_present point.state.objects site

-- whether it is behind an edge: it is made there, or virtual before the target
abbrev pub is_behind : Plan → ℕ → MadeEdge → Bool
is_behind plan site edge = has edge.made site || is_before (planned plan edge.to) site

-- whether it is lost on an edge that no exception takes
abbrev pub loses : Plan → ℕ → MadeEdge → Bool
loses plan site edge = is_normal edge.by && not (is_behind plan site edge)

-- one of those that are virtual when the instruction is done is lost on such an edge
pub record IsLostOnEdge (plan : Plan) (point : PlannedPoint) : Type 0 where
  pub site : ℕ
  pub present : IsTrue (is_present (state_left point).objects site)
  pub lost : IsTrue (list_any (loses plan site) point.edges)

-- a plan saves something at a point with an instruction
abbrev pub GainsAt : Plan → Option PlannedPoint → Option FlatInstr → Type 0
GainsAt plan (Some point) (Some instr) = GainsBy instr point ⊎ IsLostOnEdge plan point
GainsAt plan point instr = ⊥
