-- An instruction that is done in a state in which it asks for no object.
use Rattle.std.specs.Prelude.{◌≡◌, ℕ, List, [], Some}
use Rattle.class_model.specs.declared.frame.Frame.{Frame}
use Rattle.class_tree.specs.Headers.{Classes}
use Rattle.flow_code.specs.FlatCode.{FlatCode}
use Rattle.flow_code.specs.declared.point.Point.{Point}
use Rattle.member_link.specs.Machine.Programs.{Links}
use Rattle.plan_flow.specs.Effect.{AreEdges}
use Rattle.plan_flow.specs.Inner.RowViews.{plan_row}
use Rattle.plan_flow.specs.Must.{IsMustOf, row_of_point}
use Rattle.plan_flow.specs.PlanRows.{Change, RowEdge, enter_monitor}
use Rattle.plan_flow.specs.PlanScope.{PlanScope, scope_of}
use Rattle.plan_flow.specs.PlanSlots.{changed, held}
use Rattle.plan_flow.specs.declared.edge.Edge.{Edge}
use Rattle.plan_flow.specs.declared.edge.EdgeKind.{EdgeKind}
use Rattle.plan_flow.specs.declared.edge.EdgeKind.TheVariants as kinds
use Rattle.plan_flow.specs.declared.rows.Row.{Row}
use Rattle.virtual_state.specs.Depths.{depth_of}
use Rattle.virtual_state.specs.States.{State}
use Rattle.virtual_state.specs.declared.slot.Slot.TheVariants.{Virt}
use Rattle.virtual_state.specs.declared.slot.VObject.{VObject}

-- what stands in front of the objects behind an edge
abbrev pub front_objects : PlanScope → State → Change → EdgeKind → List VObject
front_objects s state how (kinds.Handler number) = []
front_objects s state how by = changed s state how

-- a monitor that is entered can be counted once more
abbrev pub IsNotFull : State → Change → Type 0
IsNotFull state (enter_monitor place) =
    (site : ℕ) → held state place ≡ Virt site → depth_of state site ≡ Some 65535 → ⊥
IsNotFull state other = Unit {0}

-- the row is that of a point with these types
pub record IsRowOf (s : PlanScope) (at : ℕ) (point : Point) (types : Frame) (row : Row)
    : Type 0 where
  pub same_types : point.typed ≡ types
  pub same_row : plan_row types row ≡ row_of_point s at point

-- The instruction asks for no object.
pub record MayBeDone (classes : Classes) (flat : FlatCode) (at : ℕ) (types : Frame) (row : Row)
    (state : State)
    : Type 0 where
  pub links : Links
  pub point : Point
  pub row_of : IsRowOf (scope_of classes links flat) at point types row
  pub asks_none : IsMustOf (scope_of classes links flat) at point state []

-- These are edges of the row, with the states behind them.
pub record HaveStates (classes : Classes) (flat : FlatCode) (at : ℕ) (types : Frame) (row : Row)
    (state : State) (edges : List Edge)
    : Type 0 where
  pub rows : List RowEdge
  pub each : (links : Links) (point : Point)
      → IsRowOf (scope_of classes links flat) at point types row
      → AreEdges (scope_of classes links flat) point at state rows edges
