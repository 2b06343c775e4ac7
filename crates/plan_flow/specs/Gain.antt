-- When a plan saves something. It is this project's profile.
use Rattle.std.specs.Prelude.{◌≡◌, ℕ, List, slice_get, Option, Some, IsTrue, IsFalse}
use Rattle.class_model.specs.declared.descriptor.Kind.{Kind}
use Rattle.class_model.specs.declared.instr.Instr.TheVariants.{Return, Enter}
use Rattle.flow_code.specs.FlatCode.{point_at}
use Rattle.flow_code.specs.declared.point.FlatInstr.TheVariants.{Of}
use Rattle.flow_code.specs.declared.point.Point.{Point}
use Rattle.plan_flow.specs.Effect.{IsEffect}
use Rattle.plan_flow.specs.PlanScope.{PlanScope}
use Rattle.plan_flow.specs.PlanSlots.{held}
use Rattle.plan_flow.specs.PlanTable.{operand}
use Rattle.plan_flow.specs.Plans.{Plan, PlannedPoint, planned, state_left}
use Rattle.plan_flow.specs.declared.edge.Edge.{Edge}
use Rattle.plan_flow.specs.declared.edge.EdgeKind.{EdgeKind}
use Rattle.plan_flow.specs.declared.edge.EdgeKind.TheVariants as edges
use Rattle.virtual_state.specs.States.{is_present}
use Rattle.virtual_state.specs.declared.slot.Slot.TheVariants.{Virt}

-- an edge that no exception takes
abbrev pub IsNormal : EdgeKind → Type 0
IsNormal edges.Next = Unit {0}
IsNormal (edges.Jump number) = Unit {0}
IsNormal (edges.Handler number) = ⊥

-- At a reached point an object that is still virtual is lost on an edge that no exception takes, or at a return, or its monitor is
-- entered: what is saved is making it, or entering its monitor.
pub data Gains (s : PlanScope) (plan : Plan) : Type 0 where
  lost_on_edge : (at site number : ℕ) (point : PlannedPoint) (edges : List Edge) (edge : Edge)
      → planned plan at ≡ Some point
      → IsTrue (is_present (state_left point).objects site)
      → IsEffect s at (state_left point) edges
      → slice_get edges number ≡ Some edge
      → IsNormal edge.by
      → IsFalse (is_present edge.state.objects site)
      → Gains s plan
  lost_at_return : (at site class : ℕ) (kind : Option Kind) (point : PlannedPoint) (code : Point)
      → planned plan at ≡ Some point
      → IsTrue (is_present (state_left point).objects site)
      → point_at s.flat at ≡ Some code
      → code.instr ≡ Of class (Return kind)
      → Gains s plan
  entered : (at site class : ℕ) (point : PlannedPoint) (code : Point)
      → planned plan at ≡ Some point
      → point_at s.flat at ≡ Some code
      → code.instr ≡ Of class Enter
      → held (state_left point) (operand code.typed 0) ≡ Virt site
      → Gains s plan
