-- Points from which control does not leave.
use Rattle.std.specs.Prelude.{◌≡◌, ℕ, ◌+◌, ◌<◌, List, length, slice_get, Some, IsTrue}
use Rattle.flow_code.specs.declared.point.Point.{Point}
use Rattle.plan_flow.specs.PlanTable.{falls_on}

-- there is a point behind each from which control falls through
pub record FlowOn (points : List Point) : Type 0 where
  pub next :
      (at : ℕ) (point : Point)
      → slice_get points at ≡ Some point
      → IsTrue (falls_on point.instr)
      → at + 1 < length points
