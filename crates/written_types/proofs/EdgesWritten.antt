-- How edges of a plan are written: an item leads to the target, or control falls on to it.
use Rattle.std.proofs.Common.{◌≡◌, ◌<◌, ℕ, suc, true, Some, slice_get}
use Rattle.plan_flow.specs.Plans.{MadeEdge, PlannedPoint, planned}
use Rattle.plan_flow.specs.Written.Blocks.{of_point}
use Rattle.plan_flow.specs.Written.Finish.{Finished, begins_point, is_empty}
use Rattle.plan_flow.specs.Written.FramedCode.{is_led_to}
use Rattle.plan_flow.specs.Written.WrittenCode.{block_items, start_of}
use Rattle.written_types.proofs.Given.{Given}
use Rattle.written_types.specs.Writing.{Writing, items_in}

-- An edge goes to the next point; or an item leads to the first block of its target; or that block comes behind the instruction's own, and blocks
-- between them write nothing.
pub data EdgeWritten (w : Writing) (from to : ℕ) : Type 0 where
  goes_next : to ≡ suc from → EdgeWritten w from to
  is_led : is_led_to (items_in w) (start_of w.form w.blocks (begins_point to)) ≡ true → EdgeWritten w from to
  over_empties : (own first : ℕ) (one other : Finished)
      → slice_get w.blocks own ≡ Some one
      → one.block.of ≡ of_point from
      → slice_get w.blocks first ≡ Some other
      → begins_point to other.block.of ≡ true
      → own < first
      → ((number : ℕ) (between : Finished)
      → own < number
      → number < first
      → slice_get w.blocks number ≡ Some between
      → is_empty (block_items w.form between) ≡ true)
      → EdgeWritten w from to

-- each edge of the plan
pub record EdgesWritten (w : Writing) (given : Given w) : Type 0 where
  pub each : (from number : ℕ) (point : PlannedPoint) (edge : MadeEdge)
      → planned given.setting.plan from ≡ Some point
      → slice_get point.edges number ≡ Some edge
      → EdgeWritten w from edge.to
