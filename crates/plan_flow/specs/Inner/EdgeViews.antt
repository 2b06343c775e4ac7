-- Edges of the code as those of rows.
use Rattle.std.specs.Prelude.{◌≡◌, ◌++◌, ℕ, List, Some, false, map, slice_get}
use Rattle.std.specs.List.{filter}
use Rattle.plan_flow.specs.Inner.Gaining.{is_normal}
use Rattle.plan_flow.specs.Inner.RowViews.{guard_of}
use Rattle.plan_flow.specs.PlanRows.{RowEdge}
use Rattle.plan_flow.specs.PlanSlots.{is_open}
use Rattle.plan_flow.specs.declared.edge.Edge.{Edge}
use Rattle.plan_flow.specs.declared.edges.GuardedEdge.{GuardedEdge}
use Rattle.virtual_state.specs.States.{State}

abbrev pub row_edge : GuardedEdge → RowEdge
row_edge edge = record { by = edge.by; to = edge.to; guard = guard_of edge.guard }

-- The same edges, and those of these that control may take.
pub record IsOpened (state : State) (before after : List GuardedEdge) (edges : List RowEdge)
    : Type 0 where
  pub same : map row_edge after
      ≡ map row_edge before ++ filter (λ edge. is_open state edge.guard) edges

-- one of these edges leads by a handler to the point to which another edge leads by a handler
pub record IsAlikeIn (edges : List Edge) (edge : GuardedEdge) (other : Edge) : Type 0 where
  pub number : ℕ
  pub there : slice_get edges number ≡ Some other
  pub same_to : other.to ≡ edge.to
  pub caught : is_normal edge.by ≡ false
  pub also : is_normal other.by ≡ false
