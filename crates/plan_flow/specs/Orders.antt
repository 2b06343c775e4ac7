-- The order of edges.
use Rattle.std.specs.Prelude.{◌≡◌, ℕ, List, slice_get, Some}
use Rattle.plan_flow.specs.declared.edge.Edge.{Edge}
use Rattle.virtual_state.specs.Orders.{IsBelow}

-- an edge is one of these, with a state that is above
pub record IsCovered (edge : Edge) (edges : List Edge) : Type 0 where
  pub number : ℕ
  pub also : Edge
  pub is : slice_get edges number ≡ Some also
  pub same_by : edge.by ≡ also.by
  pub same_to : edge.to ≡ also.to
  pub below : IsBelow edge.state also.state

-- so is each edge of a list
pub record AreCovered (edges others : List Edge) : Type 0 where
  pub each :
      (number : ℕ) (edge : Edge) → slice_get edges number ≡ Some edge → IsCovered edge others
