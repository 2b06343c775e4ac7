-- Edges of plans that do not lead to handlers, by their kinds.
use Rattle.std.specs.Prelude.{◌≡◌, ◌+◌, ℕ, Bool, false, List, [], ◌∷◌, slice_get, Some, IsTrue, if◌then◌else◌}
use Rattle.plan_flow.specs.Plans.{MadeEdge}
use Rattle.plan_flow.specs.Written.Routes.{is_kind}
use Rattle.plan_flow.specs.declared.edge.EdgeKind.TheVariants as kinds

-- the first edge is the one to the next point
abbrev pub begins_with_next : List MadeEdge → Bool
begins_with_next [] = false
begins_with_next (edge ∷ edges) = is_kind edge.by kinds.Next

-- the number of the first edge to a target
abbrev pub first_jump : Bool → ℕ
first_jump falls = if falls then 1 else 0

-- Edges of which none but the first is the one to the next point, and that lead to the targets from target 0 on.
pub record AreCounted (edges : List MadeEdge) : Type 0 where
  pub each :
      (number : ℕ) (edge : MadeEdge)
      → slice_get edges (first_jump (begins_with_next edges) + number) ≡ Some edge
      → IsTrue (is_kind edge.by (kinds.Jump number))

-- edges that are counted, if a mark says so
pub record AreMarked (mark : Bool) (edges : List MadeEdge) : Type 0 where
  pub counted : IsTrue mark → AreCounted edges
