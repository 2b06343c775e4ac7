-- Edges by handlers to one point, of which one state is shared.
use Rattle.std.proofs.Common.{◌≡◌, ℕ, zero, suc, false, List, [], ◌∷◌, slice_get, Some, sym, ap, subst, ◌∙◌}
use Rattle.std.proofs.lemmas.Bool.{true≢false}
use Rattle.std.proofs.lemmas.Option.{none-some, same_Some}
use Rattle.class_model.specs.declared.frame.Frame.{Frame}
use Rattle.class_tree.specs.Headers.{Classes}
use Rattle.flow_code.specs.FlatCode.{FlatCode}
use Rattle.flow_code.specs.declared.point.Point.{Point}
use Rattle.member_link.specs.Machine.Programs.{Links}
use Rattle.plan_flow.specs.Effect.{AreEdges, IsStateBehind}
use Rattle.plan_flow.specs.Inner.Doing.{HaveStates, IsRowOf}
use Rattle.plan_flow.specs.Inner.EdgeViews.{IsAlikeIn, row_edge}
use Rattle.plan_flow.specs.Inner.Gaining.{is_normal}
use Rattle.plan_flow.specs.Inner.RowViews.{guard_of}
use Rattle.plan_flow.specs.PlanRows.{Guard, RowEdge}
use Rattle.plan_flow.specs.PlanScope.{PlanScope, scope_of}
use Rattle.plan_flow.specs.declared.edge.Edge.{Edge}
use Rattle.plan_flow.specs.declared.edge.EdgeKind.{EdgeKind}
use Rattle.plan_flow.specs.declared.edge.EdgeKind.TheVariants as kinds
use Rattle.plan_flow.specs.declared.edges.GuardedEdge.{GuardedEdge}
use Rattle.plan_flow.specs.declared.rows.Row.{Row}
use Rattle.virtual_state.specs.States.{State}

abbrev row_by : EdgeKind → ℕ → Guard → RowEdge
row_by by to guard = record { by = by; to = to; guard = guard }

-- the state behind an edge by a handler depends on its target alone
caught_alike :
    (s : PlanScope) (point : Point) (at : ℕ) (before : State) (one other : EdgeKind) (to : ℕ) (guard also : Guard) (state : State)
    → is_normal one ≡ false
    → is_normal other ≡ false
    → IsStateBehind s point at before (row_by one to guard) state
    → IsStateBehind s point at before (row_by other to also) state
caught_alike s point at before (kinds.Handler number) (kinds.Handler other) to guard also state caught caught_too behind =
    record { is_state = behind.is_state; is = behind.is }
caught_alike s point at before (kinds.Handler number) kinds.Next to guard also state caught caught_too behind = absurd (true≢false caught_too)
caught_alike s point at before (kinds.Handler number) (kinds.Jump other) to guard also state caught caught_too behind = absurd (true≢false caught_too)
caught_alike s point at before kinds.Next other to guard also state caught caught_too behind = absurd (true≢false caught)
caught_alike s point at before (kinds.Jump number) other to guard also state caught caught_too behind = absurd (true≢false caught)

record IsAmong (s : PlanScope) (point : Point) (at : ℕ) (before : State) (edge : Edge) : Type 0 where
  row : RowEdge
  by : edge.by ≡ row.by
  to : edge.to ≡ row.to
  behind : IsStateBehind s point at before row edge.state

among :
    (s : PlanScope) (point : Point) (at : ℕ) (before : State) (rows : List RowEdge) (edges : List Edge) (number : ℕ) (edge : Edge)
    → AreEdges s point at before rows edges
    → slice_get edges number ≡ Some edge
    → IsAmong s point at before edge
among s point at before [] [] number edge are is = absurd (none-some edge is)
among s point at before [] (first ∷ edges) number edge are is = absurd are
among s point at before (row ∷ rows) [] number edge are is = absurd are
among s point at before (row ∷ rows) (first ∷ edges) zero edge are is =
    subst (IsAmong s point at before) (same_Some first edge is) (record { row = row; by = are.0; to = are.1; behind = are.2 })
among s point at before (row ∷ rows) (first ∷ edges) (suc number) edge are is = among s point at before rows edges number edge are.3 is

pub alike_behind :
    {classes : Classes} {flat : FlatCode} {at : ℕ} {types : Frame} {row : Row} {before : State} {edges : List Edge} {edge : GuardedEdge} {other : Edge} {state : State}
    → HaveStates classes flat at types row before edges
    → IsAlikeIn edges edge other
    → state ≡ other.state
    → (links : Links) (point : Point)
    → IsRowOf (scope_of classes links flat) at point types row
    → IsStateBehind (scope_of classes links flat) point at before (row_edge edge) state
alike_behind {classes} {flat} {at} {types} {row} {before} {edges} {edge} {other} {state} have alike same links point row_of =
    let s = scope_of classes links flat in
    let one = among s point at before have.rows edges alike.number other (have.each links point row_of) alike.there in
    let caught : is_normal one.row.by ≡ false = ap is_normal (sym one.by) ∙ alike.also in
    let to : one.row.to ≡ edge.to = sym one.to ∙ alike.same_to in
    subst (λ (n : ℕ). IsStateBehind s point at before (row_by edge.by n (guard_of edge.guard)) state) to
    (subst (IsStateBehind s point at before (row_by edge.by one.row.to (guard_of edge.guard))) (sym same)
    (caught_alike s point at before one.row.by edge.by one.row.to one.row.guard (guard_of edge.guard) other.state caught alike.caught one.behind))
