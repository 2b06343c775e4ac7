-- An instruction has one list of edges in each state.
use Rattle.std.proofs.Common.{◌≡◌, ℕ, List, [], ◌∷◌, Option, Some, None, is_some, refl, sym, ap, ◌∙◌}
use Rattle.std.proofs.lemmas.Option.{none-some}
use Rattle.flow_code.specs.FlatCode.{point_at}
use Rattle.flow_code.specs.declared.point.Point.{Point}
use Rattle.plan_flow.specs.Effect.{AreEdges, IsEffectIn}
use Rattle.plan_flow.specs.Laws.RoutedPlans.{HasOneEffect}
use Rattle.plan_flow.specs.Must.{open_edges}
use Rattle.plan_flow.specs.PlanRows.{RowEdge}
use Rattle.plan_flow.specs.PlanScope.{PlanScope}
use Rattle.plan_flow.specs.declared.edge.Edge.{Edge}
use Rattle.virtual_state.specs.Laws.Objects.{same_objects}
use Rattle.virtual_state.specs.Making.{IsStateOf}
use Rattle.virtual_state.specs.States.{IsState, State, object_of}
use Rattle.virtual_state.specs.declared.slot.Slot.{Slot}
use Rattle.virtual_state.specs.declared.slot.VObject.{VObject}

-- ---- a state

-- objects of one are those of the other
object_kept : (slots : List Slot) (objects : List VObject) (one other : State) (site : ℕ)
    → IsStateOf slots objects one
    → IsStateOf slots objects other
    → (found : VObject)
    → object_of one.objects site ≡ Some found
    → object_of other.objects site ≡ Some found
object_kept slots objects one other site is also found here =
    let reached = is.reached site (ap is_some here) in
    also.kept site reached ∙ sym (is.kept site reached) ∙ here

same_object : (slots : List Slot) (objects : List VObject) (one other : State) (site : ℕ)
    → IsStateOf slots objects one
    → IsStateOf slots objects other
    → object_of one.objects site ≡ object_of other.objects site
same_object slots objects one other site is also = by (object_of one.objects site) (object_of other.objects site) refl refl where
  by : (left right : Option VObject) → object_of one.objects site ≡ left → object_of other.objects site ≡ right
      → object_of one.objects site ≡ object_of other.objects site
  by (Some found) right here there = here ∙ sym (object_kept slots objects one other site is also found here)
  by None None here there = here ∙ sym there
  by None (Some found) here there = absurd (none-some found (sym here ∙ object_kept slots objects other one site also is found there))

-- the slots and what they reach give one state
pub one_state : (slots : List Slot) (objects : List VObject) (one other : State)
    → IsState one
    → IsState other
    → IsStateOf slots objects one
    → IsStateOf slots objects other
    → one ≡ other
one_state slots objects one other state also is is_also =
    let places = is.same_slots ∙ sym is_also.same_slots in
    let same =
    same_objects one.objects other.objects state.order also.order (λ site. same_object slots objects one other site is is_also) in
    λ i. record { slots = places i; objects = same i }

-- ---- edges

same_edges : (s : PlanScope) (point : Point) (at : ℕ) (before : State) (rows : List RowEdge) (edges also : List Edge)
    → AreEdges s point at before rows edges
    → AreEdges s point at before rows also
    → edges ≡ also
same_edges s point at before [] [] [] are are_also = refl
same_edges s point at before [] [] (other ∷ also) are are_also = absurd are_also
same_edges s point at before [] (edge ∷ edges) also are are_also = absurd are
same_edges s point at before (row ∷ rows) [] also are are_also = absurd are
same_edges s point at before (row ∷ rows) (edge ∷ edges) [] are are_also = absurd are_also
same_edges s point at before (row ∷ rows) (edge ∷ edges) (other ∷ also) are are_also =
    let by_same = are.0 ∙ sym are_also.0 in
    let to_same = are.1 ∙ sym are_also.1 in
    let state_same = one_state _ _ edge.state other.state are.2.is_state are_also.2.is_state are.2.is are_also.2.is in
    let rest = same_edges s point at before rows edges also are.3 are_also.3 in
    λ i. record { to = to_same i; by = by_same i; state = state_same i } ∷ rest i

pub one_effect : (s : PlanScope) → HasOneEffect s
one_effect s at state edges also is is_also = by (point_at s.flat at) is is_also where
  by : (point : Option Point) → IsEffectIn s at point state edges → IsEffectIn s at point state also → edges ≡ also
  by None here there = here ∙ sym there
  by (Some point) here there = same_edges s point at state (open_edges s at point state) edges also here there
