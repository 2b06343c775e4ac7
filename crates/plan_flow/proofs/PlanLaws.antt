-- A flat code has at most one least plan, and no valid plan keeps more objects virtual.
use Rattle.std.proofs.Common.{◌≡◌, ℕ, suc, List, [], ◌∷◌, length, Some, IsTrue, refl, sym, ap, subst, ◌∙◌, inl, inr, arith}
use Rattle.std.proofs.lemmas.Bool.{cases_Bool}
use Rattle.std.proofs.lemmas.Option.{same_Some, none-some}
use Rattle.plan_flow.specs.Effect.{IsEffect}
use Rattle.plan_flow.specs.PlanScope.{PlanScope}
use Rattle.plan_flow.specs.Plans.{MadeEdge, PlannedPoint, Plan, planned, state_left, IsMadeIn, AllLead, IsValidAt, IsPlanBelow, IsPointBelow, IsLeast}
use Rattle.plan_flow.specs.declared.edge.Edge.{Edge}
use Rattle.virtual_state.specs.Orders.{IsBelow}
use Rattle.virtual_state.specs.Sites.{has, differing}
use Rattle.virtual_state.specs.States.{State, is_present}
use Rattle.virtual_state.specs.Without.{without}
use Rattle.virtual_state.specs.Laws.Objects.{some_or_none, found_present}
use Rattle.virtual_state.specs.Laws.Orders.{below_both_ways}
use Rattle.virtual_state.specs.Laws.Removals.{gone, present_before, present_behind}
use Rattle.plan_flow.proofs.EffectGrows.{effect_is_one}
use Rattle.plan_flow.proofs.MustLaws.{same_sites, same_truth}

-- ---- no valid plan keeps more

pub present_below :
    (low high : State) (site : ℕ)
    → IsBelow low high
    → IsTrue (is_present high.objects site)
    → IsTrue (is_present low.objects site)
present_below low high site below present = present_before (has below.sites) low.objects site (subst (λ (state : State). IsTrue (is_present state.objects site)) below.is present)

-- what the least plan says of a point that it reaches is below what another one says
pub below_at :
    (plan other : Plan) (at : ℕ) (point also : PlannedPoint)
    → IsPlanBelow plan other
    → planned plan at ≡ Some point
    → planned other at ≡ Some also
    → IsPointBelow point also
below_at plan other at point also below is is_also =
    let found = below.each at point is in
    subst (IsPointBelow point) (same_Some found.0 also (sym found.1 ∙ is_also)) found.2

-- ---- two plans that are below each other

pub record AreSamePoints (point other : PlannedPoint) : Type 0 where
  pub state : point.state ≡ other.state
  pub left : state_left point ≡ state_left other

-- each point that one of them reaches is reached by the other with the same states
same_at :
    (plan other : Plan)
    → IsPlanBelow plan other
    → IsPlanBelow other plan
    → (at : ℕ) (point : PlannedPoint)
    → planned plan at ≡ Some point
    → (also : PlannedPoint) × (planned other at ≡ Some also) × AreSamePoints point also
same_at plan other up down at point is =
    let found = up.each at point is in
    let back = below_at other plan at found.0 point down found.1 is in (
      found.0,
      found.1,
      record {
        state = below_both_ways point.state found.0.state found.2.before back.before;
        left = below_both_ways (state_left point) (state_left found.0) found.2.after back.after;
      },
    )

-- a set that is made is told by the states before and after
made_in :
    (state : State) (sites also : List ℕ) (site : ℕ)
    → IsMadeIn state sites
    → without state (has sites) ≡ without state (has also)
    → IsTrue (has sites site)
    → IsTrue (has also site)
made_in state sites also site made same among =
    elim (cases_Bool (has also site)) [
      | inl there ↦ there
      | inr kept ↦
          let still = present_behind (has also) state.objects site (made.present site among) kept in
          let found = found_present (without state (has sites)).objects site (subst (λ (left : State). IsTrue (is_present left.objects site)) (sym same) still) in
          absurd (none-some found.0 (sym (gone (has sites) state.objects site among) ∙ found.1))
    ]

same_made :
    (point other : PlannedPoint)
    → AreSamePoints point other
    → IsMadeIn point.state point.made
    → IsMadeIn other.state other.made
    → point.made ≡ other.made
same_made point other same one made =
    let moved = subst (λ (state : State). IsMadeIn state other.made) (sym same.state) made in
    let left : without point.state (has point.made) ≡ without point.state (has other.made) = same.left ∙ ap (λ (state : State). without state (has other.made)) (sym same.state) in
    same_sites point.made other.made one.order moved.order (λ site. same_truth (has point.made site) (has other.made site) (made_in point.state point.made other.made site one left) (made_in point.state other.made point.made site moved (sym left)))

-- the edges of a point, by its effect and the states of the targets
same_edges :
    (plan other : Plan)
    → IsPlanBelow plan other
    → IsPlanBelow other plan
    → (edges : List Edge) (one also : List MadeEdge)
    → AllLead plan edges one
    → AllLead other edges also
    → one ≡ also
same_edges plan other up down [] [] [] lead leads = refl
same_edges plan other up down [] [] (edge ∷ also) lead leads = absurd leads
same_edges plan other up down [] (edge ∷ one) also lead leads = absurd lead
same_edges plan other up down (edge ∷ edges) [] also lead leads = absurd lead
same_edges plan other up down (edge ∷ edges) (first ∷ one) [] lead leads = absurd leads
same_edges plan other up down (edge ∷ edges) (first ∷ one) (second ∷ also) lead leads =
    let found = same_at plan other up down edge.to lead.0.target lead.0.reached in
    let targets : found.0 ≡ leads.0.target = same_Some found.0 leads.0.target (sym found.1 ∙ leads.0.reached) in
    let states : lead.0.target.state ≡ leads.0.target.state = found.2.state ∙ ap (λ (point : PlannedPoint). point.state) targets in
    let same_by : first.by ≡ second.by = lead.0.same_by ∙ sym leads.0.same_by in
    let same_to : first.to ≡ second.to = lead.0.same_to ∙ sym leads.0.same_to in
    let same_sets : first.made ≡ second.made = lead.0.same_made ∙ ap (differing edge.state) states ∙ sym leads.0.same_made in
    let rest = same_edges plan other up down edges one also lead.1 leads.1 in
    λ i. record { by = same_by i; to = same_to i; made = same_sets i } ∷ rest i

same_point :
    (s : PlanScope) (plan other : Plan)
    → IsPlanBelow plan other
    → IsPlanBelow other plan
    → (at : ℕ) (point also : PlannedPoint)
    → AreSamePoints point also
    → IsValidAt s plan at point
    → IsValidAt s other at also
    → point ≡ also
same_point s plan other up down at point also same one second =
    let same_effect = effect_is_one s at (state_left point) one.edges second.edges one.effect (subst (λ (state : State). IsEffect s at state second.edges) (sym same.left) second.effect) in
    let leads = subst (λ (edges : List Edge). AllLead other edges also.edges) (sym same_effect) second.lead in
    let edges = same_edges plan other up down one.edges point.edges also.edges one.lead leads in
    let made = same_made point also same one.is_planned.made second.is_planned.made in
    λ i. record { state = same.state i; made = made i; edges = edges i }

-- ---- plans that say the same of each point

same_plans :
    (one other : Plan)
    → length one ≡ length other
    → ((at : ℕ) → planned one at ≡ planned other at)
    → one ≡ other
same_plans [] [] len same = refl
same_plans [] (point ∷ other) len same = absurd (omega (arith, len))
same_plans (point ∷ one) [] len same = absurd (omega (arith, len))
same_plans (point ∷ one) (also ∷ other) len same =
    let heads : point ≡ also = same 0 in
    let tails = same_plans one other (omega (arith, len)) (λ at. same (suc at)) in
    λ i. heads i ∷ tails i

pub least_is_one : (s : PlanScope) (plan also : Plan) → IsLeast s plan → IsLeast s also → plan ≡ also
least_is_one s plan also least second =
    let up = least.least also second.valid in
    let down = second.least plan least.valid in
    same_plans plan also (least.valid.points ∙ sym second.valid.points) (λ at. elim (some_or_none (planned plan at)) [
      | inl reached ↦
          let found = same_at plan also up down at reached.0 reached.1 in
          reached.1 ∙ ap Some (same_point s plan also up down at reached.0 found.0 found.2 (least.valid.each at reached.0 reached.1) (second.valid.each at found.0 found.1)) ∙ sym found.1
      | inr none ↦ elim (some_or_none (planned also at)) [
        | inl reached ↦ absurd (none-some (same_at also plan down up at reached.0 reached.1).0 (sym none ∙ (same_at also plan down up at reached.0 reached.1).1))
        | inr neither ↦ none ∙ sym neither
      ]
    ])
