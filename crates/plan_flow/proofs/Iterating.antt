-- States are raised until each edge leads to its target: each step makes an object of some point or reaches a point.
use Rattle.std.proofs.Common.{◌≡◌, ℕ, ◌<◌, ◌≤◌, ◌+◌, ◌==◌, zero, suc, Bool, cond, List, [], ◌∷◌, length, slice_get, Option, Some, None, IsTrue, refl, sym, ap, subst, ◌∙◌, inl, inr, ◌⊎◌, arith}
use Rattle.std.proofs.lemmas.Bool.{eq-eqb, ne_eqb, false≢true, both_ways}
use Rattle.std.proofs.lemmas.Option.{none-some, same_Some}
use Rattle.flow_code.specs.FlatCode.{IsFlat, point_at}
use Rattle.flow_code.specs.declared.point.Point.{Point}
use Rattle.plan_flow.specs.Effect.{IsStateBehind}
use Rattle.plan_flow.specs.Inner.Iteration.{IsLeft, IsTarget, IsRaised}
use Rattle.plan_flow.specs.Inner.Reaching.{Reached, IsLedIn, led_first, led_over, IsUnder, LeadsIn, AllLeadAt, IsMore, IsEdgeTo}
use Rattle.plan_flow.specs.Must.{open_edges}
use Rattle.plan_flow.specs.PlanRows.{RowEdge}
use Rattle.plan_flow.specs.PlanScope.{PlanScope}
use Rattle.plan_flow.specs.Plans.{PlannedPoint, Plan, planned, FlowsInside, IsStateAt, HasPlainBeneathTop, state_without_sites, IsValid}
use Rattle.virtual_state.specs.Orders.{IsBelow}
use Rattle.virtual_state.specs.Sites.{has}
use Rattle.virtual_state.specs.States.{State, IsState, is_present}
use Rattle.virtual_state.specs.Laws.Objects.{same_or_not, some_or_none}
use Rattle.virtual_state.specs.Laws.Orders.{below_itself, below_and_below, same_or_fewer}
use Rattle.plan_flow.proofs.Behind.{state_behind, behind_is_at}
use Rattle.plan_flow.proofs.FitsBelow.{below_or_fault}
use Rattle.plan_flow.proofs.Inside.{edges_inside}
use Rattle.plan_flow.proofs.LeastAbove.{MustGo}
use Rattle.plan_flow.proofs.MustGrows.{StandsIn, edge_behind_more}
use Rattle.plan_flow.proofs.Pruning.{state_of_is_one}
use Rattle.plan_flow.proofs.Raising.{state_at_above, same_counts, raised, left_of, left_is_one, target_in_plan}

-- ---- sums over points

sum_to : (ℕ → ℕ) → ℕ → ℕ
sum_to value zero = 0
sum_to value (suc count) = value count + sum_to value count

sum_less : (one other : ℕ → ℕ) → ((place : ℕ) → one place ≤ other place) → (count : ℕ) → sum_to one count ≤ sum_to other count
unfolding sum_to
sum_less one other less zero = omega arith
sum_less one other less (suc count) =
    let rest = sum_less one other less count in
    let here = less count in
    omega (arith, rest, here)

sum_fewer : (one other : ℕ → ℕ) → ((place : ℕ) → one place ≤ other place) → (count place : ℕ) → place < count → one place < other place → sum_to one count < sum_to other count
unfolding sum_to
sum_fewer one other less zero place inside fewer = absurd (omega (arith, inside))
sum_fewer one other less (suc count) place inside fewer =
    elim (same_or_not place count) [
      | inl same ↦
          let here = subst (λ (at : ℕ). one at < other at) same fewer in
          let rest = sum_less one other less count in
          omega (arith, here, rest)
      | inr differ ↦
          let rest = sum_fewer one other less count place (omega (arith, inside, differ)) fewer in
          let here = less count in
          omega (arith, rest, here)
    ]

abbrev missing : Option State → ℕ
missing None = 1
missing (Some state) = 0

abbrev weight : Option State → ℕ
weight None = 0
weight (Some state) = length state.objects

abbrev unreached : PlanScope → Reached → ℕ
unreached s states = sum_to (λ place. missing (states place)) (length s.flat.points)

abbrev objects_in : PlanScope → Reached → ℕ
objects_in s states = sum_to (λ place. weight (states place)) (length s.flat.points)

-- ---- another state at one point

pub put : Reached → ℕ → State → Reached
put states place state at = cond (place == at) (Some state) (states at)

pub put_here : (states : Reached) (place : ℕ) (state : State) → put states place state place ≡ Some state
unfolding put
put_here states place state = ap (λ (b : Bool). cond b (Some state) (states place)) (eq-eqb place place refl)

pub put_other : (states : Reached) (place at : ℕ) (state : State) → (place ≡ at → ⊥) → put states place state at ≡ states at
unfolding put
put_other states place at state differ = ap (λ (b : Bool). cond b (Some state) (states at)) (ne_eqb place at differ)

-- what holds of each state holds if it holds of the new one
pub put_each :
    (Holds : ℕ → State → Type 0) (states : Reached) (place : ℕ) (state : State)
    → Holds place state
    → ((at : ℕ) (one : State) → states at ≡ Some one → Holds at one)
    → (at : ℕ) (one : State) → put states place state at ≡ Some one → Holds at one
put_each Holds states place state here others at one is =
    elim (same_or_not place at) [
      | inl same ↦
          let found : state ≡ one = same_Some state one (sym (put_here states place state) ∙ ap (put states place state) same ∙ is) in
          subst (λ (where_ : ℕ). Holds where_ one) same (subst (Holds place) found here)
      | inr differ ↦ others at one (sym (put_other states place at state differ) ∙ is)
    ]

-- ---- more is reached, with states that are above

pub put_more :
    (states : Reached) (place : ℕ) (state : State)
    → ((old : State) → states place ≡ Some old → IsBelow old state)
    → IsMore states (put states place state)
put_more states place state above = record {
  each = λ at one is. elim (same_or_not place at) [
    | inl same ↦ (state, sym (ap (put states place state) same) ∙ put_here states place state, above one (ap states same ∙ is))
    | inr differ ↦ (one, put_other states place at state differ ∙ is, below_itself one)
  ];
}

pub led_more :
    (s : PlanScope) (states more : Reached)
    → IsMore states more
    → ((place : ℕ) (state : State) → more place ≡ Some state → IsState state)
    → {at : ℕ}
    → IsLedIn s states at
    → IsLedIn s more at
led_more s states more grows is_state led_first = led_first
led_more s states more grows is_state (led_over from number point state left row led is_point is_found is_left is_row) =
    let above = grows.each from state is_found in
    let high = left_of s from point above.0 (is_state from above.0 above.1) in
    let over = is_left.least high.state (below_and_below state above.0 high.state above.2 high.is.below) high.is.must in
    let stands = edge_behind_more s from point left (has over.sites) number row is_row in
    led_over from stands.number point above.0 high.state row (led_more s states more grows is_state led) is_point above.1 high.is
    (subst (λ (one : State). slice_get (open_edges s from point one) stands.number ≡ Some row) (sym over.is) stands.is)

-- ---- an edge that does not lead to its target yet

pub record Pending (s : PlanScope) (states : Reached) : Type 0 where
  pub from : ℕ
  pub number : ℕ
  pub point : Point
  pub state : State
  pub left : State
  pub behind : State
  pub row : RowEdge
  pub is_point : point_at s.flat from ≡ Some point
  pub is_found : states from ≡ Some state
  pub is_left : IsLeft s from point state left
  pub is_row : slice_get (open_edges s from point left) number ≡ Some row
  pub is_behind : IsStateBehind s point from left row behind
  pub is_at : IsStateAt s row.to behind
  pub target_inside : row.to < length s.flat.points

-- such an edge leads to its target in each valid plan
pub edge_to : (s : PlanScope) (states : Reached) (pending : Pending s states) → IsUnder s states → IsEdgeTo s states pending.row.to pending.behind
edge_to s states pending under = record {
  led = led_over pending.from pending.number pending.point pending.state pending.left pending.row (under.led pending.from pending.state pending.is_found) pending.is_point pending.is_found pending.is_left pending.is_row;
  is_at = pending.is_at;
  inside = pending.target_inside;
  lower = λ plan valid.
      let low = under.lower plan valid pending.from pending.state pending.is_found in
      target_in_plan s plan pending.from pending.point pending.state pending.left pending.behind pending.number pending.row low.0 valid pending.is_point (under.at pending.from pending.state pending.is_found).is_state pending.is_left pending.is_row pending.is_behind low.1 low.2;
}

-- the state of its target is put in, or raised: what holds goes on to hold
pub put_under :
    (s : PlanScope) (states : Reached) (to : ℕ) (behind state : State)
    → IsUnder s states
    → IsEdgeTo s states to behind
    → IsRaised s to behind (states to) state
    → (to ≡ 0 → state ≡ state_without_sites s 0)
    → IsUnder s (put states to state)
put_under s states to behind state under edge is at_start = record {
  start = elim (same_or_not to 0) [
    | inl same ↦ sym (ap (put states to state) same) ∙ put_here states to state ∙ ap Some (at_start same)
    | inr differ ↦ put_other states to 0 state differ ∙ under.start
  ];
  at = all_at;
  beneath = put_each (HasPlainBeneathTop s) states to state is.beneath under.beneath;
  inside = put_each (λ place one. place < length s.flat.points) states to state edge.inside under.inside;
  led = put_each (λ place one. IsLedIn s (put states to state) place) states to state (more edge.led) (λ place one found. more (under.led place one found));
  lower = λ plan valid. put_each (λ place one. (point : PlannedPoint) × (planned plan place ≡ Some point) × IsBelow one point.state) states to state (here plan valid) (under.lower plan valid);
} where
  all_at : (place : ℕ) (one : State) → put states to state place ≡ Some one → IsStateAt s place one
  all_at = put_each (IsStateAt s) states to state is.at under.at

  more : {at : ℕ} → IsLedIn s states at → IsLedIn s (put states to state) at
  more led = led_more s states (put states to state) (put_more states to state is.above_old) (λ place one found. (all_at place one found).is_state) led

  here : (plan : Plan) → IsValid s plan → (point : PlannedPoint) × (planned plan to ≡ Some point) × IsBelow state point.state
  here plan valid =
      let target = edge.lower plan valid in (
        target.0,
        target.1,
        is.least target.0.state target.2 (valid.each to target.0 target.1).is_planned.beneath (λ old found.
            let old_low = under.lower plan valid to old found in
            subst (λ (point : PlannedPoint). IsBelow old point.state) (same_Some old_low.0 target.0 (sym old_low.1 ∙ target.1)) old_low.2),
      )

-- ---- a step

data Step (s : PlanScope) (states : Reached) : Type 0 where
  reaches : (more : Reached) → IsUnder s more → unreached s more < unreached s states → Step s states
  raises : (more : Reached)
      → IsUnder s more
      → unreached s more ≤ unreached s states
      → objects_in s more < objects_in s states
      → Step s states

put_values :
    (value : Option State → ℕ) (states : Reached) (place : ℕ) (state : State)
    → value (Some state) ≤ value (states place)
    → (at : ℕ)
    → value (put states place state at) ≤ value (states at)
put_values value states place state less at =
    elim (same_or_not place at) [
      | inl same ↦ subst (λ (where_ : ℕ). value (put states place state where_) ≤ value (states where_)) same (subst (λ (o : Option State). value o ≤ value (states place)) (sym (put_here states place state)) less)
      | inr differ ↦ subst (λ (o : Option State). value o ≤ value (states at)) (sym (put_other states place at state differ)) (omega arith)
    ]

step_new :
    (s : PlanScope) (states : Reached) (pending : Pending s states)
    → IsUnder s states
    → states pending.row.to ≡ None
    → Step s states
step_new s states pending under none =
    let found = raised s pending.row.to pending.behind pending.behind pending.is_at pending.is_at in
    let more = put states pending.row.to found.above in
    let fewer = sum_fewer (λ place. missing (more place)) (λ place. missing (states place))
    (put_values missing states pending.row.to found.above (subst (λ (o : Option State). 0 ≤ missing o) (sym none) (omega arith)))
    (length s.flat.points) pending.row.to pending.target_inside
    (subst (λ (o : Option State). missing o < missing (states pending.row.to)) (sym (put_here states pending.row.to found.above)) (subst (λ (o : Option State). 0 < missing o) (sym none) (omega arith))) in
    reaches more
    (put_under s states pending.row.to pending.behind found.above under (edge_to s states pending under)
    (record {
      at = state_at_above s pending.row.to pending.behind found.above pending.is_at found.below;
      below = found.below;
      above_old = λ old is. absurd (none-some old (sym none ∙ is));
      beneath = found.good.beneath;
      least = λ target below clean old. found.least target below (record { below = below; beneath = clean });
    })
    (λ same. absurd (none-some (state_without_sites s 0) (sym none ∙ ap states same ∙ under.start))))
    fewer

-- a state that isn't above what an edge leads to is raised strictly
raised_fewer : (s : PlanScope) (at : ℕ) (behind old above : State) → MustGo (IsBelow behind) old → IsBelow old above → IsTarget s at behind above → length above.objects < length old.objects
raised_fewer s at behind old above fault up target =
    elim (same_or_fewer old above up) [
      | inl same ↦ absurd (both_ways (is_present above.objects fault.site) (fault.gone above up target.below) (subst (λ (state : State). IsTrue (is_present state.objects fault.site)) same fault.present))
      | inr fewer ↦ fewer
    ]

step_raise :
    (s : PlanScope) (states : Reached) (pending : Pending s states) (old : State)
    → IsUnder s states
    → states pending.row.to ≡ Some old
    → MustGo (IsBelow pending.behind) old
    → Step s states
step_raise s states pending old under is fault =
    let at = under.at pending.row.to old is in
    let found = raised s pending.row.to pending.behind old pending.is_at at in
    let more = put states pending.row.to found.above in
    let less = raised_fewer s pending.row.to pending.behind old found.above fault found.below found.good in
    raises more
    (put_under s states pending.row.to pending.behind found.above under (edge_to s states pending under)
    (record {
      at = state_at_above s pending.row.to old found.above at found.below;
      below = found.good.below;
      above_old = λ one is_one. subst (λ (state : State). IsBelow state found.above) (same_Some old one (sym is ∙ is_one)) found.below;
      beneath = found.good.beneath;
      least = λ target below clean olds. found.least target (olds old is) (record { below = below; beneath = clean });
    })
    (λ same.
    let first : old ≡ state_without_sites s 0 = same_Some old (state_without_sites s 0) (sym is ∙ ap states same ∙ under.start) in
    absurd (false≢true (subst (λ (state : State). IsTrue (is_present state.objects fault.site)) first fault.present))))
    (sum_less (λ place. missing (more place)) (λ place. missing (states place)) (put_values missing states pending.row.to found.above (omega arith)) (length s.flat.points))
    (sum_fewer (λ place. weight (more place)) (λ place. weight (states place))
    (put_values weight states pending.row.to found.above (subst (λ (o : Option State). length found.above.objects ≤ weight o) (sym is) (omega (arith, less))))
    (length s.flat.points) pending.row.to pending.target_inside
    (subst (λ (o : Option State). weight o < weight (states pending.row.to)) (sym (put_here states pending.row.to found.above)) (subst (λ (o : Option State). length found.above.objects < weight o) (sym is) less)))

-- ---- all edges lead to their targets, or there is a step

edge_step :
    (s : PlanScope) (states : Reached) (pending : Pending s states)
    → IsUnder s states
    → LeadsIn states pending.row.to pending.behind ⊎ Step s states
edge_step s states pending under =
    elim (some_or_none (states pending.row.to)) [
      | inr none ↦ inr (step_new s states pending under none)
      | inl found ↦
          let at = under.at pending.row.to found.0 found.1 in
          elim (below_or_fault pending.behind found.0 pending.is_at.is_state at.is_state (pending.is_at.places ∙ sym at.places) (same_counts s pending.row.to pending.behind found.0 pending.is_at at)) [
            | inl below ↦ inl (record { target = found.0; reached = found.1; below = below })
            | inr fault ↦ inr (step_raise s states pending found.0 under found.1 fault)
          ]
    ]

-- ---- the edges of a point

-- the state behind an edge is one
pub behind_is_one : (s : PlanScope) (at : ℕ) (point : Point) (before : State) (row : RowEdge) (one other : State) → IsStateBehind s point at before row one → IsStateBehind s point at before row other → one ≡ other
behind_is_one s at point before row one other first second = state_of_is_one _ _ one other first.is_state second.is_state first.is second.is

abbrev RowLeads : PlanScope → Reached → ℕ → Point → State → RowEdge → Type 0
RowLeads s states at point left row = (behind : State) → IsStateBehind s point at left row behind → LeadsIn states row.to behind

rows_step :
    (s : PlanScope) (states : Reached) (at : ℕ) (point : Point) (state left : State)
    → IsFlat s.flat
    → FlowsInside s.flat
    → IsUnder s states
    → point_at s.flat at ≡ Some point
    → states at ≡ Some state
    → IsState left
    → IsLeft s at point state left
    → (rows : List RowEdge)
    → ((number : ℕ) (row : RowEdge) → slice_get rows number ≡ Some row → StandsIn (open_edges s at point left) row)
    → ((number : ℕ) (row : RowEdge) → slice_get rows number ≡ Some row → RowLeads s states at point left row) ⊎ Step s states
rows_step s states at point state left flat flows under is_point is_found left_state is_left [] stands = inl (λ number row is. absurd (none-some row is))
rows_step s states at point state left flat flows under is_point is_found left_state is_left (first ∷ rows) stands =
    let here = stands 0 first refl in
    let found = state_behind s at point left first left_state is_left.must in
    let counts = (state_at_above s at state left (under.at at state is_found) is_left.below).fields in
    let pending : Pending s states = record {
      from = at;
      number = here.number;
      point = point;
      state = state;
      left = left;
      behind = found.state;
      row = first;
      is_point = is_point;
      is_found = is_found;
      is_left = is_left;
      is_row = here.is;
      is_behind = found.behind;
      is_at = behind_is_at s at point left first found.state counts found.behind;
      target_inside = (edges_inside s at point left flat flows is_point).each here.number first here.is;
    } in
    elim (edge_step s states pending under) [
      | inr step ↦ inr step
      | inl leads ↦ elim (rows_step s states at point state left flat flows under is_point is_found left_state is_left rows (λ number row is. stands (suc number) row is)) [
        | inr step ↦ inr step
        | inl rest ↦ inl (by_number (λ behind is_behind. subst (LeadsIn states first.to) (behind_is_one s at point left first found.state behind found.behind is_behind) leads) rest)
      ]
    ] where
      by_number :
          RowLeads s states at point left first
          → ((number : ℕ) (row : RowEdge) → slice_get rows number ≡ Some row → RowLeads s states at point left row)
          → (number : ℕ) (row : RowEdge) → slice_get (first ∷ rows) number ≡ Some row → RowLeads s states at point left row
      by_number leads rest zero row is = subst (RowLeads s states at point left) (same_Some first row is) leads
      by_number leads rest (suc number) row is = rest number row is

point_step :
    (s : PlanScope) (states : Reached) (at : ℕ)
    → IsFlat s.flat
    → FlowsInside s.flat
    → IsUnder s states
    → AllLeadAt s states at ⊎ Step s states
point_step s states at flat flows under = go (some_or_none (point_at s.flat at)) (some_or_none (states at)) where
  go :
      ((point : Point) × (point_at s.flat at ≡ Some point)) ⊎ (point_at s.flat at ≡ None)
      → ((state : State) × (states at ≡ Some state)) ⊎ (states at ≡ None)
      → AllLeadAt s states at ⊎ Step s states
  go (inr none) found = inl (record { each = λ number point state left behind row is_point is_found is_left is_row is_behind. absurd (none-some point (sym none ∙ is_point)) })
  go (inl point) (inr none) = inl (record { each = λ number other state left behind row is_point is_found is_left is_row is_behind. absurd (none-some state (sym none ∙ is_found)) })
  go (inl point) (inl found) =
      let left = left_of s at point.0 found.0 (under.at at found.0 found.1).is_state in
      elim (rows_step s states at point.0 found.0 left.state flat flows under point.1 found.1 left.is_state left.is (open_edges s at point.0 left.state) (λ number row is. record { number = number; is = is })) [
        | inr step ↦ inr step
        | inl leads ↦ inl (record {
          each = λ number other state also behind row is_point is_found is_left is_row is_behind.
              let same_point : other ≡ point.0 = same_Some other point.0 (sym is_point ∙ point.1) in
              let same_state : state ≡ found.0 = same_Some state found.0 (sym is_found ∙ found.1) in
              let one = subst (λ (p : Point). IsLeft s at p state also) same_point is_left in
              let two = subst (λ (x : State). IsLeft s at point.0 x also) same_state one in
              let same_left : also ≡ left.state = left_is_one s at point.0 found.0 also left.state two left.is in
              let row_one = subst (λ (p : Point). slice_get (open_edges s at p also) number ≡ Some row) same_point is_row in
              let row_two = subst (λ (x : State). slice_get (open_edges s at point.0 x) number ≡ Some row) same_left row_one in
              let behind_one = subst (λ (p : Point). IsStateBehind s p at also row behind) same_point is_behind in
              leads number row row_two behind (subst (λ (x : State). IsStateBehind s point.0 at x row behind) same_left behind_one);
        })
      ]

points_step :
    (s : PlanScope) (states : Reached) (count : ℕ)
    → IsFlat s.flat
    → FlowsInside s.flat
    → IsUnder s states
    → ((at : ℕ) → at < count → AllLeadAt s states at) ⊎ Step s states
points_step s states zero flat flows under = inl (λ at inside. absurd (omega (arith, inside)))
points_step s states (suc count) flat flows under =
    elim (point_step s states count flat flows under) [
      | inr step ↦ inr step
      | inl here ↦ elim (points_step s states count flat flows under) [
        | inr step ↦ inr step
        | inl rest ↦ inl (λ at inside. elim (same_or_not count at) [
          | inl same ↦ subst (AllLeadAt s states) same here
          | inr differ ↦ rest at (omega (arith, inside, differ))
        ])
      ]
    ]

-- ---- until no step is left

pub record Final (s : PlanScope) : Type 0 where
  pub states : Reached
  pub under : IsUnder s states
  pub lead : (at : ℕ) → at < length s.flat.points → AllLeadAt s states at

raise_all :
    (s : PlanScope) (bound : ℕ)
    → IsFlat s.flat
    → FlowsInside s.flat
    → ((states : Reached) → IsUnder s states → unreached s states < bound → Final s)
    → (fuel : ℕ) (states : Reached)
    → IsUnder s states
    → unreached s states ≤ bound
    → objects_in s states ≤ fuel
    → Final s
raise_all s bound flat flows fewer zero states under few light =
    elim (points_step s states (length s.flat.points) flat flows under) [
      | inl lead ↦ record { states = states; under = under; lead = lead }
      | inr step ↦ by_step step
    ] where
      by_step : Step s states → Final s
      by_step (reaches more next less) = fewer more next (omega (arith, less, few))
      by_step (raises more next less lighter) = absurd (omega (arith, lighter, light))
raise_all s bound flat flows fewer (suc fuel) states under few light =
    elim (points_step s states (length s.flat.points) flat flows under) [
      | inl lead ↦ record { states = states; under = under; lead = lead }
      | inr step ↦ by_step step (raise_all s bound flat flows fewer fuel)
    ] where
      by_step : Step s states → ((more : Reached) → IsUnder s more → unreached s more ≤ bound → objects_in s more ≤ fuel → Final s) → Final s
      by_step (reaches more next less) rest = fewer more next (omega (arith, less, few))
      by_step (raises more next less lighter) rest = rest more next (omega (arith, less, few)) (omega (arith, lighter, light))

reach_all_points :
    (s : PlanScope) (bound : ℕ)
    → IsFlat s.flat
    → FlowsInside s.flat
    → (states : Reached)
    → IsUnder s states
    → unreached s states ≤ bound
    → Final s
reach_all_points s zero flat flows states under few = raise_all s zero flat flows (λ more next less. absurd (omega (arith, less))) (objects_in s states) states under few (omega arith)
reach_all_points s (suc bound) flat flows states under few =
    raise_all s (suc bound) flat flows (λ more next less. reach_all_points s bound flat flows more next (omega (arith, less))) (objects_in s states) states under few (omega arith)

pub iterated : (s : PlanScope) (states : Reached) → IsFlat s.flat → FlowsInside s.flat → IsUnder s states → Final s
iterated s states flat flows under = reach_all_points s (unreached s states) flat flows states under (omega arith)
