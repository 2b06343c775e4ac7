-- Each flat code that control does not leave has a least plan.
use Rattle.std.proofs.Common.{◌≡◌, ℕ, ◌<◌, ◌≤◌, zero, suc, Bool, true, false, cond, List, [], ◌∷◌, ◌++◌, length, slice_get, Option, Some, None, IsTrue, refl, sym, ap, subst, ◌∙◌, inl, inr, ◌⊎◌, arith}
use Rattle.std.specs.List.{AllByRecursion, filter}
use Rattle.std.specs.Option.{option_flatten}
use Rattle.std.proofs.lemmas.Bool.{and_parts, false≢true}
use Rattle.std.proofs.lemmas.List.{map-append}
use Rattle.std.proofs.lemmas.Option.{none-some, same_Some, slice_get_past}
use Rattle.class_model.specs.declared.frame.VType.{VType}
use Rattle.flow_code.specs.FlatCode.{IsFlat, point_at}
use Rattle.flow_code.specs.declared.point.Point.{Point}
use Rattle.plan_flow.specs.Effect.{AreEdges, IsEffectIn}
use Rattle.plan_flow.specs.Inner.Iteration.{IsLeft}
use Rattle.plan_flow.specs.Inner.Planning.{made_on, made_edges, PlannedFrom, IsPlanOf}
use Rattle.plan_flow.specs.Inner.Reaching.{Reached, IsLedIn, led_first, led_over, IsUnder, LeadsIn}
use Rattle.plan_flow.specs.Must.{open_edges, IsMustOf, IsMustIn}
use Rattle.plan_flow.specs.PlanRows.{RowEdge}
use Rattle.plan_flow.specs.PlanScope.{PlanScope, local_types, stack_types}
use Rattle.plan_flow.specs.PlanSlots.{fit_locals, fit_stack}
use Rattle.plan_flow.specs.Plans.{MadeEdge, PlannedPoint, Plan, planned, state_left, FlowsInside, IsStateAt, IsMadeIn, HasPlainBeneathTop, state_without_sites, AllLead, IsLedTo, at_start, over_edge, IsValid, IsValidAt, IsPlanBelow, IsLeast}
use Rattle.plan_flow.specs.declared.edge.Edge.{Edge}
use Rattle.virtual_state.specs.Orders.{IsBelow}
use Rattle.virtual_state.specs.Sites.{has, differing}
use Rattle.virtual_state.specs.States.{State, IsState, IsIncreasing, is_present, is_unusable, names, sites_of}
use Rattle.virtual_state.specs.declared.slot.Slot.{Slot}
use Rattle.virtual_state.specs.Laws.Objects.{some_or_none}
use Rattle.virtual_state.specs.Laws.Orders.{absent, has_where, differing_is_closed, differing_is_taken, below_itself, below_and_below, below_without}
use Rattle.plan_flow.proofs.Behind.{state_behind, names_both, named_locals, named_stack, local_places, stack_places}
use Rattle.plan_flow.proofs.EffectGrows.{edge_of_row, row_of_edge}
use Rattle.plan_flow.proofs.Iterating.{put, put_here, put_each, Final, iterated}
use Rattle.plan_flow.proofs.Raising.{Left, left_of, left_is_one, must_at}
use Rattle.plan_flow.proofs.Settled.{clean_or_not, path_from_none}

-- ---- the start

-- the slots of a point that holds no site
abbrev pub blank_slots : List VType → List VType → List Slot
blank_slots locals stack = fit_locals locals [] ++ fit_stack stack []

pub no_names : (locals stack : List VType) (site : ℕ) → IsTrue (names (blank_slots locals stack) site) → ⊥
no_names locals stack site named =
    elim (names_both (fit_locals locals []) (fit_stack stack []) site named) [
      | inl local ↦ false≢true (named_locals locals [] site local)
      | inr entry ↦ false≢true (named_stack stack [] site entry)
    ]

pub blank_is_state : (locals stack : List VType) → IsState (record { slots = blank_slots locals stack; objects = [] })
blank_is_state locals stack = record {
  order = tt;
  places = λ site named. absurd (no_names locals stack site named);
  fields = λ from to edge. absurd (none-some edge.object edge.there);
  reached = λ site present. absurd (false≢true present);
  acyclic = λ site path. path_from_none [] path refl;
  usable = λ site object there. absurd (none-some object there);
}

blank_state : (s : PlanScope) (at : ℕ) → IsState (state_without_sites s at)
blank_state s at = blank_is_state (local_types s.flat at) (stack_types s.flat at)

blank_at : (s : PlanScope) (at : ℕ) → IsStateAt s at (state_without_sites s at)
blank_at s at = record {
  is_state = blank_state s at;
  places =
      map-append is_unusable (fit_locals (local_types s.flat at) []) (fit_stack (stack_types s.flat at) [])
      ∙ (λ i. local_places (local_types s.flat at) [] refl i ++ stack_places (stack_types s.flat at) [] refl i);
  fields = λ site object there. absurd (none-some object there);
}

blank_clean : (s : PlanScope) (at : ℕ) → HasPlainBeneathTop s at (state_without_sites s at)
blank_clean s at =
    elim (clean_or_not s at (state_without_sites s at) (blank_state s at)) [
      | inl clean ↦ clean
      | inr fault ↦ absurd (false≢true fault.present)
    ]

pub nothing : Reached
nothing at = None

pub start_states : PlanScope → Reached
start_states s = put nothing 0 (state_without_sites s 0)

pub nothing_at : (at : ℕ) → nothing at ≡ None
unfolding nothing
nothing_at at = refl

pub start_states_are : (s : PlanScope) → start_states s ≡ put nothing 0 (state_without_sites s 0)
unfolding start_states
start_states_are s = refl

pub start_under : (s : PlanScope) → FlowsInside s.flat → IsUnder s (start_states s)
unfolding nothing start_states
start_under s flows = record {
  start = put_here nothing 0 (state_without_sites s 0);
  at = put_each (IsStateAt s) nothing 0 (state_without_sites s 0) (blank_at s 0) (λ at one is. absurd (none-some one is));
  beneath = put_each (HasPlainBeneathTop s) nothing 0 (state_without_sites s 0) (blank_clean s 0) (λ at one is. absurd (none-some one is));
  inside = put_each (λ place one. place < length s.flat.points) nothing 0 (state_without_sites s 0) flows.some (λ at one is. absurd (none-some one is));
  led = put_each (λ place one. IsLedIn s (put nothing 0 (state_without_sites s 0)) place) nothing 0 (state_without_sites s 0) led_first (λ at one is. absurd (none-some one is));
  lower = λ plan valid. put_each (λ place one. (point : PlannedPoint) × (planned plan place ≡ Some point) × IsBelow one point.state) nothing 0 (state_without_sites s 0)
      (valid.start, valid.is_start, subst (IsBelow (state_without_sites s 0)) (sym valid.no_site) (below_itself (state_without_sites s 0)))
      (λ at one is. absurd (none-some one is));
}

-- ---- the edges of a point

effect_rows : (s : PlanScope) (at : ℕ) (point : Point) (left : State) → IsState left → IsMustOf s at point left [] → List RowEdge → List Edge
effect_rows s at point left is must [] = []
effect_rows s at point left is must (row ∷ rows) =
    record { to = row.to; by = row.by; state = (state_behind s at point left row is must).state } ∷ effect_rows s at point left is must rows

effect_are : (s : PlanScope) (at : ℕ) (point : Point) (left : State) (is : IsState left) (must : IsMustOf s at point left []) (rows : List RowEdge) → AreEdges s point at left rows (effect_rows s at point left is must rows)
unfolding effect_rows
effect_are s at point left is must [] = tt
effect_are s at point left is must (row ∷ rows) = (refl, refl, (state_behind s at point left row is must).behind, effect_are s at point left is must rows)

-- an edge that is made leads where the effect's does
made_edge_at : (states : Reached) (edges : List Edge) (number : ℕ) (edge : Edge) → slice_get edges number ≡ Some edge → (made : MadeEdge) × (slice_get (made_edges states edges) number ≡ Some made) × (made.to ≡ edge.to)
made_edge_at states [] number edge is = absurd (none-some edge is)
made_edge_at states (first ∷ edges) zero edge is =
    let made : MadeEdge = record { by = first.by; to = first.to; made = made_on first.state (states first.to) } in
    (made, refl, ap (λ (one : Edge). one.to) (same_Some first edge is))
made_edge_at states (first ∷ edges) (suc number) edge is = made_edge_at states edges number edge is

-- ---- a point of the plan

filter_all : (low : ℕ) (test : ℕ → Bool) (sites : List ℕ) → AllByRecursion (λ other. low < other) sites → AllByRecursion (λ other. low < other) (filter test sites)
filter_all low test [] all = tt
filter_all low test (site ∷ sites) all = go (test site) (filter_all low test sites all.1) where
  go : (b : Bool) → AllByRecursion (λ other. low < other) (filter test sites) → AllByRecursion (λ other. low < other) (cond b (site ∷ filter test sites) (filter test sites))
  go true rest = (all.0, rest)
  go false rest = rest

pub filter_order : (test : ℕ → Bool) (sites : List ℕ) → IsIncreasing sites → IsIncreasing (filter test sites)
filter_order test [] order = tt
filter_order test (site ∷ sites) order = go (test site) (filter_order test sites order.1) where
  go : (b : Bool) → IsIncreasing (filter test sites) → IsIncreasing (cond b (site ∷ filter test sites) (filter test sites))
  go true rest = (filter_all site test sites order.0, rest)
  go false rest = rest

made_in_point : (low high : State) → IsState low → IsBelow low high → IsMadeIn low (differing low high)
made_in_point low high is below = record {
  order = filter_order (absent high) (sites_of low.objects) is.order;
  present = λ site among. (and_parts (is_present low.objects site) (absent high site) (sym (has_where (absent high) low.objects site) ∙ among)).0;
  closed = differing_is_closed low high is below;
}

pub from_left :
    (s : PlanScope) (states : Reached) (at : ℕ) (point : Point) (state left : State) (edges : List Edge)
    → IsState state
    → IsState left
    → point_at s.flat at ≡ Some point
    → states at ≡ Some state
    → IsLeft s at point state left
    → AreEdges s point at left (open_edges s at point left) edges
    → PlannedFrom s states at (record { state = state; made = differing state left; edges = made_edges states edges })
from_left s states at point state left edges is left_state is_point is_found is_left effect = record {
  point = point;
  is_point = is_point;
  is_found = is_found;
  left = left;
  is_left = is_left;
  left_state = left_state;
  same_left = sym (differing_is_taken state left is is_left.below);
  made = made_in_point state left is is_left.below;
  edges = edges;
  effect = effect;
  same_edges = refl;
}

edges_left : (s : PlanScope) (at : ℕ) (point : Point) (state : State) → Left s at point state → List Edge
edges_left s at point state left = effect_rows s at point left.state left.is_state left.is.must (open_edges s at point left.state)

point_of : (s : PlanScope) (states : Reached) (at : ℕ) (point : Point) (state : State) → Left s at point state → PlannedPoint
point_of s states at point state left = record {
  state = state;
  made = differing state left.state;
  edges = made_edges states (edges_left s at point state left);
}

point_from :
    (s : PlanScope) (states : Reached) (at : ℕ) (point : Point) (state : State) (left : Left s at point state)
    → IsState state
    → point_at s.flat at ≡ Some point
    → states at ≡ Some state
    → PlannedFrom s states at (point_of s states at point state left)
unfolding point_of edges_left
point_from s states at point state left is is_point is_found =
    from_left s states at point state left.state (edges_left s at point state left) is left.is_state is_point is_found left.is
    (effect_are s at point left.state left.is_state left.is.must (open_edges s at point left.state))

-- what is planned for a point
record PlanAt (s : PlanScope) (states : Reached) (at : ℕ) : Type 0 where
  option : Option PlannedPoint
  is : IsPlanOf s states at option

pub none_planned : (s : PlanScope) (states : Reached) (at : ℕ) → states at ≡ None → IsPlanOf s states at None
none_planned s states at none = record {
  from = λ point is. absurd (none-some point is);
  found = λ state is. absurd (none-some state (sym none ∙ is));
}

pub some_planned : (s : PlanScope) (states : Reached) (at : ℕ) (point : PlannedPoint) → PlannedFrom s states at point → IsPlanOf s states at (Some point)
some_planned s states at point from = record {
  from = λ other same. subst (PlannedFrom s states at) (same_Some point other same) from;
  found = λ state is. (point, refl);
}

plan_at : (s : PlanScope) (states : Reached) → IsUnder s states → ((at : ℕ) → at < length s.flat.points → (point : Point) × (point_at s.flat at ≡ Some point)) → (at : ℕ) → PlanAt s states at
plan_at s states under there at = go (some_or_none (states at)) where
  go : ((state : State) × (states at ≡ Some state)) ⊎ (states at ≡ None) → PlanAt s states at
  go (inr none) = record { option = None; is = none_planned s states at none }
  go (inl found) =
      let point = there at (under.inside at found.0 found.1) in
      let is = (under.at at found.0 found.1).is_state in
      let left = left_of s at point.0 found.0 is in
      record {
        option = Some (point_of s states at point.0 found.0 left);
        is = some_planned s states at (point_of s states at point.0 found.0 left) (point_from s states at point.0 found.0 left is point.1 found.1);
      }

-- ---- the list of all points

tabulate : {A : Type 0} → (ℕ → A) → ℕ → List A
tabulate value zero = []
tabulate value (suc count) = value 0 ∷ tabulate (λ at. value (suc at)) count

tabulate_len : {A : Type 0} (value : ℕ → A) (count : ℕ) → length (tabulate value count) ≡ count
unfolding tabulate
tabulate_len value zero = refl
tabulate_len value (suc count) = let rest = tabulate_len (λ at. value (suc at)) count in omega (arith, rest)

tabulate_at : {A : Type 0} (value : ℕ → A) (count at : ℕ) → at < count → slice_get (tabulate value count) at ≡ Some (value at)
unfolding tabulate
tabulate_at value zero at inside = absurd (omega (arith, inside))
tabulate_at value (suc count) zero inside = refl
tabulate_at value (suc count) (suc at) inside = tabulate_at (λ one. value (suc one)) count at (omega (arith, inside))

pub point_there : {A : Type 0} (points : List A) (at : ℕ) → at < length points → (point : A) × (slice_get points at ≡ Some point)
point_there [] at inside = absurd (omega (arith, inside))
point_there (point ∷ points) zero inside = (point, refl)
point_there (point ∷ points) (suc at) inside = point_there points at (omega (arith, inside))

-- ---- the plan

pub record Planning (s : PlanScope) (plan : Plan) : Type 0 where
  pub final : Final s
  pub len : length plan ≡ length s.flat.points
  pub points : (at : ℕ) → at < length s.flat.points → IsPlanOf s final.states at (planned plan at)

inside_or_past : (at count : ℕ) → (at < count) ⊎ (count ≤ at)
inside_or_past at zero = inr (omega arith)
inside_or_past zero (suc count) = inl (omega arith)
inside_or_past (suc at) (suc count) = elim (inside_or_past at count) [
  | inl inside ↦ inl (omega (arith, inside))
  | inr past ↦ inr (omega (arith, past))
]

-- what the plan says of a point
plan_says : (s : PlanScope) (plan : Plan) (planning : Planning s plan) (at : ℕ) (point : PlannedPoint) → planned plan at ≡ Some point → PlannedFrom s planning.final.states at point
plan_says s plan planning at point is =
    elim (inside_or_past at (length s.flat.points)) [
      | inl inside ↦ (planning.points at inside).from point is
      | inr past ↦
          let len = planning.len in
          absurd (none-some point (sym (ap option_flatten (slice_get_past plan at (omega (arith, past, len)))) ∙ is))
    ]

-- what was reached is planned
plan_has : (s : PlanScope) (plan : Plan) (planning : Planning s plan) (at : ℕ) (state : State) → planning.final.states at ≡ Some state → (point : PlannedPoint) × (planned plan at ≡ Some point) × (point.state ≡ state)
plan_has s plan planning at state is =
    let inside = planning.final.under.inside at state is in
    let found = (planning.points at inside).found state is in
    let says = (planning.points at inside).from found.0 found.1 in (
      found.0,
      found.1,
      same_Some found.0.state state (sym says.is_found ∙ is),
    )

-- the edges of a point lead to their targets in the plan
lead_of : (states : Reached) (plan : Plan) (behind : State) (to : ℕ) → ((at : ℕ) (state : State) → states at ≡ Some state → (point : PlannedPoint) × (planned plan at ≡ Some point) × (point.state ≡ state)) → LeadsIn states to behind → (target : PlannedPoint) × (planned plan to ≡ Some target) × IsBelow behind target.state × (made_on behind (states to) ≡ differing behind target.state)
lead_of states plan behind to has leads =
    let found = has to leads.target leads.reached in
    (found.0, found.1, subst (IsBelow behind) (sym found.2) leads.below, ap (made_on behind) leads.reached ∙ ap (differing behind) (sym found.2))

edges_lead :
    (states : Reached) (plan : Plan)
    → ((at : ℕ) (state : State) → states at ≡ Some state → (point : PlannedPoint) × (planned plan at ≡ Some point) × (point.state ≡ state))
    → (edges : List Edge)
    → ((number : ℕ) (edge : Edge) → slice_get edges number ≡ Some edge → LeadsIn states edge.to edge.state)
    → AllLead plan edges (made_edges states edges)
edges_lead states plan has [] leads = tt
edges_lead states plan has (edge ∷ edges) leads =
    let lead = lead_of states plan edge.state edge.to has (leads 0 edge refl) in (
      record { target = lead.0; reached = lead.1; below = lead.2; same_by = refl; same_to = refl; same_made = lead.3 },
      edges_lead states plan has edges (λ number one is. leads (suc number) one is),
    )

plan_led : (s : PlanScope) (plan : Plan) (planning : Planning s plan) {at : ℕ} → IsLedIn s planning.final.states at → IsLedTo plan at
plan_led s plan planning led_first = at_start
plan_led s plan planning (led_over from number point state left row led is_point is_found is_left is_row) =
    let found = plan_has s plan planning from state is_found in
    let says = plan_says s plan planning from found.0 found.1 in
    let same_point : point ≡ says.point = same_Some point says.point (sym is_point ∙ says.is_point) in
    let left_here = subst (λ (p : Point). IsLeft s from p state left) same_point is_left in
    let left_there = subst (λ (x : State). IsLeft s from says.point x left) (sym found.2) left_here in
    let same_left : left ≡ says.left = left_is_one s from says.point found.0.state left says.left left_there says.is_left in
    let row_point = subst (λ (p : Point). slice_get (open_edges s from p left) number ≡ Some row) same_point is_row in
    let row_left = subst (λ (x : State). slice_get (open_edges s from says.point x) number ≡ Some row) same_left row_point in
    let edge = edge_of_row s says.point from says.left (open_edges s from says.point says.left) says.edges says.effect number row row_left in
    let made = made_edge_at planning.final.states says.edges number edge.0 edge.1 in
    let there = ap (λ (list : List MadeEdge). slice_get list number) says.same_edges ∙ made.1 in
    subst (IsLedTo plan) (made.2 ∙ edge.2.same_to) (over_edge from number found.0 made.0 (plan_led s plan planning led) found.1 there)

plan_valid_at : (s : PlanScope) (plan : Plan) (planning : Planning s plan) (at : ℕ) (point : PlannedPoint) → planned plan at ≡ Some point → IsValidAt s plan at point
plan_valid_at s plan planning at point is =
    let says = plan_says s plan planning at point is in
    let under = planning.final.under in
    let states = planning.final.states in
    let must = subst (λ (found : Option Point). IsMustIn s at found says.left []) (sym says.is_point) says.is_left.must in
    let effect = subst (λ (found : Option Point). IsEffectIn s at found says.left says.edges) (sym says.is_point) says.effect in
    let leads = edges_lead states plan (plan_has s plan planning) says.edges (λ number edge is_edge.
    let row = row_of_edge s says.point at says.left (open_edges s at says.point says.left) says.edges says.effect number edge is_edge in
    let lead = (planning.final.lead at (under.inside at point.state says.is_found)).each number says.point point.state says.left edge.state row.0 says.is_point says.is_found says.is_left row.1 row.2.behind in
    subst (λ (to : ℕ). LeadsIn states to edge.state) (sym row.2.same_to) lead) in
    record {
      is_planned = record { state = under.at at point.state says.is_found; made = says.made; beneath = under.beneath at point.state says.is_found };
      led_to = plan_led s plan planning (under.led at point.state says.is_found);
      asks_none = subst (λ (state : State). IsMustIn s at (point_at s.flat at) state []) (sym says.same_left) must;
      edges = says.edges;
      effect = subst (λ (state : State). IsEffectIn s at (point_at s.flat at) state says.edges) (sym says.same_left) effect;
      lead = subst (AllLead plan says.edges) (sym says.same_edges) leads;
    }

plan_valid : (s : PlanScope) (plan : Plan) (planning : Planning s plan) → IsValid s plan
plan_valid s plan planning =
    let start = plan_has s plan planning 0 (state_without_sites s 0) planning.final.under.start in
    record {
      points = planning.len;
      start = start.0;
      is_start = start.1;
      no_site = start.2;
      each = plan_valid_at s plan planning;
    }

plan_least : (s : PlanScope) (plan : Plan) (planning : Planning s plan) (other : Plan) → IsValid s other → IsPlanBelow plan other
plan_least s plan planning other valid = record {
  each = λ at point is.
      let says = plan_says s plan planning at point is in
      let low = planning.final.under.lower other valid at point.state says.is_found in
      let also = valid.each at low.0 low.1 in
      let high_must = must_at s at says.point (state_left low.0) [] says.is_point also.asks_none in
      let up = below_and_below point.state low.0.state (state_left low.0) low.2 (below_without low.0.state (has low.0.made) also.is_planned.state.is_state also.is_planned.made.closed) in (
        low.0,
        low.1,
        record {
          before = low.2;
          after = subst (λ (left : State). IsBelow left (state_left low.0)) (sym says.same_left) (says.is_left.least (state_left low.0) up high_must);
        },
      );
}

pub is_least_plan : (s : PlanScope) (plan : Plan) → Planning s plan → IsLeast s plan
is_least_plan s plan planning = record { valid = plan_valid s plan planning; least = plan_least s plan planning }

plan_in : (s : PlanScope) (states : Reached) → ((at : ℕ) → PlanAt s states at) → Plan
plan_in s states points = tabulate (λ at. (points at).option) (length s.flat.points)

plan_in_is : (s : PlanScope) (final : Final s) (points : (at : ℕ) → PlanAt s final.states at) → Planning s (plan_in s final.states points)
unfolding plan_in
plan_in_is s final points = record {
  final = final;
  len = tabulate_len (λ at. (points at).option) (length s.flat.points);
  points = λ at inside.
      subst (IsPlanOf s final.states at) (sym (ap option_flatten (tabulate_at (λ one. (points one).option) (length s.flat.points) at inside))) (points at).is;
}

pub least_plan_of : (s : PlanScope) → IsFlat s.flat → FlowsInside s.flat → (plan : Plan) × IsLeast s plan
least_plan_of s flat flows =
    let final = iterated s (start_states s) flat flows (start_under s flows) in
    let points = plan_at s final.states final.under (λ at inside. point_there s.flat.points at inside) in
    let plan = plan_in s final.states points in
    (plan, is_least_plan s plan (plan_in_is s final points))
