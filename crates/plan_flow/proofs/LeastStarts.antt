-- Where the iteration starts, and the plan with which it ends.
use Rattle.std.proofs.Common.{◌≡◌, ℕ, ◌<◌, ◌≤◌, ◌+◌, ◌==◌, Bool, false, List, [], ◌∷◌, ◌++◌, length, replicate, slice_get, slice_set, not, Option, Some, None, option_map, IsTrue, refl, sym, ap, subst, ◌∙◌, inl, inr, arith}
use Rattle.std.specs.Option.{option_flatten}
use Rattle.std.proofs.lemmas.Bool.{false≢true, true≢false, or_left, or_cases, eq-eqb, eqb-true}
use Rattle.std.proofs.lemmas.List.{length-set, length-replicate}
use Rattle.std.proofs.lemmas.Option.{none-some}
use Rattle.class_model.specs.declared.frame.Frame.{Frame}
use Rattle.class_model.specs.declared.frame.VType.{VType}
use Rattle.class_tree.specs.Headers.{Classes, headers_of}
use Rattle.flow_code.specs.FlatCode.{FlatCode, point_at}
use Rattle.flow_code.specs.declared.point.Point.{Point}
use Rattle.member_link.specs.Machine.Links.{AreLinksOf}
use Rattle.member_link.specs.Machine.Programs.{Links}
use Rattle.plan_flow.specs.Inner.Blocks.{AreHeads, AreReachingBy, HeadTable, IsKnownTo, marked}
use Rattle.plan_flow.specs.Inner.Planning.{made_edges, IsPlanOf}
use Rattle.plan_flow.specs.Inner.Reaching.{Reached, reached_in, IsUnder, IsReaching, AreReaching, HasListed}
use Rattle.plan_flow.specs.Inner.Sharing.{AreTargets, plans_of, targets_in}
use Rattle.plan_flow.specs.PlanScope.{PlanScope, scope_of, local_types, stack_types}
use Rattle.plan_flow.specs.Plans.{FlowsInside, IsLeast, MadeEdge, Plan, PlannedPoint, planned, state_without_sites}
use Rattle.plan_flow.specs.declared.edge.Edge.{Edge}
use Rattle.virtual_state.specs.Making.{CanBeState, IsStateOf}
use Rattle.virtual_state.specs.Sites.{has, differing}
use Rattle.virtual_state.specs.States.{State, IsState, IsIncreasing, sites_of, is_present}
use Rattle.virtual_state.specs.Laws.Objects.{same_or_not}
use Rattle.plan_flow.proofs.AskedSites.{found_point}
use Rattle.plan_flow.proofs.Iterating.{put, put_other, Final}
use Rattle.plan_flow.proofs.LeastPlans.{nothing, nothing_at, start_states, start_states_are, start_under, from_left, some_planned, Planning, is_least_plan, point_there, filter_order, blank_slots, no_names, blank_is_state}
use Rattle.plan_flow.proofs.MustLaws.{same_sites}
use Rattle.plan_flow.proofs.Pruning.{state_of_is_one}
use Rattle.plan_flow.proofs.PointLists.{put_is, none_reached, set_other, appended_before, appended_here}
use Rattle.plan_flow.proofs.Settled.{path_from_none}
use Rattle.plan_flow.proofs.SharedPlans.{all_planned_edges}
use Rattle.plan_flow.proofs.Visiting.{reaching_more, IsLeftIn, AreSharedIn}

-- ---- a state with no site

pub can_be_blank : (locals stack : List VType) → CanBeState (blank_slots locals stack) []
can_be_blank locals stack = record {
  places = λ site named. absurd (no_names locals stack site named);
  fields = λ from to edge. absurd (none-some edge.object edge.there);
  acyclic = λ site path. path_from_none [] path refl;
  usable = λ site object there. absurd (none-some object there);
}

pub blank_is :
    (locals stack : List VType) (state : State)
    → IsState state
    → IsStateOf (blank_slots locals stack) [] state
    → state ≡ record { slots = blank_slots locals stack; objects = [] }
blank_is locals stack state is of_blank =
    state_of_is_one (blank_slots locals stack) [] state (record { slots = blank_slots locals stack; objects = [] }) is
    (blank_is_state locals stack) of_blank
    (record { same_slots = refl; reached = λ site present. absurd (false≢true present); kept = λ site reached. refl })

-- ---- the start

start_is :
    (s : PlanScope)
    → FlowsInside s.flat
    → reached_in (slice_set (replicate (length s.flat.points) None) 0 (Some (state_without_sites s 0))) ≡ start_states s
start_is s flows =
    let count = length s.flat.points in
    let inside : 0 < length (replicate {A = Option State} count None) = subst (λ (n : ℕ). 0 < n)
    (sym (length-replicate {A = Option State} count None)) flows.some in
    put_is (replicate count None) 0 (state_without_sites s 0) inside
    ∙ ap (λ (states : Reached). put states 0 (state_without_sites s 0)) (none_reached count)
    ∙ sym (start_states_are s)

elsewhere_none : (s : PlanScope) (at : ℕ) → (0 ≡ at → ⊥) → start_states s at ≡ None
elsewhere_none s at differ =
    ap (λ (r : Reached). r at) (start_states_are s) ∙ put_other nothing 0 at (state_without_sites s 0) differ ∙ nothing_at at

pub start_reaching :
    (s : PlanScope) (states : List (Option State))
    → FlowsInside s.flat
    → states ≡ slice_set (replicate (length s.flat.points) None) 0 (Some (state_without_sites s 0))
    → IsReaching s states (0 ∷ [])
start_reaching s states flows is =
    let same : reached_in states ≡ start_states s = ap reached_in is ∙ start_is s flows in
    record {
      len =
          ap (λ (list : List (Option State)). length list) is
          ∙ length-set (replicate (length s.flat.points) None) 0 (Some (state_without_sites s 0))
          ∙ length-replicate (length s.flat.points) None;
      under = subst (IsUnder s) (sym same) (start_under s flows);
      lead = λ at out. elim (same_or_not 0 at) [
        | inl here ↦ absurd (true≢false (sym (or_left (0 == at) false (eq-eqb 0 at here)) ∙ out))
        | inr differ ↦ record {
          each = λ number point state left behind row is_point is_found is_left is_row is_behind.
              absurd (none-some state (sym (elsewhere_none s at differ) ∙ sym (ap (λ (r : Reached). r at) same) ∙ is_found));
        }
      ];
    }

types_are :
    (flat : FlatCode) (at : ℕ) (point : Point) (types : Frame)
    → point_at flat at ≡ Some point
    → point.typed ≡ types
    → (types.locals ≡ local_types flat at) × (types.stack ≡ stack_types flat at)
types_are flat at point types there same = (
  sym (ap (λ (f : Frame). f.locals) same) ∙ rw there refl,
  sym (ap (λ (f : Frame). f.stack) same) ∙ rw there refl,
)

-- the same, where the types of point 0 are known
pub started_with :
    (s : PlanScope) (flat : FlatCode) (states : List (Option State)) (types : Frame) (state : State)
    → s.flat ≡ flat
    → FlowsInside flat
    → option_map (λ (point : Point). point.typed) (point_at flat 0) ≡ Some types
    → state ≡ record { slots = blank_slots types.locals types.stack; objects = [] }
    → states ≡ slice_set (replicate (length flat.points) None) 0 (Some state)
    → IsReaching s states (0 ∷ [])
started_with s flat states types state same flows typed is_state is =
    let found = found_point (λ (point : Point). point.typed) (point_at s.flat 0) types
    (ap (λ (f : FlatCode). option_map (λ (point : Point). point.typed) (point_at f 0)) same ∙ typed) in
    let are = types_are s.flat 0 found.0 types found.1 found.2 in
    let blank : state ≡ state_without_sites s 0 = is_state ∙ (λ i. record { slots = blank_slots (are.0 i) (are.1 i); objects = [] }) in
    start_reaching s states (subst FlowsInside (sym same) flows)
    (is ∙ (λ i. slice_set (replicate (length (sym same i).points) None) 0 (Some (blank i))))

pub point_of_start :
    (flat : FlatCode) (types : Option Frame)
    → FlowsInside flat
    → types ≡ option_map (λ (point : Point). point.typed) (point_at flat 0)
    → types ≡ None
    → ⊥
point_of_start flat types flows is none =
    let point = point_there flat.points 0 flows.some in
    none-some point.0.typed (sym none ∙ is ∙ ap (option_map (λ (one : Point). one.typed)) point.1)

-- ---- the sites by which states differ

pub differing_is :
    (state other : State) (sites : List ℕ)
    → IsState state
    → IsIncreasing sites
    → ((site : ℕ) → has sites site ≡ has (differing state other) site)
    → sites ≡ differing state other
differing_is state other sites is order same =
    same_sites sites (differing state other) order
    (filter_order (λ site. not (is_present other.objects site)) (sites_of state.objects) is.order) same

-- ---- the plans of points

abbrev planned_of : State → List ℕ → List MadeEdge → PlannedPoint
planned_of state made edges = record { state = state; made = made; edges = edges }

pub point_planned :
    (classes : Classes) (flat : FlatCode) (table : List (List ℕ)) (states : List (Option State)) (at : ℕ) (state left : State)
    (edges : List Edge) (copy : State) (made : List ℕ) (plans : List MadeEdge) (links : Links)
    → AreLinksOf (headers_of classes) links
    → AreTargets flat table
    → AreReaching classes flat states []
    → reached_in states at ≡ Some state
    → IsState left
    → IsLeftIn classes flat at state left
    → AreSharedIn classes flat at left (targets_in table at) edges
    → copy ≡ state
    → made ≡ differing state left
    → ((point : Point) → point_at flat at ≡ Some point → plans ≡ plans_of (reached_in states) point.handlers edges)
    → IsPlanOf (scope_of classes links flat) (reached_in states) at (Some (record { state = copy; made = made; edges = plans }))
point_planned classes flat table states at state left edges copy made plans links are is_table reaching found left_state is_left effect =
    λ same_copy same_made same_plans.
    let s = scope_of classes links flat in
    let under = (reaching links are).under in
    let point = point_there flat.points at (under.inside at state found) in
    let all = all_planned_edges s point.0 at left (reached_in states) (targets_in table at) edges (is_table.each at point.0 point.1)
    (effect links point.0 are point.1) in
    let plans_are : plans ≡ made_edges (reached_in states) all.full = same_plans point.0 point.1 ∙ all.same in
    let planned_point = planned_of state (differing state left) (made_edges (reached_in states) all.full) in
    let planned = some_planned s (reached_in states) at planned_point
    (from_left s (reached_in states) at point.0 state left all.full (under.at at state found).is_state left_state point.1 found
    (is_left links point.0 are point.1)
    all.are) in
    subst (λ (one : PlannedPoint). IsPlanOf s (reached_in states) at (Some one))
    (λ i. planned_of (sym same_copy i) (sym same_made i) (sym plans_are i)) planned

abbrev pub final_of : (s : PlanScope) (states : List (Option State)) → IsReaching s states [] → Final s
final_of s states is = record { states = reached_in states; under = is.under; lead = λ at inside. is.lead at refl }

-- the plans of points, as far as they are made
pub record ArePlanned (classes : Classes) (flat : FlatCode) (states : List (Option State)) (points : Plan) (count : ℕ) : Type 0 where
  pub len : length points ≡ count
  pub few : count ≤ length flat.points
  pub each :
      (links : Links)
      → AreLinksOf (headers_of classes) links
      → (at : ℕ)
      → at < count
      → IsPlanOf (scope_of classes links flat) (reached_in states) at (planned points at)

pub none_yet : (classes : Classes) (flat : FlatCode) (states : List (Option State)) → ArePlanned classes flat states [] 0
none_yet classes flat states = record { len = refl; few = omega arith; each = λ links are at inside. absurd (omega (arith, inside)) }

length_more : (list : Plan) (plan : Option PlannedPoint) → length (list ++ plan ∷ []) ≡ length list + 1
length_more [] plan = refl
length_more (first ∷ list) plan = let rest = length_more list plan in omega (arith, rest)

pub one_more :
    (classes : Classes) (flat : FlatCode) (states : List (Option State)) (points : Plan) (count : ℕ) (plan : Option PlannedPoint)
    → ArePlanned classes flat states points count
    → count < length flat.points
    → ((links : Links) → AreLinksOf (headers_of classes) links → IsPlanOf (scope_of classes links flat) (reached_in states) count plan)
    → ArePlanned classes flat states (points ++ plan ∷ []) (count + 1)
one_more classes flat states points count plan done inside is = record {
  len = let more = length_more points plan in let len = done.len in omega (arith, len, more);
  few = omega (arith, inside);
  each = λ links are at within. elim (same_or_not count at) [
    | inl here ↦
        let len : length points ≡ at = done.len ∙ here in
        let got = subst (λ (one : ℕ). slice_get (points ++ plan ∷ []) one ≡ Some plan) len (appended_here points plan) in
        subst (IsPlanOf (scope_of classes links flat) (reached_in states) at) (sym (ap option_flatten got))
        (subst (λ (one : ℕ). IsPlanOf (scope_of classes links flat) (reached_in states) one plan) here (is links are))
    | inr differ ↦
        let len = done.len in
        let low : at < count = omega (arith, within, differ) in
        let there : at < length points = omega (arith, low, len) in
        subst (IsPlanOf (scope_of classes links flat) (reached_in states) at)
        (sym (ap option_flatten (appended_before points at plan there))) (done.each links are at low)
  ];
}

-- a point that is not reached has no plan
pub none_planned :
    (classes : Classes) (flat : FlatCode) (states : List (Option State)) (at : ℕ) (links : Links)
    → reached_in states at ≡ None
    → IsPlanOf (scope_of classes links flat) (reached_in states) at None
none_planned classes flat states at links none = record {
  from = λ point is. absurd (none-some point is);
  found = λ state is. absurd (none-some state (sym none ∙ is));
}

-- the plans of points, and the states that are known meanwhile
pub record IsPlanning (classes : Classes) (flat : FlatCode) (table : HeadTable) (states : List (Option State)) (points : Plan) (count : ℕ)
    : Type 0 where
  pub known : IsKnownTo classes flat table count states
  pub planned : (all : AreReachingBy classes flat table []) → ArePlanned classes flat all.states points count

pub all_planned :
    (classes : Classes) (flat : FlatCode) (states : List (Option State)) (points : Plan) (count : ℕ) (links : Links)
    → AreLinksOf (headers_of classes) links
    → AreReaching classes flat states []
    → ArePlanned classes flat states points count
    → length flat.points ≤ count
    → IsLeast (scope_of classes links flat) points
all_planned classes flat states points count links are reaching done past =
    let s = scope_of classes links flat in
    let few = done.few in
    let len = done.len in
    let planning : Planning s points = record {
      final = final_of s states (reaching links are);
      len = omega (arith, few, past, len);
      points = λ at inside. done.each links are at (omega (arith, inside, past));
    } in
    is_least_plan s points planning

-- ---- the table with which the iteration starts

pub start_by :
    (classes : Classes) (flat : FlatCode) (table : HeadTable) (types : Frame) (state : State)
    → FlowsInside flat
    → AreHeads flat table.heads
    → option_map (λ (point : Point). point.typed) (point_at flat 0) ≡ Some types
    → state ≡ record { slots = blank_slots types.locals types.stack; objects = [] }
    → table.states ≡ slice_set (replicate (length flat.points) None) 0 (Some state)
    → AreReachingBy classes flat table (0 ∷ [])
start_by classes flat table types state flows heads typed is_state is = record {
  states = table.states;
  reaching = λ links are. started_with (scope_of classes links flat) flat table.states types state refl flows typed is_state is;
  spread = record {
    heads = heads;
    len = refl;
    each = λ links are. record {
      same = λ at mark. refl;
      inner = λ at one none found.
          let count = length flat.points in
          let gone : reached_in table.states (at + 1) ≡ None =
          ap (λ (states : List (Option State)). reached_in states (at + 1)) is
          ∙ ap option_flatten (set_other (replicate count None) 0 (at + 1) (Some state) (λ same. omega (arith, same)))
          ∙ ap (λ (states : Reached). states (at + 1)) (none_reached count) ∙ nothing_at (at + 1) in
          absurd (none-some one (sym gone ∙ found));
    };
  };
  listed = λ at there. elim (or_cases (0 == at) false there) [
    | inl here ↦ subst (λ (n : ℕ). IsTrue (marked table.heads n)) (eqb-true 0 at here) heads.start
    | inr none ↦ absurd (false≢true none)
  ];
}

-- the table before point 0 is reached
pub blank_inside :
    (flat : FlatCode) (heads : List Bool) (table : HeadTable)
    → FlowsInside flat
    → AreHeads flat heads
    → table ≡ record { heads = heads; states = replicate (length heads) None }
    → 0 < length table.states
blank_inside flat heads table flows are is =
    let len : length table.states ≡ length heads =
    ap (λ (t : HeadTable). length t.states) is ∙ length-replicate {A = Option State} (length heads) None in
    let points = are.len in
    let some = flows.some in
    omega (arith, len, points, some)

pub blank_head :
    (flat : FlatCode) (heads : List Bool) (table : HeadTable)
    → AreHeads flat heads
    → table ≡ record { heads = heads; states = replicate (length heads) None }
    → IsTrue (marked table.heads 0)
blank_head flat heads table are is = subst (λ (t : HeadTable). IsTrue (marked t.heads 0)) (sym is) are.start

-- point 0 is reached in it
pub start_with :
    (classes : Classes) (flat : FlatCode) (heads : List Bool) (blank table : HeadTable) (types : Frame) (state : State)
    → FlowsInside flat
    → AreHeads flat heads
    → option_map (λ (point : Point). point.typed) (point_at flat 0) ≡ Some types
    → state ≡ record { slots = blank_slots types.locals types.stack; objects = [] }
    → blank ≡ record { heads = heads; states = replicate (length heads) None }
    → table ≡ record blank { states = slice_set blank.states 0 (Some state) }
    → AreReachingBy classes flat table (0 ∷ [])
start_with classes flat heads blank table types state flows are typed is_state is_blank is =
    let made : HeadTable = record { heads = heads; states = slice_set (replicate (length heads) None) 0 (Some state) } in
    let same : table ≡ made = is ∙ ap {B = HeadTable} (λ (t : HeadTable). record t { states = slice_set t.states 0 (Some state) }) is_blank in
    subst (λ (t : HeadTable). AreReachingBy classes flat t (0 ∷ [])) (sym same)
    (start_by classes flat made types state flows are typed is_state
    (ap (λ (count : ℕ). slice_set (replicate {A = Option State} count None) 0 (Some state)) are.len))

pub start_listed :
    (classes : Classes) (flat : FlatCode) (table : HeadTable) (work also : List ℕ)
    → work ≡ []
    → AreReachingBy classes flat table (0 ∷ [])
    → HasListed work also 0
    → AreReachingBy classes flat table also
start_listed classes flat table work also is all listed = record {
  states = all.states;
  reaching = reaching_more classes flat all.states (0 ∷ []) also all.reaching (λ at there. elim (or_cases (0 == at) false there) [
    | inl here ↦ subst (λ (n : ℕ). IsTrue (has also n)) (eqb-true 0 at here) listed.here
    | inr none ↦ absurd (false≢true none)
  ]);
  spread = all.spread;
  listed = λ at there. elim (listed.only at there) [
    | inl same ↦ subst (λ (n : ℕ). IsTrue (marked table.heads n)) same all.spread.heads.start
    | inr old ↦ absurd (false≢true (subst (λ (list : List ℕ). IsTrue (has list at)) is old))
  ];
}
