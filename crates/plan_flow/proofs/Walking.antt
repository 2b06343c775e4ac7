-- A block is gone through, point by point: each point behind its head gets its state from the one edge that leads to it.
use Rattle.std.proofs.Common.{◌≡◌, ℕ, ◌<◌, ◌≤◌, ◌+◌, ◌-◌, ◌==◌, Bool, List, [], ◌∷◌, length, slice_get, slice_set, Some, None, IsTrue, IsFalse, refl, sym, ap, subst, ◌∙◌, inl, inr, arith}
use Rattle.std.specs.Option.{option_flatten}
use Rattle.std.proofs.lemmas.Bool.{cases_Bool, both_ways, or_left, or_right, eq-eqb}
use Rattle.std.proofs.lemmas.List.{length-set}
use Rattle.std.proofs.lemmas.Option.{none-some, same_Some}
use Rattle.class_tree.specs.Headers.{Classes, headers_of}
use Rattle.flow_code.specs.FlatCode.{FlatCode, IsFlat, point_at}
use Rattle.flow_code.specs.declared.point.Point.{Point}
use Rattle.member_link.specs.Machine.Links.{AreLinksOf}
use Rattle.member_link.specs.Machine.Programs.{Links}
use Rattle.plan_flow.specs.Effect.{AreEdges, IsStateBehind}
use Rattle.plan_flow.specs.Inner.Blocks.{AreEdgesAt, AreHeads, AreReachingBy, HeadTable, IsBlockWalked, IsInner, IsSpread, IsStateInside, IsWalked, marked, next_edge}
use Rattle.plan_flow.specs.Inner.Iteration.{IsCleaned, IsLeft, IsRaised, IsTarget}
use Rattle.plan_flow.specs.Inner.Reaching.{Reached, reached_in, AreFollowed, AreReaching, AreStarted, IsMore}
use Rattle.plan_flow.specs.Inner.Sharing.{AreTargets, open_by, targets_in}
use Rattle.plan_flow.specs.Must.{IsMustOf}
use Rattle.plan_flow.specs.PlanRows.{RowEdge}
use Rattle.plan_flow.specs.PlanScope.{PlanScope, scope_of}
use Rattle.plan_flow.specs.PlanTable.{falls_on}
use Rattle.plan_flow.specs.Plans.{FlowsInside}
use Rattle.plan_flow.specs.declared.edge.Edge.{Edge}
use Rattle.virtual_state.specs.Orders.{IsBelow}
use Rattle.virtual_state.specs.Sites.{has}
use Rattle.virtual_state.specs.States.{State}
use Rattle.virtual_state.specs.Laws.Objects.{same_or_not}
use Rattle.virtual_state.specs.Laws.Orders.{below_itself, below_and_below}
use Rattle.plan_flow.proofs.EffectGrows.{behind_below, row_of_edge}
use Rattle.plan_flow.proofs.Following.{Following, followed_one, started_inside}
use Rattle.plan_flow.proofs.HeadMarks.{in_or_out, outside_marked}
use Rattle.plan_flow.proofs.LeastPlans.{point_there}
use Rattle.plan_flow.proofs.PointLists.{set_here, set_other}
use Rattle.plan_flow.proofs.Raising.{state_at_above}
use Rattle.plan_flow.proofs.Straight.{OnlyEdge, edge_inside, inside_makes_none, inside_straight, only_edge, straight_shared}
use Rattle.plan_flow.proofs.Visiting.{visit_starts, visited}

-- ---- states inside blocks

-- the state behind an edge grows with the state before the instruction
pub behind_grows :
    (s : PlanScope) (at : ℕ) (point : Point) (row : RowEdge) (before left above high one other : State)
    → IsLeft s at point before left
    → IsBelow before above
    → IsLeft s at point above high
    → IsStateBehind s point at left row one
    → IsStateBehind s point at high row other
    → IsBelow one other
behind_grows s at point row before left above high one other low up is_high is_one is_other =
    let over = low.least high (below_and_below before above high up is_high.below) is_high.must in
    let must_high = subst (λ (x : State). IsMustOf s at point x []) over.is is_high.must in
    let behind_high = subst (λ (x : State). IsStateBehind s point at x row other) over.is is_other in
    behind_below s at point left (has over.sites) row one other over.closed over.there low.must must_high is_one behind_high

-- a state that its only edge gives
pub inner_of :
    (s : PlanScope) (states : Reached) (at : ℕ) (point : Point) (before left behind clean : State)
    → point_at s.flat at ≡ Some point
    → IsTrue (falls_on point.instr)
    → states at ≡ Some before
    → IsLeft s at point before left
    → IsStateBehind s point at left (next_edge s at point) behind
    → IsCleaned s.flat (at + 1) behind clean
    → IsInner s states at clean
inner_of s states at point before left behind clean is_point falls found is_left is_behind is_clean = record {
  point = point;
  is_point = is_point;
  falls = falls;
  before = before;
  is_found = found;
  least = λ above high over target up is_high is_over is_target.
      is_clean.least target
      (below_and_below behind over target (behind_grows s at point (next_edge s at point) before left above high behind over is_left up is_high is_behind is_over) is_target.below)
      is_target.beneath.each;
}

pub inner_more :
    (s : PlanScope) (states more : Reached) (at : ℕ) (state : State)
    → IsMore states more
    → IsInner s states at state
    → IsInner s more at state
inner_more s states more at state grows inner =
    let high = grows.each at inner.before inner.is_found in
    record {
      point = inner.point;
      is_point = inner.is_point;
      falls = inner.falls;
      before = high.0;
      is_found = high.1;
      least = λ above left behind target up. inner.least above left behind target (below_and_below inner.before high.0 above high.2 up);
    }

-- what a state inside a block is below
pub inner_below :
    (s : PlanScope) (states : Reached) (at : ℕ) (point : Point) (before left behind state target : State)
    → IsInner s states at state
    → point_at s.flat at ≡ Some point
    → states at ≡ Some before
    → IsLeft s at point before left
    → IsStateBehind s point at left (next_edge s at point) behind
    → IsTarget s (at + 1) behind target
    → IsBelow state target
inner_below s states at point before left behind state target inner is_point found is_left is_behind is_target =
    let same_point : point ≡ inner.point = same_Some point inner.point (sym is_point ∙ inner.is_point) in
    let same_before : before ≡ inner.before = same_Some before inner.before (sym found ∙ inner.is_found) in
    inner.least before left behind target
    (subst (λ (x : State). IsBelow inner.before x) (sym same_before) (below_itself inner.before))
    (subst (λ (p : Point). IsLeft s at p before left) same_point is_left)
    (subst (λ (p : Point). IsStateBehind s p at left (next_edge s at p) behind) same_point is_behind)
    is_target

-- ---- one point more

-- the point of which the edges are known, and the one behind it, which is no head
record Walk (classes : Classes) (flat : FlatCode) (targets : List (List ℕ)) (table : HeadTable) (work : List ℕ) (at : ℕ) (edges : List Edge)
    (edge : Edge) (clean : State) : Type 0 where
  flat_code : IsFlat flat
  flows : FlowsInside flat
  is_targets : AreTargets flat targets
  walked : IsWalked classes flat targets table work at edges
  inside : IsFalse (marked table.heads (at + 1))
  is_first : slice_get edges 0 ≡ Some edge
  is_clean : IsCleaned flat (at + 1) edge.state clean

module _ (classes : Classes) (flat : FlatCode) (targets : List (List ℕ)) (table : HeadTable) (work : List ℕ) (at : ℕ) (edges : List Edge)
    (edge : Edge) (clean : State) (w : Walk classes flat targets table work at edges edge clean) where
  here : (links : Links) → AreLinksOf (headers_of classes) links → (point : Point) × (point_at flat at ≡ Some point)
  here links are = point_there flat.points at ((w.walked.reaching links are).under.inside at w.walked.state w.walked.found)

  only : (links : Links) (are : AreLinksOf (headers_of classes) links) (point : Point) → point_at flat at ≡ Some point → OnlyEdge (scope_of classes links flat) at point w.walked.leaves.left edges edge
  only links are point is_point =
      let s = scope_of classes links flat in
      let left = w.walked.leaves.left in
      let inside = (w.walked.reaching links are).under.inside at w.walked.state w.walked.found in
      let straight = inside_straight flat table.heads at point w.walked.spread.heads inside is_point w.inside in
      let same = straight_shared s at point (targets_in targets at) (w.is_targets.each at point is_point) left straight in
      only_edge s at point left edges edge
      (subst (λ (rows : List RowEdge). AreEdges s point at left rows edges) same (w.walked.leaves.effect links point are is_point)) w.is_first

  started : (links : Links) → AreLinksOf (headers_of classes) links → AreStarted classes flat w.walked.states (edge ∷ [])
  started links are =
      let point = here links are in
      let all = visit_starts classes flat targets at w.walked.states work w.walked.state w.walked.leaves.left edges links are w.flat_code w.flows w.is_targets
      w.walked.reaching w.walked.found w.walked.leaves.left_state w.walked.leaves.is_left w.walked.leaves.effect in
      subst (AreStarted classes flat w.walked.states) (only links are point.0 point.1).only all

  raised : (links : Links) → AreLinksOf (headers_of classes) links → IsRaised (scope_of classes links flat) edge.to edge.state (reached_in w.walked.states edge.to) clean
  raised links are =
      let s = scope_of classes links flat in
      let point = here links are in
      let one = only links are point.0 point.1 in
      let start = started links are in
      let cleaned : IsCleaned flat edge.to edge.state clean = subst (λ (to : ℕ). IsCleaned flat to edge.state clean) (sym one.leads) w.is_clean in
      record {
        at = state_at_above s edge.to edge.state clean (start.edge links 0 edge are refl).is_at cleaned.below;
        below = cleaned.below;
        above_old = λ old is.
            let found = subst (λ (to : ℕ). reached_in w.walked.states to ≡ Some old) one.leads is in
            inner_below s (reached_in w.walked.states) at point.0 w.walked.state w.walked.leaves.left edge.state old clean
            ((w.walked.spread.each links are).inner at old w.inside found) point.1 w.walked.found
            (w.walked.leaves.is_left links point.0 are point.1) one.behind
            (record { below = w.is_clean.below; beneath = record { each = w.is_clean.beneath } });
        beneath = record { each = cleaned.beneath };
        least = λ target over plain olds. cleaned.least target over plain.each;
      }

  follow : (links : Links) → AreLinksOf (headers_of classes) links → Following classes flat w.walked.states work (edge.to ∷ work) edge clean
  follow links are = record {
    links = links;
    are = are;
    started = started links are;
    raised = raised;
    here = or_left (edge.to == edge.to) (has work edge.to) (eq-eqb edge.to edge.to refl);
    others = λ other there. or_right (edge.to == other) (has work other) there;
  }

  other : (links : Links) → AreLinksOf (headers_of classes) links → (place : ℕ) → (at + 1 ≡ place → ⊥) → reached_in (slice_set w.walked.states edge.to (Some clean)) place ≡ reached_in w.walked.states place
  other links are place differ =
      let point = here links are in
      let leads = (only links are point.0 point.1).leads in
      ap option_flatten (set_other w.walked.states edge.to place (Some clean) (λ same. differ (sym leads ∙ same)))

  found_inside : (links : Links) → AreLinksOf (headers_of classes) links → reached_in (slice_set w.walked.states edge.to (Some clean)) (at + 1) ≡ Some clean
  found_inside links are =
      let point = here links are in
      let leads = (only links are point.0 point.1).leads in
      subst (λ (to : ℕ). reached_in (slice_set w.walked.states edge.to (Some clean)) to ≡ Some clean) leads
      (ap option_flatten (set_here w.walked.states edge.to (Some clean) (started_inside classes flat w.walked.states edge links are (started links are))))

  followed : (links : Links) → AreLinksOf (headers_of classes) links → AreFollowed classes flat w.walked.states (slice_set w.walked.states edge.to (Some clean)) work (edge.to ∷ work) (edge ∷ [])
  followed links are = followed_one classes flat w.walked.states work (edge.to ∷ work) edge clean (follow links are)

  inner_here : (links : Links) → AreLinksOf (headers_of classes) links → IsInner (scope_of classes links flat) (reached_in (slice_set w.walked.states edge.to (Some clean))) at clean
  inner_here links are =
      let s = scope_of classes links flat in
      let point = here links are in
      let one = only links are point.0 point.1 in
      inner_of s (reached_in (slice_set w.walked.states edge.to (Some clean))) at point.0 w.walked.state w.walked.leaves.left edge.state clean point.1 one.falls
      (other links are at (λ same. omega (arith, same)) ∙ w.walked.found) (w.walked.leaves.is_left links point.0 are point.1) one.behind w.is_clean

  spread_inside : (links : Links) → AreLinksOf (headers_of classes) links → IsSpread (scope_of classes links flat) table (slice_set w.walked.states edge.to (Some clean))
  spread_inside links are =
      let s = scope_of classes links flat in
      let old = w.walked.spread.each links are in
      let states = reached_in (slice_set w.walked.states edge.to (Some clean)) in
      record {
        same = λ place mark. old.same place mark ∙ sym (other links are place (λ same. both_ways (marked table.heads (at + 1)) w.inside (subst (λ (p : ℕ). IsTrue (marked table.heads p)) (sym same) mark)));
        inner = λ place state none is. elim (same_or_not at place) [
          | inl same ↦
              let found = subst (λ (p : ℕ). states (p + 1) ≡ Some state) (sym same) is in
              let same_state : clean ≡ state = same_Some clean state (sym (found_inside links are) ∙ found) in
              subst (λ (p : ℕ). IsInner s states p state) same (subst (IsInner s states at) same_state (inner_here links are))
          | inr differ ↦
              inner_more s (reached_in w.walked.states) states place state (followed links are).raised.more
              (old.inner place state none (sym (other links are (place + 1) (λ same. differ (omega (arith, same)))) ∙ is))
        ];
      }

  reaching_inside : (links : Links) → AreLinksOf (headers_of classes) links → AreReaching classes flat (slice_set w.walked.states edge.to (Some clean)) ((at + 1) ∷ work)
  reaching_inside links are =
      let point = here links are in
      let one = only links are point.0 point.1 in
      let all = subst (AreFollowed classes flat w.walked.states (slice_set w.walked.states edge.to (Some clean)) work (edge.to ∷ work)) (sym one.only) (followed links are) in
      let reach = visited classes flat targets at w.walked.states (slice_set w.walked.states edge.to (Some clean)) work (edge.to ∷ work) w.walked.state w.walked.leaves.left edges
      w.is_targets w.walked.reaching w.walked.found w.walked.leaves.is_left w.walked.leaves.effect all in
      subst (λ (to : ℕ). AreReaching classes flat (slice_set w.walked.states edge.to (Some clean)) (to ∷ work)) one.leads reach

  walk : (links : Links) → AreLinksOf (headers_of classes) links → (behind : List Edge) → AreEdgesAt classes flat targets (at + 1) clean behind → IsWalked classes flat targets table work (at + 1) behind
  walk links are behind behind_are = record {
    states = slice_set w.walked.states edge.to (Some clean);
    reaching = reaching_inside links are;
    spread = record {
      heads = w.walked.spread.heads;
      len = length-set w.walked.states edge.to (Some clean) ∙ w.walked.spread.len;
      each = spread_inside;
    };
    state = clean;
    found = found_inside links are;
    leaves = behind_are;
  }

pub walk_on :
    (classes : Classes) (flat : FlatCode) (targets : List (List ℕ)) (table : HeadTable) (work : List ℕ) (at : ℕ) (edges behind : List Edge) (clean : State) (links : Links)
    → AreLinksOf (headers_of classes) links
    → IsFlat flat
    → FlowsInside flat
    → AreTargets flat targets
    → IsWalked classes flat targets table work at edges
    → IsStateInside flat table.heads (at + 1) edges (Some clean)
    → AreEdgesAt classes flat targets (at + 1) clean behind
    → IsWalked classes flat targets table work (at + 1) behind
walk_on classes flat targets table work at edges behind clean links are flat_code flows is_targets walked inside behind_are =
    let some = inside.some clean refl in
    let edge = some.1.0 in
    let w : Walk classes flat targets table work at edges edge clean = record {
      flat_code = flat_code;
      flows = flows;
      is_targets = is_targets;
      walked = walked;
      inside = some.0;
      is_first = some.1.1;
      is_clean = some.1.2;
    } in
    walk classes flat targets table work at edges edge clean w links are behind behind_are

-- ---- the last point of a block

none_first : {A : Type 0} (list : List A) (number : ℕ) (item : A) → slice_get list 0 ≡ None → slice_get list number ≡ Some item → ⊥
none_first [] number item none is = none-some item is
none_first (first ∷ list) number item none is = none-some first (sym none)

pub block_ends :
    (classes : Classes) (flat : FlatCode) (targets : List (List ℕ)) (table : HeadTable) (work : List ℕ) (at : ℕ) (edges : List Edge) (links : Links)
    → AreLinksOf (headers_of classes) links
    → AreTargets flat targets
    → IsWalked classes flat targets table work at edges
    → IsStateInside flat table.heads (at + 1) edges None
    → IsBlockWalked classes flat targets table work edges
block_ends classes flat targets table work at edges links are is_targets walked inside = record {
  last = at;
  walked = walked;
  ends = λ number edge is. elim (cases_Bool (marked table.heads edge.to)) [
    | inl head ↦ head
    | inr none ↦
        let s = scope_of classes links flat in
        let in_code = (walked.reaching links are).under.inside at walked.state walked.found in
        let point = point_there flat.points at in_code in
        let left = walked.leaves.left in
        let list = targets_in targets at in
        let row = row_of_edge s point.0 at left (open_by s at point.0 left (Some list)) edges (walked.leaves.effect links point.0 are point.1) number edge is in
        let row_none = subst (λ (to : ℕ). IsFalse (marked table.heads to)) row.2.same_to none in
        let makes = inside_makes_none flat table.heads at row.0.to point.0 walked.spread.heads in_code point.1 row_none in
        let leads = edge_inside s at point.0 list (is_targets.each at point.0 point.1) left number row.0 row.1 makes in
        elim (inside.none refl) [
          | inl head ↦ absurd (both_ways (marked table.heads (at + 1)) (subst (λ (to : ℕ). IsFalse (marked table.heads to)) leads row_none) head)
          | inr empty ↦ absurd (none_first edges number edge empty is)
        ]
  ];
}

-- ---- from the head on

-- a block was gone through up to the point before a number
pub record IsGoing (classes : Classes) (flat : FlatCode) (targets : List (List ℕ)) (table : HeadTable) (at : ℕ) (state : State) (next : ℕ) (edges : List Edge)
    : Type 0 where
  pub behind : 0 < next
  pub inside : next ≤ length flat.points
  pub walked : (work : List ℕ) (all : AreReachingBy classes flat table (at ∷ work))
      → reached_in all.states at ≡ Some state
      → IsWalked classes flat targets table work (next - 1) edges

pub going_start :
    (classes : Classes) (flat : FlatCode) (targets : List (List ℕ)) (table : HeadTable) (at : ℕ) (state : State) (edges : List Edge)
    → at < length flat.points
    → AreEdgesAt classes flat targets at state edges
    → IsGoing classes flat targets table at state (at + 1) edges
going_start classes flat targets table at state edges inside edges_at = record {
  behind = omega arith;
  inside = omega (arith, inside);
  walked = λ work all found.
      let same : at ≡ at + 1 - 1 = omega arith in
      subst (λ (n : ℕ). IsWalked classes flat targets table work n edges) same
      (record { states = all.states; reaching = all.reaching; spread = all.spread; state = state; found = found; leaves = edges_at });
}

pub next_inside :
    (flat : FlatCode) (heads : List Bool) (next : ℕ) (edges : List Edge) (clean : State)
    → AreHeads flat heads
    → IsStateInside flat heads next edges (Some clean)
    → next < length flat.points
next_inside flat heads next edges clean are inside = elim (in_or_out next (length heads)) [
  | inl low ↦ let len = are.len in omega (arith, low, len)
  | inr past ↦ absurd (both_ways (marked heads next) (inside.some clean refl).0 (outside_marked heads next past))
]

pub going_on :
    (classes : Classes) (flat : FlatCode) (targets : List (List ℕ)) (table : HeadTable) (at : ℕ) (state : State) (next : ℕ) (edges behind : List Edge) (clean : State)
    (links : Links)
    → AreLinksOf (headers_of classes) links
    → IsFlat flat
    → FlowsInside flat
    → AreTargets flat targets
    → AreHeads flat table.heads
    → IsGoing classes flat targets table at state next edges
    → IsStateInside flat table.heads next edges (Some clean)
    → AreEdgesAt classes flat targets next clean behind
    → IsGoing classes flat targets table at state (next + 1) behind
going_on classes flat targets table at state next edges behind clean links are flat_code flows is_targets heads going inside edges_at =
    let low = next_inside flat table.heads next edges clean heads inside in
    record {
      behind = omega arith;
      inside = omega (arith, low);
      walked = λ work all found.
          let past = going.behind in
          let same : next ≡ next - 1 + 1 = omega (arith, past) in
          let back : next - 1 + 1 ≡ next + 1 - 1 = omega (arith, past) in
          subst (λ (n : ℕ). IsWalked classes flat targets table work n behind) back
          (walk_on classes flat targets table work (next - 1) edges behind clean links are flat_code flows is_targets (going.walked work all found)
          (subst (λ (n : ℕ). IsStateInside flat table.heads n edges (Some clean)) same inside)
          (subst (λ (n : ℕ). AreEdgesAt classes flat targets n clean behind) same edges_at));
    }

pub going_end :
    (classes : Classes) (flat : FlatCode) (targets : List (List ℕ)) (table : HeadTable) (at : ℕ) (state : State) (next : ℕ) (edges : List Edge) (links : Links)
    → AreLinksOf (headers_of classes) links
    → AreTargets flat targets
    → IsGoing classes flat targets table at state next edges
    → IsStateInside flat table.heads next edges None
    → (work : List ℕ) (all : AreReachingBy classes flat table (at ∷ work))
    → reached_in all.states at ≡ Some state
    → IsBlockWalked classes flat targets table work edges
going_end classes flat targets table at state next edges links are is_targets going inside work all found =
    let past = going.behind in
    let same : next ≡ next - 1 + 1 = omega (arith, past) in
    block_ends classes flat targets table work (next - 1) edges links are is_targets (going.walked work all found)
    (subst (λ (n : ℕ). IsStateInside flat table.heads n edges None) same inside)

pub going_past :
    (classes : Classes) (flat : FlatCode) (targets : List (List ℕ)) (table : HeadTable) (at : ℕ) (state : State) (next : ℕ) (edges : List Edge) (links : Links)
    → AreLinksOf (headers_of classes) links
    → AreTargets flat targets
    → AreHeads flat table.heads
    → IsGoing classes flat targets table at state next edges
    → length flat.points ≤ next
    → (work : List ℕ) (all : AreReachingBy classes flat table (at ∷ work))
    → reached_in all.states at ≡ Some state
    → IsBlockWalked classes flat targets table work edges
going_past classes flat targets table at state next edges links are is_targets heads going past =
    let len = heads.len in
    going_end classes flat targets table at state next edges links are is_targets going
    (record {
      some = λ clean is. absurd (none-some clean is);
      none = λ none. inl (outside_marked table.heads next (omega (arith, past, len)));
    })
