-- The edges of a point are followed, one point of the work list after another.
use Rattle.std.proofs.Common.{◌≡◌, ℕ, List, ◌∷◌, slice_get, Option, Some, None, IsTrue, IsFalse, sym, subst, ◌∙◌, inl, inr}
use Rattle.std.proofs.lemmas.Option.{none-some, same_Some}
use Rattle.class_tree.specs.Headers.{Classes, headers_of}
use Rattle.flow_code.specs.FlatCode.{FlatCode, IsFlat, point_at}
use Rattle.flow_code.specs.declared.point.Point.{Point}
use Rattle.member_link.specs.Machine.Links.{AreLinksOf}
use Rattle.member_link.specs.Machine.Programs.{Links}
use Rattle.plan_flow.specs.Effect.{AreEdges, IsStateBehind}
use Rattle.plan_flow.specs.Inner.Iteration.{IsLeft}
use Rattle.plan_flow.specs.Inner.Reaching.{reached_in, IsEdgeTo, LeadsIn, AllLeadAt, AreReaching, AreStarted, AreFollowed, IsRaisedTo}
use Rattle.plan_flow.specs.Inner.Sharing.{AreTargets, open_by, targets_in}
use Rattle.plan_flow.specs.Must.{open_edges}
use Rattle.plan_flow.specs.PlanScope.{PlanScope, scope_of}
use Rattle.plan_flow.specs.Plans.{FlowsInside}
use Rattle.plan_flow.specs.declared.edge.Edge.{Edge}
use Rattle.virtual_state.specs.Sites.{has}
use Rattle.virtual_state.specs.States.{State, IsState}
use Rattle.virtual_state.specs.Laws.Objects.{same_or_not}
use Rattle.plan_flow.proofs.Behind.{behind_is_at}
use Rattle.plan_flow.proofs.EffectGrows.{edge_of_row, row_of_edge}
use Rattle.plan_flow.proofs.Following.{leads_more, not_listed}
use Rattle.plan_flow.proofs.Inside.{edges_inside}
use Rattle.plan_flow.proofs.Iterating.{Pending, edge_to, behind_is_one}
use Rattle.plan_flow.proofs.LeastPlans.{point_there}
use Rattle.plan_flow.proofs.MustLaws.{has_behind}
use Rattle.plan_flow.proofs.Raising.{state_at_above, left_is_one}
use Rattle.plan_flow.proofs.Sharing.{like_shared, shared_like}

-- ---- the state in which the instruction is done

-- for each scope of a tree
abbrev pub IsLeftIn : Classes → FlatCode → ℕ → State → State → Type 0
IsLeftIn classes flat at state left =
    (links : Links) (point : Point)
    → AreLinksOf (headers_of classes) links
    → point_at flat at ≡ Some point
    → IsLeft (scope_of classes links flat) at point state left

-- the edges of a point, of which one stands for all to handlers that lead to one of these points
abbrev pub AreSharedIn : Classes → FlatCode → ℕ → State → List ℕ → List Edge → Type 0
AreSharedIn classes flat at left targets edges =
    (links : Links) (point : Point)
    → AreLinksOf (headers_of classes) links
    → point_at flat at ≡ Some point
    → AreEdges (scope_of classes links flat) point at left (open_by (scope_of classes links flat) at point left (Some targets)) edges

-- ---- a visit

record Visit (classes : Classes) (flat : FlatCode) (table : List (List ℕ)) (at : ℕ) (before : List (Option State)) (work : List ℕ)
    (state left : State) (edges : List Edge) : Type 0 where
  flat_code : IsFlat flat
  flows : FlowsInside flat
  reaching : AreReaching classes flat before (at ∷ work)
  found : reached_in before at ≡ Some state
  left_state : IsState left
  is_left : IsLeftIn classes flat at state left
  targets : AreTargets flat table
  effect : AreSharedIn classes flat at left (targets_in table at) edges

started_in :
    (classes : Classes) (flat : FlatCode) (table : List (List ℕ)) (at : ℕ) (before : List (Option State)) (work : List ℕ) (state left : State) (edges : List Edge)
    → Visit classes flat table at before work state left edges
    → (links : Links) (number : ℕ) (edge : Edge)
    → AreLinksOf (headers_of classes) links
    → slice_get edges number ≡ Some edge
    → IsEdgeTo (scope_of classes links flat) (reached_in before) edge.to edge.state
started_in classes flat table at before work state left edges v links number edge are is =
    let s = scope_of classes links flat in
    let under = (v.reaching links are).under in
    let point = point_there flat.points at (under.inside at state v.found) in
    let is_left = v.is_left links point.0 are point.1 in
    let targets = targets_in table at in
    let row = row_of_edge s point.0 at left (open_by s at point.0 left (Some targets)) edges (v.effect links point.0 are point.1) number edge is in
    let like = shared_like s point.0 at left targets (v.targets.each at point.0 point.1) number row.0 row.1 in
    let behind = like.behind edge.state row.2.behind in
    let counts = (state_at_above s at state left (under.at at state v.found) is_left.below).fields in
    let pending : Pending s (reached_in before) = record {
      from = at;
      number = like.stands.number;
      point = point.0;
      state = state;
      left = left;
      behind = edge.state;
      row = like.other;
      is_point = point.1;
      is_found = v.found;
      is_left = is_left;
      is_row = like.stands.is;
      is_behind = behind;
      is_at = behind_is_at s at point.0 left like.other edge.state counts behind;
      target_inside = (edges_inside s at point.0 left v.flat_code v.flows point.1).each like.stands.number like.other like.stands.is;
    } in
    subst (λ (to : ℕ). IsEdgeTo s (reached_in before) to edge.state) (like.same_to ∙ sym row.2.same_to) (edge_to s (reached_in before) pending under)

pub visit_starts :
    (classes : Classes) (flat : FlatCode) (table : List (List ℕ)) (at : ℕ) (before : List (Option State)) (work : List ℕ) (state left : State) (edges : List Edge)
    (links : Links)
    → AreLinksOf (headers_of classes) links
    → IsFlat flat
    → FlowsInside flat
    → AreTargets flat table
    → AreReaching classes flat before (at ∷ work)
    → reached_in before at ≡ Some state
    → IsState left
    → IsLeftIn classes flat at state left
    → AreSharedIn classes flat at left (targets_in table at) edges
    → AreStarted classes flat before edges
visit_starts classes flat table at before work state left edges links are flat_code flows targets reaching found left_state is_left effect = record {
  len = (reaching links are).len;
  under = λ link are_link. (reaching link are_link).under;
  edge =
      started_in classes flat table at before work state left edges
      (record {
        flat_code = flat_code;
        flows = flows;
        reaching = reaching;
        found = found;
        left_state = left_state;
        is_left = is_left;
        targets = targets;
        effect = effect;
      });
}

-- the edges of the point itself, where its state is as it was
lead_here :
    (classes : Classes) (flat : FlatCode) (table : List (List ℕ)) (at : ℕ) (before after : List (Option State)) (work also : List ℕ) (state left : State)
    (edges : List Edge) (links : Links)
    → AreLinksOf (headers_of classes) links
    → reached_in before at ≡ Some state
    → IsLeftIn classes flat at state left
    → AreTargets flat table
    → AreSharedIn classes flat at left (targets_in table at) edges
    → AreFollowed classes flat before after work also edges
    → IsFalse (has also at)
    → AllLeadAt (scope_of classes links flat) (reached_in after) at
lead_here classes flat table at before after work also state left edges links are found is_left is_table effect followed none = record {
  each = λ number point one other behind row is_point is_found is_other is_row is_behind.
      let s = scope_of classes links flat in
      let same_state : one ≡ state = same_Some one state (sym is_found ∙ followed.raised.same at none ∙ found) in
      let other_left = subst (λ (x : State). IsLeft s at point x other) same_state is_other in
      let same_left : other ≡ left = left_is_one s at point state other left other_left (is_left links point are is_point) in
      let row_left = subst (λ (x : State). slice_get (open_edges s at point x) number ≡ Some row) same_left is_row in
      let behind_left = subst (λ (x : State). IsStateBehind s point at x row behind) same_left is_behind in
      let targets = targets_in table at in
      let like = like_shared s point at left targets (is_table.each at point is_point) number row row_left in
      let edge = edge_of_row s point at left (open_by s at point left (Some targets)) edges (effect links point are is_point) like.stands.number like.other
      like.stands.is in
      let same_behind : edge.0.state ≡ behind =
      behind_is_one s at point left like.other edge.0.state behind edge.2.behind (like.behind behind behind_left) in
      let lead = followed.lead like.stands.number edge.0 edge.1 in
      subst (LeadsIn (reached_in after) row.to) same_behind
      (subst (λ (to : ℕ). LeadsIn (reached_in after) to edge.0.state) (edge.2.same_to ∙ like.same_to) lead);
}

-- the edges of another point
lead_elsewhere :
    (s : PlanScope) (at one : ℕ) (before after : List (Option State)) (work also : List ℕ)
    → IsRaisedTo before after work also
    → (at ≡ one → ⊥)
    → ((place : ℕ) → IsFalse (has (at ∷ work) place) → AllLeadAt s (reached_in before) place)
    → IsFalse (has also one)
    → AllLeadAt s (reached_in after) one
lead_elsewhere s at one before after work also raised differ lead none = record {
  each = λ number point state left behind row is_point is_found is_left is_row is_behind.
      let out = has_behind at work one differ ∙ not_listed (has work one) (has also one) (raised.listed one) none in
      leads_more (reached_in before) (reached_in after) row.to behind raised.more
      ((lead one out).each number point state left behind row is_point (sym (raised.same one none) ∙ is_found) is_left is_row is_behind);
}

pub visited :
    (classes : Classes) (flat : FlatCode) (table : List (List ℕ)) (at : ℕ) (before after : List (Option State)) (work also : List ℕ) (state left : State)
    (edges : List Edge)
    → AreTargets flat table
    → AreReaching classes flat before (at ∷ work)
    → reached_in before at ≡ Some state
    → IsLeftIn classes flat at state left
    → AreSharedIn classes flat at left (targets_in table at) edges
    → AreFollowed classes flat before after work also edges
    → AreReaching classes flat after also
visited classes flat table at before after work also state left edges is_table reaching found is_left effect followed = λ links are.
    let s = scope_of classes links flat in
    let old = reaching links are in
    record {
      len = followed.raised.len ∙ old.len;
      under = followed.under links are;
      lead = λ one none. elim (same_or_not at one) [
        | inl same ↦ subst (AllLeadAt s (reached_in after)) same
            (lead_here classes flat table at before after work also state left edges links are found is_left is_table effect followed
            (subst (λ (n : ℕ). IsFalse (has also n)) (sym same) none))
        | inr differ ↦ lead_elsewhere s at one before after work also followed.raised differ old.lead none
      ];
    }

-- a point that is not reached has nothing to follow
pub visited_none :
    (classes : Classes) (flat : FlatCode) (at : ℕ) (states : List (Option State)) (work : List ℕ)
    → AreReaching classes flat states (at ∷ work)
    → ((links : Links) → AreLinksOf (headers_of classes) links → reached_in states at ≡ None)
    → AreReaching classes flat states work
visited_none classes flat at states work reaching none = λ links are.
    let s = scope_of classes links flat in
    let old = reaching links are in
    record {
      len = old.len;
      under = old.under;
      lead = λ one out. elim (same_or_not at one) [
        | inl same ↦ subst (AllLeadAt s (reached_in states)) same
            (record {
              each = λ number point state left behind row is_point is_found is_left is_row is_behind.
                  absurd (none-some state (sym (none links are) ∙ is_found));
            })
        | inr differ ↦ old.lead one (has_behind at work one differ ∙ out)
      ];
    }

-- ---- another work list that has the same points and more

pub reaching_more :
    (classes : Classes) (flat : FlatCode) (states : List (Option State)) (work also : List ℕ)
    → AreReaching classes flat states work
    → ((at : ℕ) → IsTrue (has work at) → IsTrue (has also at))
    → AreReaching classes flat states also
reaching_more classes flat states work also reaching listed = λ links are.
    let old = reaching links are in
    record { len = old.len; under = old.under; lead = λ at none. old.lead at (not_listed (has work at) (has also at) (listed at) none) }
