-- The states of all points, when each head has its state: a point inside a block has the state of the one edge that leads to it.
use Rattle.std.proofs.Common.{◌≡◌, ℕ, ◌<◌, ◌+◌, zero, suc, Bool, true, false, cond, List, [], ◌∷◌, ◌++◌, length, slice_get, slice_set, take, Option, Some, None, IsTrue, IsFalse, refl, sym, ap, subst, ◌∙◌, inl, inr, arith}
use Rattle.std.specs.Option.{option_flatten}
use Rattle.std.proofs.lemmas.Bool.{both_ways, cases_Bool}
use Rattle.std.proofs.lemmas.List.{length-set}
use Rattle.std.proofs.lemmas.Option.{none-some, same_Some}
use Rattle.class_tree.specs.Headers.{Classes, headers_of}
use Rattle.flow_code.specs.FlatCode.{FlatCode, point_at}
use Rattle.flow_code.specs.declared.handlers.FlatHandler.{FlatHandler}
use Rattle.flow_code.specs.declared.point.Point.{Point}
use Rattle.member_link.specs.Machine.Links.{AreLinksOf}
use Rattle.member_link.specs.Machine.Programs.{Links}
use Rattle.plan_flow.specs.Effect.{AreEdges}
use Rattle.plan_flow.specs.Inner.Blocks.{AreEdgesAt, AreHeads, AreReachingBy, HeadTable, HoldHeads, IsKnownTo, IsStateInside, marked, next_edge, put_state}
use Rattle.plan_flow.specs.Inner.Iteration.{IsCleaned}
use Rattle.plan_flow.specs.Inner.Reaching.{Reached, reached_in}
use Rattle.plan_flow.specs.Inner.Gaining.{is_normal}
use Rattle.plan_flow.specs.Inner.Planning.{made_edges, made_on}
use Rattle.plan_flow.specs.Inner.Sharing.{AreTargets, caught_made, caught_part, caught_plans, last_set, open_by, or_no_site, own_part, plans_of, put_set, targets_in}
use Rattle.plan_flow.specs.Must.{open_edges, row_of_point}
use Rattle.plan_flow.specs.PlanRows.{RowEdge}
use Rattle.plan_flow.specs.PlanScope.{scope_of}
use Rattle.plan_flow.specs.PlanTable.{falls_on, next_edges}
use Rattle.plan_flow.specs.declared.edge.Edge.{Edge}
use Rattle.virtual_state.specs.States.{State}
use Rattle.virtual_state.specs.Laws.Objects.{same_or_not, some_or_none}
use Rattle.virtual_state.specs.Laws.Orders.{below_both_ways}
use Rattle.plan_flow.proofs.EffectGrows.{row_of_edge}
use Rattle.plan_flow.proofs.LeastPlans.{point_there}
use Rattle.plan_flow.proofs.PointLists.{set_here, set_other}
use Rattle.plan_flow.proofs.Straight.{edge_inside, inside_makes_none, inside_straight, no_edge, only_edge, straight_open, straight_shared}
use Rattle.plan_flow.proofs.Walking.{inner_below, next_inside}
use mathlib.Core.Path.{fun_ext}

-- ---- one point

-- the point behind one that is not reached is not reached, if it is no head
pub none_inside :
    (classes : Classes) (flat : FlatCode) (table : HeadTable) (at : ℕ) (links : Links)
    → AreLinksOf (headers_of classes) links
    → IsFalse (marked table.heads (at + 1))
    → (all : AreReachingBy classes flat table [])
    → reached_in all.states at ≡ None
    → None ≡ reached_in all.states (at + 1)
none_inside classes flat table at links are none all gone = elim (some_or_none (reached_in all.states (at + 1))) [
  | inr also ↦ sym also
  | inl found ↦
      let inner = (all.spread.each links are).inner at found.0 none found.1 in
      absurd (none-some inner.before (sym gone ∙ inner.is_found))
]

record Inside (classes : Classes) (flat : FlatCode) (targets : List (List ℕ)) (table : HeadTable) (at : ℕ) (state : State) (edges : List Edge) : Type 0 where
  links : Links
  are : AreLinksOf (headers_of classes) links
  is_targets : AreTargets flat targets
  none : IsFalse (marked table.heads (at + 1))
  all : AreReachingBy classes flat table []
  found : reached_in all.states at ≡ Some state
  edges_at : AreEdgesAt classes flat targets at state edges

module _ (classes : Classes) (flat : FlatCode) (targets : List (List ℕ)) (table : HeadTable) (at : ℕ) (state : State) (edges : List Edge)
    (w : Inside classes flat targets table at state edges) where
  here : (point : Point) × (point_at flat at ≡ Some point)
  here = point_there flat.points at ((w.all.reaching w.links w.are).under.inside at state w.found)

  next_are : (point : Point) → point_at flat at ≡ Some point → AreEdges (scope_of classes w.links flat) point at w.edges_at.left (next_edges at (row_of_point (scope_of classes w.links flat) at point) (falls_on point.instr)) edges
  next_are point is_point =
      let s = scope_of classes w.links flat in
      let left = w.edges_at.left in
      let inside = (w.all.reaching w.links w.are).under.inside at state w.found in
      let straight = inside_straight flat table.heads at point w.all.spread.heads inside is_point w.none in
      let same = straight_shared s at point (targets_in targets at) (w.is_targets.each at point is_point) left straight in
      subst (λ (rows : List RowEdge). AreEdges s point at left rows edges) same (w.edges_at.effect w.links point w.are is_point)

  no_state : slice_get edges 0 ≡ None → None ≡ reached_in w.all.states (at + 1)
  no_state empty =
      let s = scope_of classes w.links flat in
      let point = point_there flat.points at ((w.all.reaching w.links w.are).under.inside at state w.found) in
      let stays = no_edge s at point.0 w.edges_at.left edges (next_are point.0 point.1) empty in
      elim (some_or_none (reached_in w.all.states (at + 1))) [
        | inr also ↦ sym also
        | inl found ↦
            let inner = (w.all.spread.each w.links w.are).inner at found.0 w.none found.1 in
            let same_point : inner.point ≡ point.0 = same_Some inner.point point.0 (sym inner.is_point ∙ point.1) in
            absurd (both_ways (falls_on point.0.instr) stays (subst (λ (p : Point). IsTrue (falls_on p.instr)) same_point inner.falls))
      ]

  is_state : (clean : State) (edge : Edge) → slice_get edges 0 ≡ Some edge → IsCleaned flat (at + 1) edge.state clean → Some clean ≡ reached_in w.all.states (at + 1)
  is_state clean edge is cleaned =
      let s = scope_of classes w.links flat in
      let reaching = w.all.reaching w.links w.are in
      let inside = reaching.under.inside at state w.found in
      let point = point_there flat.points at inside in
      let left = w.edges_at.left in
      let only = only_edge s at point.0 left edges edge (next_are point.0 point.1) is in
      let is_left = w.edges_at.is_left w.links point.0 w.are point.1 in
      let straight = inside_straight flat table.heads at point.0 w.all.spread.heads inside point.1 w.none in
      let rows : open_edges s at point.0 left ≡ next_edge s at point.0 ∷ [] =
      straight_open s at point.0 (targets_in targets at) (w.is_targets.each at point.0 point.1) left straight
      ∙ ap (λ (falls : Bool). next_edges at (row_of_point s at point.0) falls) only.falls in
      let lead = (reaching.lead at refl).each 0 point.0 state left edge.state (next_edge s at point.0) point.1 w.found is_left
      (ap (λ (list : List RowEdge). slice_get list 0) rows) only.behind in
      let inner = (w.all.spread.each w.links w.are).inner at lead.target w.none lead.reached in
      let under = inner_below s (reached_in w.all.states) at point.0 state left edge.state lead.target clean inner point.1 w.found is_left only.behind
      (record { below = cleaned.below; beneath = record { each = cleaned.beneath } }) in
      let over = cleaned.least lead.target lead.below (reaching.under.beneath (at + 1) lead.target lead.reached).each in
      ap Some (below_both_ways clean lead.target over under) ∙ sym lead.reached

-- a point inside a block has the state of its only edge
pub state_inside :
    (classes : Classes) (flat : FlatCode) (targets : List (List ℕ)) (table : HeadTable) (at : ℕ) (state : State) (edges : List Edge) (result : Option State) (links : Links)
    → AreLinksOf (headers_of classes) links
    → AreTargets flat targets
    → IsFalse (marked table.heads (at + 1))
    → AreEdgesAt classes flat targets at state edges
    → IsStateInside flat table.heads (at + 1) edges result
    → (all : AreReachingBy classes flat table [])
    → reached_in all.states at ≡ Some state
    → result ≡ reached_in all.states (at + 1)
state_inside classes flat targets table at state edges result links are is_targets none edges_at inside all found =
    let w : Inside classes flat targets table at state edges = record {
      links = links;
      are = are;
      is_targets = is_targets;
      none = none;
      all = all;
      found = found;
      edges_at = edges_at;
    } in
    elim (some_or_none result) [
      | inr gone ↦ gone ∙ elim (inside.none gone) [
        | inl head ↦ absurd (both_ways (marked table.heads (at + 1)) none head)
        | inr empty ↦ no_state classes flat targets table at state edges w empty
      ]
      | inl clean ↦
          let some = inside.some clean.0 clean.1 in
          clean.1 ∙ is_state classes flat targets table at state edges w clean.0 some.1.0 some.1.1 some.1.2
    ]

-- ---- items of a list

pub took_one : {A : Type 0} (list : List A) (number : ℕ) (item : A) → slice_get list number ≡ Some item → take number list ++ item ∷ [] ≡ take (suc number) list
took_one [] number item is = absurd (none-some item is)
took_one (first ∷ list) zero item is = ap (λ one. one ∷ []) (sym (same_Some first item is))
took_one (first ∷ list) (suc number) item is = ap (λ rest. first ∷ rest) (took_one list number item is)

-- ---- the states that are known

pub known_start :
    (classes : Classes) (flat : FlatCode) (table : HeadTable) (known : List (Option State)) (links : Links)
    → AreLinksOf (headers_of classes) links
    → AreHeads flat table.heads
    → HoldHeads table.heads table.states
    → known ≡ table.states
    → IsKnownTo classes flat table 0 known
known_start classes flat table known links are heads hold is = record {
  len = ap (λ (list : List (Option State)). length list) is;
  hold = hold.len;
  ahead = λ place past none. elim (some_or_none (reached_in known place)) [
    | inr gone ↦ gone
    | inl found ↦
        absurd (both_ways (marked table.heads place) none (hold.each place found.0 (sym (ap (λ (list : List (Option State)). reached_in list place) is) ∙ found.1)))
  ];
  each = λ all place where_.
      let head : IsTrue (marked table.heads place) = elim where_ [
        | inl low ↦
            let first : 0 ≡ place = omega (arith, low) in
            subst (λ (n : ℕ). IsTrue (marked table.heads n)) first heads.start
        | inr mark ↦ mark
      ] in
      ap (λ (list : List (Option State)). reached_in list place) is ∙ (all.spread.each links are).same place head;
}

-- the point is not reached
pub known_none :
    (classes : Classes) (flat : FlatCode) (table : HeadTable) (at : ℕ) (known : List (Option State)) (links : Links)
    → AreLinksOf (headers_of classes) links
    → IsKnownTo classes flat table at known
    → reached_in known at ≡ None
    → IsKnownTo classes flat table (at + 1) known
known_none classes flat table at known links are old gone = record {
  len = old.len;
  hold = old.hold;
  ahead = λ place past none. old.ahead place (omega (arith, past)) none;
  each = λ all place where_. elim (cases_Bool (marked table.heads place)) [
    | inl mark ↦ old.each all place (inr mark)
    | inr none ↦ elim where_ [
      | inr mark ↦ old.each all place (inr mark)
      | inl low ↦ elim (same_or_not (at + 1) place) [
        | inr differ ↦ old.each all place (inl (omega (arith, low, differ)))
        | inl same ↦
            let there = sym (old.each all at (inl (omega arith))) ∙ gone in
            let none_next = subst (λ (n : ℕ). IsFalse (marked table.heads n)) (sym same) none in
            old.ahead place (omega (arith, same)) none
            ∙ none_inside classes flat table at links are none_next all there
            ∙ ap (λ (n : ℕ). reached_in all.states n) same
      ]
    ]
  ];
}

-- the point is reached, and the state of the next one is put in
pub known_next :
    (classes : Classes) (flat : FlatCode) (table : HeadTable) (at : ℕ) (known : List (Option State)) (edges : List Edge) (state : Option State)
    → AreHeads flat table.heads
    → IsKnownTo classes flat table at known
    → IsStateInside flat table.heads (at + 1) edges state
    → ((all : AreReachingBy classes flat table []) → IsFalse (marked table.heads (at + 1)) → state ≡ reached_in all.states (at + 1))
    → IsKnownTo classes flat table (at + 1) (put_state known (at + 1) state)
known_next classes flat table at known edges None heads old inside is = record {
  len = old.len;
  hold = old.hold;
  ahead = λ place past none. old.ahead place (omega (arith, past)) none;
  each = λ all place where_. elim (cases_Bool (marked table.heads place)) [
    | inl mark ↦ old.each all place (inr mark)
    | inr none ↦ elim where_ [
      | inr mark ↦ old.each all place (inr mark)
      | inl low ↦ elim (same_or_not (at + 1) place) [
        | inr differ ↦ old.each all place (inl (omega (arith, low, differ)))
        | inl same ↦
            old.ahead place (omega (arith, same)) none
            ∙ is all (subst (λ (n : ℕ). IsFalse (marked table.heads n)) (sym same) none)
            ∙ ap (λ (n : ℕ). reached_in all.states n) same
      ]
    ]
  ];
}
known_next classes flat table at known edges (Some clean) heads old inside is =
    let none = (inside.some clean refl).0 in
    let low = next_inside flat table.heads (at + 1) edges clean heads inside in
    let len = old.len in
    let hold = old.hold in
    let points = heads.len in
    record {
      len = length-set known (at + 1) (Some clean) ∙ old.len;
      hold = old.hold;
      ahead = λ place past gone.
          ap option_flatten (set_other known (at + 1) place (Some clean) (λ same. omega (arith, same, past))) ∙ old.ahead place (omega (arith, past)) gone;
      each = λ all place where_. elim (same_or_not (at + 1) place) [
        | inl same ↦
            subst (λ (n : ℕ). reached_in (slice_set known (at + 1) (Some clean)) n ≡ reached_in all.states n) same
            (ap option_flatten (set_here known (at + 1) (Some clean) (omega (arith, low, len, hold, points))) ∙ is all none)
        | inr differ ↦
            ap option_flatten (set_other known (at + 1) place (Some clean) differ)
            ∙ old.each all place (elim where_ [
              | inl few ↦ inl (omega (arith, few, differ))
              | inr mark ↦ inr mark
            ])
      ];
    }

pub next_fits :
    (classes : Classes) (flat : FlatCode) (table : HeadTable) (at : ℕ) (known : List (Option State)) (edges : List Edge) (state : Option State) (one : State)
    → AreHeads flat table.heads
    → IsKnownTo classes flat table at known
    → IsStateInside flat table.heads (at + 1) edges state
    → state ≡ Some one
    → at + 1 < length known
next_fits classes flat table at known edges state one heads old inside is =
    let low = next_inside flat table.heads (at + 1) edges one heads (subst (IsStateInside flat table.heads (at + 1) edges) is inside) in
    let len = old.len in
    let hold = old.hold in
    let points = heads.len in
    omega (arith, low, len, hold, points)

-- the point and the next one, where the point is reached
pub known_after :
    (classes : Classes) (flat : FlatCode) (targets : List (List ℕ)) (table : HeadTable) (at : ℕ) (known : List (Option State)) (state : State) (edges : List Edge)
    (next : Option State) (links : Links)
    → AreLinksOf (headers_of classes) links
    → AreTargets flat targets
    → AreHeads flat table.heads
    → IsKnownTo classes flat table at known
    → reached_in known at ≡ Some state
    → AreEdgesAt classes flat targets at state edges
    → IsStateInside flat table.heads (at + 1) edges next
    → IsKnownTo classes flat table (at + 1) (put_state known (at + 1) next)
known_after classes flat targets table at known state edges next links are is_targets heads old found edges_at inside =
    known_next classes flat table at known edges next heads old inside (λ all none.
    state_inside classes flat targets table at state edges next links are is_targets none edges_at inside all
    (sym (old.each all at (inl (omega arith))) ∙ found))

-- ---- plans of edges whose targets are known

-- two tables have the same states of the targets of edges
abbrev Alike : Reached → Reached → List Edge → Type 0
Alike one other edges = (number : ℕ) (edge : Edge) → slice_get edges number ≡ Some edge → one edge.to ≡ other edge.to

made_alike : (one other : Reached) (edges : List Edge) → Alike one other edges → made_edges one (own_part edges) ≡ made_edges other (own_part edges)
made_alike one other [] alike = refl
made_alike one other (edge ∷ edges) alike = go (is_normal edge.by) (made_alike one other edges (λ number. alike (suc number))) where
  go : (b : Bool) → made_edges one (own_part edges) ≡ made_edges other (own_part edges) → made_edges one (cond b (edge ∷ own_part edges) []) ≡ made_edges other (cond b (edge ∷ own_part edges) [])
  go false rest = refl
  go true rest = λ i. record { by = edge.by; to = edge.to; made = made_on edge.state (alike 0 edge refl i) } ∷ rest i

last_alike : (one other : Reached) (edges : List Edge) (at : ℕ) (set : Option (List ℕ)) → Alike one other edges → last_set one edges at set ≡ last_set other edges at set
last_alike one other [] at set alike = refl
last_alike one other (edge ∷ edges) at set alike =
    ap (λ (o : Option State). last_set one edges at (put_set edge.to (made_on edge.state o) at set)) (alike 0 edge refl)
    ∙ last_alike one other edges at (put_set edge.to (made_on edge.state (other edge.to)) at set) (λ number. alike (suc number))

caught_all : (one other : Reached) (handlers : List FlatHandler) (edges : List Edge) → Alike one other edges → caught_plans one handlers edges ≡ caught_plans other handlers edges
caught_all one other handlers [] alike = refl
caught_all one other handlers (edge ∷ edges) alike =
    ap (λ (made : ℕ → List ℕ). caught_made made 0 handlers)
    (fun_ext (λ to. ap (λ (set : Option (List ℕ)). or_no_site set) (last_alike one other (edge ∷ edges) to None alike)))

caught_alike : (one other : Reached) (handlers : List FlatHandler) (edges : List Edge) → Alike one other edges → caught_plans one handlers (caught_part edges) ≡ caught_plans other handlers (caught_part edges)
caught_alike one other handlers [] alike = refl
caught_alike one other handlers (edge ∷ edges) alike = go (is_normal edge.by) (caught_alike one other handlers edges (λ number. alike (suc number))) where
  go :
      (b : Bool)
      → caught_plans one handlers (caught_part edges) ≡ caught_plans other handlers (caught_part edges)
      → caught_plans one handlers (cond b (caught_part edges) (edge ∷ edges)) ≡ caught_plans other handlers (cond b (caught_part edges) (edge ∷ edges))
  go true rest = rest
  go false rest = caught_all one other handlers (edge ∷ edges) alike

pub plans_alike : (one other : Reached) (handlers : List FlatHandler) (edges : List Edge) → Alike one other edges → plans_of one handlers edges ≡ plans_of other handlers edges
plans_alike one other handlers edges alike = λ i. made_alike one other edges alike i ++ caught_alike one other handlers edges alike i

-- the targets of a point's edges are known with the next point
pub targets_known :
    (classes : Classes) (flat : FlatCode) (targets : List (List ℕ)) (table : HeadTable) (at : ℕ) (known : List (Option State)) (state : State) (edges : List Edge) (links : Links)
    → AreLinksOf (headers_of classes) links
    → AreTargets flat targets
    → AreHeads flat table.heads
    → at < length flat.points
    → IsKnownTo classes flat table (at + 1) known
    → AreEdgesAt classes flat targets at state edges
    → (all : AreReachingBy classes flat table [])
    → (number : ℕ) (edge : Edge)
    → slice_get edges number ≡ Some edge
    → reached_in known edge.to ≡ reached_in all.states edge.to
targets_known classes flat targets table at known state edges links are is_targets heads inside known_to edges_at all number edge is =
    elim (cases_Bool (marked table.heads edge.to)) [
      | inl mark ↦ known_to.each all edge.to (inr mark)
      | inr none ↦
          let s = scope_of classes links flat in
          let point = point_there flat.points at inside in
          let left = edges_at.left in
          let list = targets_in targets at in
          let row = row_of_edge s point.0 at left (open_by s at point.0 left (Some list)) edges (edges_at.effect links point.0 are point.1) number edge is in
          let row_none = subst (λ (to : ℕ). IsFalse (marked table.heads to)) row.2.same_to none in
          let makes = inside_makes_none flat table.heads at row.0.to point.0 heads inside point.1 row_none in
          let leads = row.2.same_to ∙ edge_inside s at point.0 list (is_targets.each at point.0 point.1) left number row.0 row.1 makes in
          known_to.each all edge.to (inl (omega (arith, leads)))
    ]
