-- The edges behind a block are followed: heads are reached or raised.
use Rattle.std.proofs.Common.{◌≡◌, ℕ, ◌<◌, ◌≤◌, ◌+◌, ◌==◌, ◌||◌, ◌*◌, zero, suc, Bool, false, cond, List, [], ◌∷◌, take, length, slice_get, slice_set, not, is_some, Option, Some, None, IsTrue, IsFalse, refl, sym, ap, subst, ◌∙◌, inl, inr, arith}
use Rattle.std.specs.Option.{option_flatten}
use Rattle.std.proofs.lemmas.Bool.{both_ways, or_left, or_right, eq-eqb}
use Rattle.std.proofs.lemmas.List.{length-set}
use Rattle.std.proofs.lemmas.Option.{none-some, same_Some}
use Rattle.class_tree.specs.Headers.{Classes, headers_of}
use Rattle.flow_code.specs.FlatCode.{FlatCode, IsFlat}
use Rattle.member_link.specs.Machine.Links.{AreLinksOf}
use Rattle.member_link.specs.Machine.Programs.{Links}
use Rattle.plan_flow.specs.Inner.Blocks.{AreFollowedBy, AreReachingBy, AreStartedBy, HeadTable, IsBlockWalked, IsSpread, IsVisited, marked}
use Rattle.plan_flow.specs.Inner.Iteration.{IsRaised}
use Rattle.plan_flow.specs.Inner.Reaching.{reached_in, HasListed, IsLess, IsMore, LeadsIn, unreached_in}
use Rattle.plan_flow.specs.Inner.Sharing.{AreTargets}
use Rattle.plan_flow.specs.PlanScope.{PlanScope, scope_of}
use Rattle.plan_flow.specs.Plans.{FlowsInside, IsStateAt}
use Rattle.plan_flow.specs.declared.edge.Edge.{Edge}
use Rattle.virtual_state.specs.Orders.{HaveSamePlaces}
use Rattle.virtual_state.specs.Sites.{has}
use Rattle.virtual_state.specs.States.{State}
use Rattle.virtual_state.specs.Laws.Objects.{same_or_not}
use Rattle.plan_flow.proofs.Following.{Following, followed_more, followed_none, followed_one, less_and_less, less_itself, new_is, only_leads, raised_less, same_places, started_inside, started_next}
use Rattle.plan_flow.proofs.PointLists.{set_here, set_other}
use Rattle.plan_flow.proofs.Visiting.{visit_starts, visited, visited_none}
use Rattle.plan_flow.proofs.Walking.{inner_more}

-- ---- a head is raised in its table and among the states of all points

put_spread :
    (s : PlanScope) (table : HeadTable) (states : List (Option State)) (to : ℕ) (above : State)
    → IsSpread s table states
    → IsMore (reached_in states) (reached_in (slice_set states to (Some above)))
    → IsTrue (marked table.heads to)
    → to < length states
    → length states ≡ length table.states
    → IsSpread s (record table { states = slice_set table.states to (Some above) }) (slice_set states to (Some above))
put_spread s table states to above spread grows head inside len = record {
  same = λ at mark. elim (same_or_not to at) [
    | inl same ↦
        subst (λ (n : ℕ). reached_in (slice_set table.states to (Some above)) n ≡ reached_in (slice_set states to (Some above)) n) same
        (ap option_flatten (set_here table.states to (Some above) (omega (arith, inside, len)))
        ∙ sym (ap option_flatten (set_here states to (Some above) inside)))
    | inr differ ↦
        ap option_flatten (set_other table.states to at (Some above) differ) ∙ spread.same at mark
        ∙ sym (ap option_flatten (set_other states to at (Some above) differ))
  ];
  inner = λ at state none is. elim (same_or_not to (at + 1)) [
    | inl same ↦ absurd (both_ways (marked table.heads (at + 1)) none (subst (λ (n : ℕ). IsTrue (marked table.heads n)) same head))
    | inr differ ↦
        inner_more s (reached_in states) (reached_in (slice_set states to (Some above))) at state grows
        (spread.inner at state none (sym (ap option_flatten (set_other states to (at + 1) (Some above) differ)) ∙ is))
  ];
}

-- ---- one edge

module _ (classes : Classes) (flat : FlatCode) (table : HeadTable) (states : List (Option State)) (edge : Edge)
    (started : AreStartedBy classes flat table states (edge ∷ [])) where
  -- the state that the target has in the table
  target_same : (links : Links) → AreLinksOf (headers_of classes) links → reached_in table.states edge.to ≡ reached_in states edge.to
  target_same links are = (started.spread.each links are).same edge.to (started.ends 0 edge refl)

  pub head_places :
      (links : Links) (state : State)
      → AreLinksOf (headers_of classes) links
      → reached_in table.states edge.to ≡ Some state
      → HaveSamePlaces edge.state state
  head_places links state are is = same_places classes flat states edge links state are started.start (sym (target_same links are) ∙ is)

  pub head_inside : (links : Links) → AreLinksOf (headers_of classes) links → edge.to < length table.states
  head_inside links are =
      let inside = started_inside classes flat states edge links are started.start in
      let len = started.spread.len in
      omega (arith, inside, len)

  -- the edge leads to its target already
  pub head_leads :
      (work : List ℕ) (links : Links)
      → AreLinksOf (headers_of classes) links
      → LeadsIn (reached_in table.states) edge.to edge.state
      → AreFollowedBy classes flat table table states work work (edge ∷ []) false
  head_leads work links are lead = record {
    more = states;
    followed =
        followed_none classes flat states work (edge ∷ []) (edge ∷ []) started.start
        (only_leads states edge (record { target = lead.target; reached = sym (target_same links are) ∙ lead.reached; below = lead.below }));
    spread = started.spread;
    same_heads = refl;
    listed = λ at there. inl there;
    less = less_itself table.states work;
  }

  -- the target is reached, or its state is raised
  pub head_raised :
      (after : HeadTable) (work also : List ℕ) (above : State) (new : Bool) (links : Links)
      → AreLinksOf (headers_of classes) links
      → (LeadsIn (reached_in table.states) edge.to edge.state → ⊥)
      → ((s : PlanScope) → s.flat ≡ flat → IsStateAt s edge.to edge.state → IsRaised s edge.to edge.state (reached_in table.states edge.to) above)
      → HasListed work also edge.to
      → after ≡ record table { states = slice_set table.states edge.to (Some above) }
      → is_some (reached_in table.states edge.to) ≡ not new
      → AreFollowedBy classes flat table after states work also (edge ∷ []) new
  head_raised after work also above new links are apart is listed is_after is_new =
      let raised : (link : Links) → AreLinksOf (headers_of classes) link → IsRaised (scope_of classes link flat) edge.to edge.state (reached_in states edge.to) above =
      λ link are_link.
      subst (λ (o : Option State). IsRaised (scope_of classes link flat) edge.to edge.state o above) (target_same link are_link)
      (is (scope_of classes link flat) refl (started.start.edge link 0 edge are_link refl).is_at) in
      let f : Following classes flat states work also edge above = record {
        links = links;
        are = are;
        started = started.start;
        raised = raised;
        here = listed.here;
        others = listed.others;
      } in
      let followed = followed_one classes flat states work also edge above f in
      let high = is (scope_of classes links flat) refl (started.start.edge links 0 edge are refl).is_at in
      let inside = started_inside classes flat states edge links are started.start in
      subst (λ (t : HeadTable). AreFollowedBy classes flat table t states work also (edge ∷ []) new) (sym is_after) (record {
        more = slice_set states edge.to (Some above);
        followed = followed;
        spread = record {
          heads = started.spread.heads;
          len = length-set states edge.to (Some above) ∙ started.spread.len ∙ sym (length-set table.states edge.to (Some above));
          each = λ link are_link.
              put_spread (scope_of classes link flat) table states edge.to above (started.spread.each link are_link) followed.raised.more
              (started.ends 0 edge refl) inside started.spread.len;
        };
        same_heads = refl;
        listed = λ at there. elim (listed.only at there) [
          | inl same ↦ inr (subst (λ (n : ℕ). IsTrue (marked table.heads n)) same (started.ends 0 edge refl))
          | inr old ↦ inl old
        ];
        less =
            subst (IsLess table.states (slice_set table.states edge.to (Some above)) work also) (sym (new_is (reached_in table.states edge.to) new is_new))
            (raised_less (scope_of classes links flat) table.states work also edge.to edge.state above (head_inside links are) apart high listed.more);
      })

-- ---- one edge after another

pub start_followed :
    (classes : Classes) (flat : FlatCode) (table : HeadTable) (states : List (Option State)) (work : List ℕ) (edges : List Edge)
    → AreStartedBy classes flat table states edges
    → AreFollowedBy classes flat table table states work work [] false
start_followed classes flat table states work edges started = record {
  more = states;
  followed = followed_none classes flat states work edges [] started.start (λ number one is. absurd (none-some one is));
  spread = started.spread;
  same_heads = refl;
  listed = λ at there. inl there;
  less = less_itself table.states work;
}

one_ends : (heads : List Bool) (edge : Edge) → IsTrue (marked heads edge.to) → (number : ℕ) (one : Edge) → slice_get (edge ∷ []) number ≡ Some one → IsTrue (marked heads one.to)
one_ends heads edge head number one is = go number is where
  go : (number : ℕ) → slice_get (edge ∷ []) number ≡ Some one → IsTrue (marked heads one.to)
  go zero found = subst (λ (e : Edge). IsTrue (marked heads e.to)) (same_Some edge one found) head
  go (suc number) found = absurd (none-some one found)

pub next_started :
    (classes : Classes) (flat : FlatCode) (before after : HeadTable) (states : List (Option State)) (work also : List ℕ) (edges some : List Edge) (new : Bool)
    (number : ℕ) (edge : Edge)
    → AreStartedBy classes flat before states edges
    → (followed : AreFollowedBy classes flat before after states work also some new)
    → slice_get edges number ≡ Some edge
    → AreStartedBy classes flat after followed.more (edge ∷ [])
next_started classes flat before after states work also edges some new number edge started followed is = record {
  spread = followed.spread;
  start = started_next classes flat states followed.more work also edges some number edge started.start followed.followed is;
  ends = one_ends after.heads edge (subst (λ (heads : List Bool). IsTrue (marked heads edge.to)) (sym followed.same_heads) (started.ends number edge is));
}

pub more_followed :
    (classes : Classes) (flat : FlatCode) (one two three : HeadTable) (states : List (Option State)) (first second third : List ℕ) (edges : List Edge)
    (new also : Bool) (number : ℕ) (edge : Edge)
    → (low : AreFollowedBy classes flat one two states first second (take number edges) new)
    → AreFollowedBy classes flat two three low.more second third (edge ∷ []) also
    → slice_get edges number ≡ Some edge
    → AreFollowedBy classes flat one three states first third (take (suc number) edges) (new || also)
more_followed classes flat one two three states first second third edges new also number edge low high is = record {
  more = high.more;
  followed = followed_more classes flat states low.more high.more first second third edges number edge low.followed high.followed is;
  spread = high.spread;
  same_heads = high.same_heads ∙ low.same_heads;
  listed = λ at there. elim (high.listed at there) [
    | inr head ↦ inr (subst (λ (heads : List Bool). IsTrue (marked heads at)) low.same_heads head)
    | inl old ↦ low.listed at old
  ];
  less = less_and_less one.states two.states three.states first second third new also low.less high.less;
}

-- ---- a visit

pub walked_starts :
    (classes : Classes) (flat : FlatCode) (targets : List (List ℕ)) (table : HeadTable) (work : List ℕ) (edges : List Edge) (links : Links)
    → AreLinksOf (headers_of classes) links
    → IsFlat flat
    → FlowsInside flat
    → AreTargets flat targets
    → (block : IsBlockWalked classes flat targets table work edges)
    → AreStartedBy classes flat table block.walked.states edges
walked_starts classes flat targets table work edges links are flat_code flows is_targets block =
    let w = block.walked in
    record {
      spread = w.spread;
      start = visit_starts classes flat targets block.last w.states work w.state w.leaves.left edges links are flat_code flows is_targets w.reaching w.found w.leaves.left_state w.leaves.is_left w.leaves.effect;
      ends = block.ends;
    }

pub block_visited :
    (classes : Classes) (flat : FlatCode) (targets : List (List ℕ)) (before after : HeadTable) (work also : List ℕ) (edges : List Edge) (new : Bool)
    → AreTargets flat targets
    → ((at : ℕ) → IsTrue (has work at) → IsTrue (marked before.heads at))
    → (block : IsBlockWalked classes flat targets before work edges)
    → AreFollowedBy classes flat before after block.walked.states work also edges new
    → IsVisited classes flat before after work also new
block_visited classes flat targets before after work also edges new is_targets listed block followed =
    let w = block.walked in
    record {
      less = followed.less;
      reaching = record {
        states = followed.more;
        reaching = visited classes flat targets block.last w.states followed.more work also w.state w.leaves.left edges is_targets w.reaching w.found w.leaves.is_left w.leaves.effect followed.followed;
        spread = followed.spread;
        listed = λ at there. subst (λ (heads : List Bool). IsTrue (marked heads at)) (sym followed.same_heads) (elim (followed.listed at there) [
          | inl old ↦ listed at old
          | inr head ↦ head
        ]);
      };
    }

-- a head that is listed has its state among those of all points
pub head_found :
    (classes : Classes) (flat : FlatCode) (table : HeadTable) (at : ℕ) (work : List ℕ) (state : State) (links : Links)
    → AreLinksOf (headers_of classes) links
    → (all : AreReachingBy classes flat table (at ∷ work))
    → reached_in table.states at ≡ Some state
    → reached_in all.states at ≡ Some state
head_found classes flat table at work state links are all is =
    sym ((all.spread.each links are).same at (all.listed at (or_left (at == at) (has work at) (eq-eqb at at refl)))) ∙ is

pub found_inside :
    (classes : Classes) (flat : FlatCode) (table : HeadTable) (at : ℕ) (work : List ℕ) (state : State) (links : Links)
    → AreLinksOf (headers_of classes) links
    → AreReachingBy classes flat table (at ∷ work)
    → reached_in table.states at ≡ Some state
    → at < length flat.points
found_inside classes flat table at work state links are all is =
    (all.reaching links are).under.inside at state (head_found classes flat table at work state links are all is)

pub head_not_reached :
    (classes : Classes) (flat : FlatCode) (table : HeadTable) (at : ℕ) (work : List ℕ)
    → AreReachingBy classes flat table (at ∷ work)
    → reached_in table.states at ≡ None
    → IsVisited classes flat table table work work false
head_not_reached classes flat table at work all none = record {
  less = less_itself table.states work;
  reaching = record {
    states = all.states;
    reaching = visited_none classes flat at all.states work all.reaching (λ links are.
        sym ((all.spread.each links are).same at (all.listed at (or_left (at == at) (has work at) (eq-eqb at at refl)))) ∙ none);
    spread = all.spread;
    listed = λ one there. all.listed one (or_right (at == one) (has work one) there);
  };
}

-- ---- head after head

-- heads were taken and visited, and none was reached for the first time
pub record IsAdvancing (classes : Classes) (flat : FlatCode) (before after : HeadTable) (work : List ℕ) : Type 0 where
  pub fewer : unreached_in after.states ≤ unreached_in before.states
  pub reaching : AreReachingBy classes flat after work

-- ---- until none is left

pub record IsIterating (classes : Classes) (flat : FlatCode) (table : HeadTable) (work : List ℕ) (more : Bool) : Type 0 where
  pub reaching : AreReachingBy classes flat table work
  pub done : IsFalse more → work ≡ []

-- rounds that are left
abbrev pub rounds_left : HeadTable → Bool → ℕ
rounds_left table more = unreached_in table.states * 2 + cond more 1 0
