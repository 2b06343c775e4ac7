-- An edge is followed: its target is reached, or its state is raised.
use Rattle.std.proofs.Common.{◌≡◌, ℕ, ◌<◌, ◌≤◌, ◌+◌, zero, suc, Bool, true, false, ◌||◌, List, [], ◌∷◌, take, length, slice_get, slice_set, Option, Some, None, Bor, is_none, is_some, not, IsTrue, IsFalse, refl, sym, ap, subst, ◌∙◌, inl, inr, arith}
use Rattle.std.specs.Option.{option_copied, option_flatten}
use Rattle.std.proofs.lemmas.Bool.{false≢true, true≢false, both_ways, or_cases, or_parts}
use Rattle.std.proofs.lemmas.List.{length-set}
use Rattle.std.proofs.lemmas.Option.{none-some, same_Some}
use Rattle.class_tree.specs.Headers.{Classes, headers_of}
use Rattle.flow_code.specs.FlatCode.{FlatCode}
use Rattle.member_link.specs.Machine.Links.{AreLinksOf}
use Rattle.member_link.specs.Machine.Programs.{Links}
use Rattle.plan_flow.specs.Inner.Iteration.{IsRaised}
use Rattle.plan_flow.specs.Inner.Reaching.{Reached, reached_in, IsUnder, IsMore, IsEdgeTo, LeadsIn, IsLess, IsRaisedTo, AreStarted, AreFollowed}
use Rattle.plan_flow.specs.PlanScope.{PlanScope, scope_of}
use Rattle.plan_flow.specs.Plans.{state_without_sites}
use Rattle.plan_flow.specs.declared.edge.Edge.{Edge}
use Rattle.virtual_state.specs.Orders.{IsBelow, HaveSamePlaces}
use Rattle.virtual_state.specs.Sites.{has}
use Rattle.virtual_state.specs.States.{State}
use Rattle.virtual_state.specs.Laws.Objects.{same_or_not, some_or_none}
use Rattle.virtual_state.specs.Laws.Orders.{below_itself, below_and_below, same_or_fewer}
use Rattle.plan_flow.proofs.Iterating.{put_more, put_under, led_more}
use Rattle.plan_flow.proofs.PointLists.{set_here, set_other, took_more, put_is, unreached_new, unreached_old, objects_old}

-- ---- more is reached

pub more_itself : (states : Reached) → IsMore states states
more_itself states = record { each = λ place state is. (state, is, below_itself state) }

pub more_and_more : (one two three : Reached) → IsMore one two → IsMore two three → IsMore one three
more_and_more one two three first second = record {
  each = λ place state is.
      let mid = first.each place state is in
      let high = second.each place mid.0 mid.1 in
      (high.0, high.1, below_and_below state mid.0 high.0 mid.2 high.2);
}

pub leads_more : (states more : Reached) (to : ℕ) (behind : State) → IsMore states more → LeadsIn states to behind → LeadsIn more to behind
leads_more states more to behind grows leads =
    let above = grows.each to leads.target leads.reached in
    record { target = above.0; reached = above.1; below = below_and_below behind leads.target above.0 leads.below above.2 }

pub not_listed : (one other : Bool) → (IsTrue one → IsTrue other) → IsFalse other → IsFalse one
not_listed false other there none = refl
not_listed true other there none = absurd (both_ways other none (there refl))

pub raised_itself : (states : List (Option State)) (work : List ℕ) → IsRaisedTo states states work work
raised_itself states work = record {
  len = refl;
  more = more_itself (reached_in states);
  same = λ at none. refl;
  listed = λ at there. there;
}

pub raised_and_raised :
    (one two three : List (Option State)) (first second third : List ℕ)
    → IsRaisedTo one two first second
    → IsRaisedTo two three second third
    → IsRaisedTo one three first third
raised_and_raised one two three first second third low high = record {
  len = high.len ∙ low.len;
  more = more_and_more (reached_in one) (reached_in two) (reached_in three) low.more high.more;
  same = λ at none. high.same at none ∙ low.same at (not_listed (has second at) (has third at) (high.listed at) none);
  listed = λ at there. high.listed at (low.listed at there);
}

pub less_itself : (states : List (Option State)) (work : List ℕ) → IsLess states states work work false
less_itself states work = record {
  fewer = omega arith;
  reaches = λ new. absurd (false≢true new);
  lighter = λ old. omega arith;
}

pub less_and_less :
    (one two three : List (Option State)) (first second third : List ℕ) (new also : Bool)
    → IsLess one two first second new
    → IsLess two three second third also
    → IsLess one three first third (new || also)
less_and_less one two three first second third new also low high = record {
  fewer = let a = low.fewer in let b = high.fewer in omega (arith, a, b);
  reaches = λ either. elim (or_cases new also either) [
    | inl is ↦ let a = low.reaches is in let b = high.fewer in omega (arith, a, b)
    | inr is ↦ let a = low.fewer in let b = high.reaches is in omega (arith, a, b)
  ];
  lighter = λ neither.
      let parts = or_parts new also neither in
      let a = low.lighter parts.0 in
      let b = high.lighter parts.1 in
      omega (arith, a, b);
}

-- ---- what is started, and what is followed

-- an edge that leads already
pub followed_none :
    (classes : Classes) (flat : FlatCode) (states : List (Option State)) (work : List ℕ) (edges some : List Edge)
    → AreStarted classes flat states edges
    → ((number : ℕ) (edge : Edge) → slice_get some number ≡ Some edge → LeadsIn (reached_in states) edge.to edge.state)
    → AreFollowed classes flat states states work work some
followed_none classes flat states work edges some started lead = record {
  raised = raised_itself states work;
  under = started.under;
  lead = lead;
}

pub only_leads :
    (states : List (Option State)) (edge : Edge)
    → LeadsIn (reached_in states) edge.to edge.state
    → (number : ℕ) (one : Edge)
    → slice_get (edge ∷ []) number ≡ Some one
    → LeadsIn (reached_in states) one.to one.state
only_leads states edge lead zero one found = subst (λ (e : Edge). LeadsIn (reached_in states) e.to e.state) (same_Some edge one found) lead
only_leads states edge lead (suc number) one found = absurd (none-some one found)

-- the next edge
pub started_next :
    (classes : Classes) (flat : FlatCode) (before states : List (Option State)) (work also : List ℕ) (edges some : List Edge)
    (number : ℕ) (edge : Edge)
    → AreStarted classes flat before edges
    → AreFollowed classes flat before states work also some
    → slice_get edges number ≡ Some edge
    → AreStarted classes flat states (edge ∷ [])
started_next classes flat before states work also edges some number edge started followed is = record {
  len = followed.raised.len ∙ started.len;
  under = followed.under;
  edge = λ links at one are found. next links at one are found;
} where
  this :
      (links : Links)
      → AreLinksOf (headers_of classes) links
      → IsEdgeTo (scope_of classes links flat) (reached_in states) edge.to edge.state
  this links are =
      let s = scope_of classes links flat in
      let old = started.edge links number edge are is in
      record {
        led =
            led_more s (reached_in before) (reached_in states) followed.raised.more
            (λ place state there. ((followed.under links are).at place state there).is_state) old.led;
        is_at = old.is_at;
        inside = old.inside;
        lower = old.lower;
      }

  next :
      (links : Links) (at : ℕ) (one : Edge)
      → AreLinksOf (headers_of classes) links
      → slice_get (edge ∷ []) at ≡ Some one
      → IsEdgeTo (scope_of classes links flat) (reached_in states) one.to one.state
  next links zero one are found =
      subst (λ (e : Edge). IsEdgeTo (scope_of classes links flat) (reached_in states) e.to e.state) (same_Some edge one found)
      (this links are)
  next links (suc at) one are found = absurd (none-some one found)

pub followed_more :
    (classes : Classes) (flat : FlatCode) (one two three : List (Option State)) (first second third : List ℕ) (edges : List Edge)
    (number : ℕ) (edge : Edge)
    → AreFollowed classes flat one two first second (take number edges)
    → AreFollowed classes flat two three second third (edge ∷ [])
    → slice_get edges number ≡ Some edge
    → AreFollowed classes flat one three first third (take (suc number) edges)
followed_more classes flat one two three first second third edges number edge low high is = record {
  raised = raised_and_raised one two three first second third low.raised high.raised;
  under = high.under;
  lead = λ at item found. elim (took_more edges number at edge item is found) [
    | inl before ↦ leads_more (reached_in two) (reached_in three) item.to item.state high.raised.more (low.lead at item before)
    | inr same ↦ subst (λ (e : Edge). LeadsIn (reached_in three) e.to e.state) same (high.lead 0 edge refl)
  ];
}

-- ---- a target is reached or raised

-- both states of a target have the same places
pub same_places :
    (classes : Classes) (flat : FlatCode) (states : List (Option State)) (edge : Edge) (links : Links) (state : State)
    → AreLinksOf (headers_of classes) links
    → AreStarted classes flat states (edge ∷ [])
    → reached_in states edge.to ≡ Some state
    → HaveSamePlaces edge.state state
same_places classes flat states edge links state are started is =
    let behind = (started.edge links 0 edge are refl).is_at in
    let old = (started.under links are).at edge.to state is in
    behind.places ∙ sym old.places

pub started_inside :
    (classes : Classes) (flat : FlatCode) (states : List (Option State)) (edge : Edge) (links : Links)
    → AreLinksOf (headers_of classes) links
    → AreStarted classes flat states (edge ∷ [])
    → edge.to < length states
started_inside classes flat states edge links are started =
    let inside = (started.edge links 0 edge are refl).inside in
    let len = started.len in
    omega (arith, inside, len)

-- point 0 keeps its state
keeps_start :
    (s : PlanScope) (states : Reached) (to : ℕ) (behind above : State)
    → IsUnder s states
    → IsRaised s to behind (states to) above
    → to ≡ 0
    → above ≡ state_without_sites s 0
keeps_start s states to behind above under is same =
    let up = is.above_old (state_without_sites s 0) (ap states same ∙ under.start) in
    elim (same_or_fewer (state_without_sites s 0) above up) [
      | inl equal ↦ sym equal
      | inr fewer ↦ absurd (omega (arith, fewer))
    ]

-- a state that does not lead there yet is raised strictly
pub raised_less :
    (s : PlanScope) (before : List (Option State)) (work also : List ℕ) (to : ℕ) (behind above : State)
    → to < length before
    → (LeadsIn (reached_in before) to behind → ⊥)
    → IsRaised s to behind (reached_in before to) above
    → length also ≤ length work + 1
    → IsLess before (slice_set before to (Some above)) work also (is_none (reached_in before to))
raised_less s before work also to behind above inside apart raised more =
    elim (some_or_none (reached_in before to)) [
      | inr none ↦
          subst (λ (o : Option State). IsLess before (slice_set before to (Some above)) work also (is_none o)) (sym none) (by_new none)
      | inl found ↦
          subst (λ (o : Option State). IsLess before (slice_set before to (Some above)) work also (is_none o)) (sym found.1)
          (by_old found.0 found.1)
    ] where
      by_new : reached_in before to ≡ None → IsLess before (slice_set before to (Some above)) work also true
      by_new none =
          let less = unreached_new before to above inside none in
          record { fewer = omega (arith, less); reaches = λ new. less; lighter = λ old. absurd (true≢false old) }

      by_old : (old : State) → reached_in before to ≡ Some old → IsLess before (slice_set before to (Some above)) work also false
      by_old old is =
          let same = unreached_old before to above old is in
          let objects = objects_old before to above old is in
          record {
            fewer = omega (arith, same);
            reaches = λ new. absurd (false≢true new);
            lighter = λ no. elim (same_or_fewer old above (raised.above_old old is)) [
              | inl equal ↦
                  absurd (apart (record { target = old; reached = is; below = subst (IsBelow behind) (sym equal) raised.below }))
              | inr fewer ↦ omega (arith, objects, fewer, more)
            ];
          }

-- an edge, and the state that its target is to have
pub record Following (classes : Classes) (flat : FlatCode) (before : List (Option State)) (work also : List ℕ) (edge : Edge)
    (above : State) : Type 0 where
  pub links : Links
  pub are : AreLinksOf (headers_of classes) links
  pub started : AreStarted classes flat before (edge ∷ [])
  pub raised : (links : Links)
      → AreLinksOf (headers_of classes) links
      → IsRaised (scope_of classes links flat) edge.to edge.state (reached_in before edge.to) above
  pub here : IsTrue (has also edge.to)
  pub others : (other : ℕ) → IsTrue (has work other) → IsTrue (has also other)

target_inside :
    (classes : Classes) (flat : FlatCode) (before : List (Option State)) (work also : List ℕ) (edge : Edge) (above : State)
    → Following classes flat before work also edge above
    → edge.to < length before
target_inside classes flat before work also edge above f = started_inside classes flat before edge f.links f.are f.started

pub followed_raised :
    (classes : Classes) (flat : FlatCode) (before : List (Option State)) (work also : List ℕ) (edge : Edge) (above : State)
    → Following classes flat before work also edge above
    → IsRaisedTo before (slice_set before edge.to (Some above)) work also
followed_raised classes flat before work also edge above f =
    let raised = f.raised f.links f.are in
    let inside = target_inside classes flat before work also edge above f in
    record {
      len = length-set before edge.to (Some above);
      more =
          subst (IsMore (reached_in before)) (sym (put_is before edge.to above inside))
          (put_more (reached_in before) edge.to above raised.above_old);
      same = λ at none. elim (same_or_not edge.to at) [
        | inl same ↦ absurd (both_ways (has also at) none (subst (λ (n : ℕ). IsTrue (has also n)) same f.here))
        | inr differ ↦ ap option_flatten (set_other before edge.to at (Some above) differ)
      ];
      listed = f.others;
    }

pub new_is : (state : Option State) (new : Bool) → is_some state ≡ not new → new ≡ is_none state
new_is None true is = refl
new_is None false is = absurd (false≢true is)
new_is (Some state) true is = absurd (true≢false is)
new_is (Some state) false is = refl

-- the target is reached, or its state is raised
pub followed_one :
    (classes : Classes) (flat : FlatCode) (before : List (Option State)) (work also : List ℕ) (edge : Edge) (above : State)
    → Following classes flat before work also edge above
    → AreFollowed classes flat before (slice_set before edge.to (Some above)) work also (edge ∷ [])
followed_one classes flat before work also edge above f =
    let inside = target_inside classes flat before work also edge above f in
    let put_in = put_is before edge.to above inside in
    record {
      raised = followed_raised classes flat before work also edge above f;
      under = λ link are_link.
          let s = scope_of classes link flat in
          let high = f.raised link are_link in
          let under = f.started.under link are_link in
          subst (IsUnder s) (sym put_in)
          (put_under s (reached_in before) edge.to edge.state above under (f.started.edge link 0 edge are_link refl) high
          (keeps_start s (reached_in before) edge.to edge.state above under high));
      lead =
          only_leads (slice_set before edge.to (Some above)) edge
          (record {
            target = above;
            reached = ap option_flatten (set_here before edge.to (Some above) inside);
            below = (f.raised f.links f.are).below;
          });
    }

-- ---- a reference that may be missing

pub copied_some : (state : Option (Bor State)) → is_some (option_copied state) ≡ is_some state
copied_some None = refl
copied_some (Some state) = refl

pub or_false : (one : Bool) → (one || false) ≡ one
or_false true = refl
or_false false = refl
