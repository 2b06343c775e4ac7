-- The least state above another one that is good, where in each state that isn't some object must be made.
use Rattle.std.proofs.Common.{ℕ, ◌<◌, ◌≤◌, zero, suc, Bool, false, ◌||◌, List, [], ◌∷◌, length, IsTrue, IsFalse, refl, sym, ap, subst, ◌∙◌, inl, inr, ◌⊎◌, arith}
use Rattle.std.proofs.lemmas.Bool.{cases_Bool, or_cases, or_left, or_right, eq-eqb, eqb-true, false≢true, both_ways}
use Rattle.std.proofs.lemmas.List.{length-map}
use Rattle.virtual_state.specs.Orders.{IsBelow}
use Rattle.virtual_state.specs.States.{State, IsState, IsReached, from_slot, from_field, is_present, is_virtual}
use Rattle.virtual_state.specs.Without.{IsClosed, object_without, without}
use Rattle.virtual_state.specs.declared.slot.Slot.{Slot}
use Rattle.virtual_state.specs.declared.slot.Slot.TheVariants.{Virt}
use Rattle.virtual_state.specs.declared.slot.VObject.{VObject}
use Rattle.virtual_state.specs.Laws.Objects.{of_sites}
use Rattle.virtual_state.specs.Laws.Orders.{absent, below_without, below_is_without, below_is_closed, below_itself, below_and_below}
use Rattle.virtual_state.specs.Laws.Removals.{stay, edge_before, without_is_state, without_agrees, without_twice, fewer_objects}
use Rattle.plan_flow.proofs.MustLaws.{same_truth}
use Rattle.plan_flow.proofs.Reached.{Reach, reach}

-- The objects of a site and of those that its fields reach are made.
pub record WithoutSite (state : State) (site : ℕ) : Type 0 where
  pub rest : State
  pub below : IsBelow state rest
  pub is_state : IsState rest
  pub fewer : length rest.objects < length state.objects
  pub least : (other : State) → IsBelow state other → IsFalse (is_present other.objects site) → IsBelow rest other

site_slot : ℕ → List Slot
site_slot site = Virt site ∷ []

-- what an absent site reaches is absent
reached_absent :
    (state other : State) (site : ℕ)
    → IsClosed (absent other) state.objects
    → IsTrue (absent other site)
    → {to : ℕ}
    → IsReached (site_slot site) state.objects to
    → IsTrue (absent other to)
unfolding site_slot
reached_absent state other site closed gone (from_slot to named) =
    elim (or_cases (is_virtual to (Virt site)) false named) [
      | inl same ↦ ap (absent other) (sym (eqb-true site to same)) ∙ gone
      | inr none ↦ absurd (false≢true none)
    ]
reached_absent state other site closed gone (from_field from to reached edge) = closed from to edge (reached_absent state other site closed gone reached)

-- what a state is below, it is below without sites that are absent there
pub rest_below :
    (state other : State) (away : ℕ → Bool)
    → IsState state
    → IsClosed away state.objects
    → IsBelow state other
    → ((site : ℕ) → IsTrue (away site) → IsTrue (absent other site))
    → IsBelow (without state away) other
rest_below state other away is away_closed below part =
    let closed = below_is_closed state other is below in
    let both = without_agrees state (λ to. away to || absent other to) (absent other) is (λ to to_present. same_truth (away to || absent other to) (absent other to) (λ either. elim (or_cases (away to) (absent other to) either) [
      | inl one ↦ part to one
      | inr two ↦ two
    ]) (λ two. or_right (away to) (absent other to) two)) in
    let closed_rest : IsClosed (absent other) (without state away).objects = λ from to edge. closed from to (edge_before away state.objects from to edge).edge in
    subst (IsBelow (without state away)) (without_twice state away (absent other) ∙ both ∙ sym (below_is_without state other is below))
    (below_without (without state away) (absent other) (without_is_state state away is away_closed) closed_rest)

pub without_site : (state : State) (site : ℕ) → IsState state → IsTrue (is_present state.objects site) → WithoutSite state site
unfolding site_slot
without_site state site is present = record {
  rest = without state away;
  below = below_without state away is reached.closed;
  is_state = without_is_state state away is reached.closed;
  fewer = subst (λ (len : ℕ). len < length state.objects) (sym (length-map {A = VObject} {B = VObject} (of_sites (stay away) state.objects) (object_without away))) (fewer_objects away state.objects site present there);
  least = least;
} where
  reached : Reach (site_slot site) state.objects
  reached = reach (site_slot site) state.objects

  away : ℕ → Bool
  away = reached.set

  there : IsTrue (away site)
  there = reached.starts site (or_left (is_virtual site (Virt site)) false (eq-eqb site site refl))

  least : (other : State) → IsBelow state other → IsFalse (is_present other.objects site) → IsBelow (without state away) other
  least other below gone =
      let closed = below_is_closed state other is below in
      rest_below state other away is reached.closed below (λ to one. reached_absent state other site closed (Rattle.std.proofs.lemmas.Bool.not_from_false (is_present other.objects site) gone) (reached.only to one))

-- ---- until the state is good

pub record LeastAbove (Good : State → Type 0) (state : State) : Type 0 where
  pub above : State
  pub is_state : IsState above
  pub below : IsBelow state above
  pub good : Good above
  pub least : (other : State) → IsBelow state other → Good other → IsBelow above other

-- an object of a site that must be made in each good state above
pub record MustGo (Good : State → Type 0) (state : State) : Type 0 where
  pub site : ℕ
  pub present : IsTrue (is_present state.objects site)
  pub gone : (other : State) → IsBelow state other → Good other → IsFalse (is_present other.objects site)

-- the state is good, or an object must be made, in this state and in those above
abbrev pub IsDecided : (State → Type 0) → State → Type 0
IsDecided Good start = (state : State) → IsState state → IsBelow start state → Good state ⊎ MustGo Good state

least_from :
    (Good : State → Type 0) (start : State)
    → IsDecided Good start
    → (fuel : ℕ) (state : State)
    → IsState state
    → IsBelow start state
    → length state.objects ≤ fuel
    → LeastAbove Good state
least_from Good start decide zero state is below few =
    elim (decide state is below) [
      | inl good ↦ record { above = state; is_state = is; below = below_itself state; good = good; least = λ other up good. up }
      | inr go ↦
          let rest = without_site state go.site is go.present in
          absurd (omega (arith, rest.fewer, few))
    ]
least_from Good start decide (suc fuel) state is below few =
    elim (decide state is below) [
      | inl good ↦ record { above = state; is_state = is; below = below_itself state; good = good; least = λ other up good. up }
      | inr go ↦
          let rest = without_site state go.site is go.present in
          let above = least_from Good start decide fuel rest.rest rest.is_state (below_and_below start state rest.rest below rest.below) (omega (arith, rest.fewer, few)) in
          record {
            above = above.above;
            is_state = above.is_state;
            below = below_and_below state rest.rest above.above rest.below above.below;
            good = above.good;
            least = λ other up good. above.least other (rest.least other up (go.gone other up good)) good;
          }
    ]

pub least_above : (Good : State → Type 0) (state : State) → IsState state → IsDecided Good state → LeastAbove Good state
least_above Good state is decide = least_from Good state decide (length state.objects) state is (below_itself state) (omega arith)
