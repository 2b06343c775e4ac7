-- Objects that lie at or below a stack entry whose type is Top are made, and states are joined.
use Rattle.std.proofs.Common.{◌≡◌, ◌||◌, ℕ, Bool, true, false, cond, List, [], ◌∷◌, drop, length, Option, Some, None, option_map, IsTrue, IsFalse, refl, sym, ap, subst, ◌∙◌, inl, inr}
use Rattle.std.specs.List.{list_any}
use Rattle.std.proofs.lemmas.Bool.{cases_Bool, false≢true, both_ways, not_from_true, not_from_false}
use Rattle.std.proofs.lemmas.List.{drop-map}
use Rattle.std.proofs.lemmas.Option.{none-some}
use Rattle.class_model.specs.Frames.{is_top}
use Rattle.class_model.specs.declared.frame.Frame.{Frame}
use Rattle.class_model.specs.declared.frame.VType.{VType}
use Rattle.flow_code.specs.FlatCode.{FlatCode, point_at}
use Rattle.flow_code.specs.declared.point.Point.{Point}
use Rattle.plan_flow.specs.Inner.Asking.{HasAdded, IsBeneath}
use Rattle.plan_flow.specs.Inner.Iteration.{IsCleaned, IsJoined, IsRaised, slots_beneath}
use Rattle.plan_flow.specs.PlanScope.{PlanScope, local_types, stack_types}
use Rattle.plan_flow.specs.PlanSlots.{beneath_top, fit_stack}
use Rattle.plan_flow.specs.Plans.{IsStateAt}
use Rattle.virtual_state.specs.Orders.{IsBelow}
use Rattle.virtual_state.specs.Sites.{has, IsClosure}
use Rattle.virtual_state.specs.States.{State, IsState, is_present, is_virtual, names}
use Rattle.virtual_state.specs.Without.{made_plain, without}
use Rattle.virtual_state.specs.declared.slot.Slot.{Slot}
use Rattle.virtual_state.specs.declared.slot.Slot.TheVariants.{Plain}
use Rattle.virtual_state.specs.Laws.Fields.{made, named_before, named_behind}
use Rattle.virtual_state.specs.Laws.Orders.{absent, below_without, below_itself, below_and_below, below_is_closed, below_is_without}
use Rattle.plan_flow.proofs.AskedSites.{found_point}
use Rattle.plan_flow.proofs.LeastAbove.{rest_below}
use Rattle.plan_flow.proofs.MustLaws.{same_truth}
use Rattle.plan_flow.proofs.Raising.{state_at_above}
use Rattle.plan_flow.proofs.Rounds.{no_site}
use Rattle.plan_flow.proofs.Settled.{beneath_made, beneath_named, dropped_named}

-- ---- sites that are named there

no_slots : (types : List VType) (site : ℕ) → names (beneath_top types []) site ≡ false
no_slots [] site = refl
no_slots (type ∷ types) site = refl

fitted_named :
    (types : List VType) (slots : List Slot) (site : ℕ)
    → names (beneath_top types (fit_stack types slots)) site ≡ names (beneath_top types slots) site
fitted_named [] slots site = refl
fitted_named (type ∷ types) [] site = go (list_any is_top (type ∷ types)) (fitted_named types [] site) where
  go :
      (top : Bool)
      → names (beneath_top types (fit_stack types [])) site ≡ names (beneath_top types []) site
      → names (cond top (Plain ∷ beneath_top types (fit_stack types [])) []) site ≡ false
  go true rest = rest ∙ no_slots types site
  go false rest = refl
fitted_named (type ∷ types) (slot ∷ slots) site = go (list_any is_top (type ∷ types)) (fitted_named types slots site) where
  go :
      (top : Bool)
      → names (beneath_top types (fit_stack types slots)) site ≡ names (beneath_top types slots) site
      → names (cond top (slot ∷ beneath_top types (fit_stack types slots)) []) site
      ≡ names (cond top (slot ∷ beneath_top types slots) []) site
  go true rest = ap (λ (b : Bool). is_virtual site slot || b) rest
  go false rest = refl

-- where no type is Top, none is
no_top : (types : List VType) (slots : List Slot) → list_any is_top types ≡ false → beneath_top types slots ≡ []
no_top [] slots none = refl
no_top (type ∷ types) [] none = refl
no_top (type ∷ types) (slot ∷ slots) none = ap (λ (b : Bool). cond b (slot ∷ beneath_top types slots) []) none

-- the types of a point
pub record AreTypesAt (flat : FlatCode) (at : ℕ) (locals stack : List VType) : Type 0 where
  pub locals_are : local_types flat at ≡ locals
  pub stack_is : stack_types flat at ≡ stack

types_at :
    (flat : FlatCode) (at : ℕ) (point : Point)
    → point_at flat at ≡ Some point
    → AreTypesAt flat at point.typed.locals point.typed.stack
types_at flat at point found = record { locals_are = rw found refl; stack_is = rw found refl }

pub types_of :
    (flat : FlatCode) (at : ℕ) (types : Frame)
    → option_map (λ (point : Point). point.typed) (point_at flat at) ≡ Some types
    → AreTypesAt flat at types.locals types.stack
types_of flat at types is =
    let found = found_point (λ (point : Point). point.typed) (point_at flat at) types is in
    subst (λ (frame : Frame). AreTypesAt flat at frame.locals frame.stack) found.2 (types_at flat at found.0 found.1)

pub none_there :
    (flat : FlatCode) (at : ℕ) (state : State) (locals stack : List VType)
    → AreTypesAt flat at locals stack
    → list_any is_top stack ≡ false
    → (site : ℕ)
    → has [] site ≡ names (slots_beneath flat at state) site
none_there flat at state locals stack are none site =
    let types = ap (list_any is_top) are.stack_is ∙ none in
    let slots = no_top (stack_types flat at) (drop (length (local_types flat at)) state.slots) types in
    sym (ap (λ (slots : List Slot). names slots site) slots)

pub some_there :
    (flat : FlatCode) (at : ℕ) (state : State) (locals stack : List VType) (entries : List Slot) (sites : List ℕ)
    → IsState state
    → AreTypesAt flat at locals stack
    → entries ≡ drop (length locals) state.slots
    → HasAdded [] sites (IsBeneath state stack (fit_stack stack entries))
    → (site : ℕ)
    → has sites site ≡ names (slots_beneath flat at state) site
some_there flat at state locals stack entries sites is are entries_are added site =
    same_truth (has sites site) (names (slots_beneath flat at state) site)
    (λ among. elim (added.only site among) [
      | inl none ↦ absurd (false≢true none)
      | inr there ↦ sym same ∙ there.0
    ])
    (λ named.
    let count = length (local_types flat at) in
    let among = dropped_named count state.slots site (beneath_named (stack_types flat at) (drop count state.slots) site named) in
    added.asked site (same ∙ named, is.places site among))
  where
    entries_is : entries ≡ drop (length (local_types flat at)) state.slots
    entries_is = entries_are ∙ ap (λ (types : List VType). drop (length types) state.slots) (sym are.locals_are)

    same : names (beneath_top stack (fit_stack stack entries)) site ≡ names (slots_beneath flat at state) site
    same = fitted_named stack entries site ∙ (λ i. names (beneath_top (sym are.stack_is i) (entries_is i)) site)

-- ---- they are made

beneath_without :
    (flat : FlatCode) (at : ℕ) (state : State) (away : ℕ → Bool)
    → slots_beneath flat at (without state away) ≡ made away (slots_beneath flat at state)
beneath_without flat at state away =
    ap (beneath_top (stack_types flat at)) (drop-map (made_plain away) (length (local_types flat at)) state.slots)
    ∙ beneath_made away (stack_types flat at) (drop (length (local_types flat at)) state.slots)

pub cleaned_same :
    (flat : FlatCode) (at : ℕ) (state : State) (sites : List ℕ)
    → ((site : ℕ) → has sites site ≡ names (slots_beneath flat at state) site)
    → length sites ≡ 0
    → IsCleaned flat at state state
cleaned_same flat at state sites are none = record {
  below = below_itself state;
  beneath = λ site. sym (are site) ∙ ap (λ (list : List ℕ). has list site) (no_site sites none);
  least = λ target up clean. up;
}

pub cleaned_without :
    (flat : FlatCode) (at : ℕ) (state clean : State) (sites away : List ℕ)
    → IsState state
    → ((site : ℕ) → has sites site ≡ names (slots_beneath flat at state) site)
    → IsClosure sites state.objects away
    → clean ≡ without state (has away)
    → IsCleaned flat at state clean
cleaned_without flat at state clean sites away is are closure same = subst (IsCleaned flat at state) (sym same) (record {
  below = below_without state (has away) is closure.closed;
  beneath = λ site. elim (cases_Bool (names (slots_beneath flat at (without state (has away))) site)) [
    | inr none ↦ none
    | inl named ↦
        let still = subst (λ (slots : List Slot). IsTrue (names slots site)) (beneath_without flat at state (has away)) named in
        let before = named_before (has away) (slots_beneath flat at state) site still in
        absurd (both_ways (has away site) before.1 (closure.starts site (are site ∙ before.0)))
  ];
  least = λ target up clean.
      rest_below state target (has away) is closure.closed up
      (closure.least (absent target) (gone target up clean) (below_is_closed state target is up));
}) where
  gone :
      (target : State)
      → IsBelow state target
      → ((site : ℕ) → IsFalse (names (slots_beneath flat at target) site))
      → (site : ℕ)
      → IsTrue (has sites site)
      → IsTrue (absent target site)
  gone target up clean site among = elim (cases_Bool (is_present target.objects site)) [
    | inr none ↦ not_from_false (is_present target.objects site) none
    | inl present ↦
        let slots : slots_beneath flat at target ≡ made (absent target) (slots_beneath flat at state) =
        ap (slots_beneath flat at) (below_is_without state target is up) ∙ beneath_without flat at state (absent target) in
        let stays = not_from_true (is_present target.objects site) present in
        let still = named_behind (absent target) (slots_beneath flat at state) site (sym (are site) ∙ among) stays in
        let named = subst (λ (list : List Slot). IsTrue (names list site)) (sym slots) still in
        absurd (both_ways (names (slots_beneath flat at target) site) (clean site) named)
  ]

-- ---- joined, and then without them

pub joined_none : (behind joined : State) (old : Option State) → old ≡ None → joined ≡ behind → IsJoined behind old joined
joined_none behind joined old none same = record {
  below = subst (IsBelow behind) (sym same) (below_itself behind);
  above_old = λ one is. absurd (none-some one (sym none ∙ is));
  least = λ target up olds. subst (λ (low : State). IsBelow low target) (sym same) up;
}

pub is_raised :
    (s : PlanScope) (flat : FlatCode) (to : ℕ) (behind joined above : State) (old : Option State)
    → IsJoined behind old joined
    → IsCleaned flat to joined above
    → s.flat ≡ flat
    → IsStateAt s to behind
    → IsRaised s to behind old above
is_raised s flat to behind joined above old both cleaned same at = record {
  at = state_at_above s to behind above at up;
  below = up;
  above_old = λ state is. below_and_below state joined above (both.above_old state is) clean.below;
  beneath = record { each = clean.beneath };
  least = λ target over plain olds. clean.least target (both.least target over olds) plain.each;
} where
  clean : IsCleaned s.flat to joined above
  clean = subst (λ (code : FlatCode). IsCleaned code to joined above) (sym same) cleaned

  up : IsBelow behind above
  up = below_and_below behind joined above both.below clean.below
