-- What an instruction asks for is made, round by round, until it asks for nothing.
use Rattle.std.proofs.Common.{◌≡◌, ℕ, ◌<◌, ◌==◌, List, [], ◌∷◌, length, Option, Some, None, IsTrue, refl, sym, subst, inl, inr, arith}
use Rattle.std.proofs.lemmas.Bool.{cases_Bool, or_left, eq-eqb, false≢true, not_from_false}
use Rattle.std.proofs.lemmas.List.{length-map}
use Rattle.class_tree.specs.Headers.{Classes, headers_of}
use Rattle.flow_code.specs.FlatCode.{FlatCode, point_at}
use Rattle.flow_code.specs.declared.point.Point.{Point}
use Rattle.member_link.specs.Machine.Links.{AreLinksOf}
use Rattle.member_link.specs.Machine.Programs.{Links}
use Rattle.plan_flow.specs.Inner.Iteration.{IsLeft}
use Rattle.plan_flow.specs.Must.{IsAsked, by_position, beneath, IsMustOf, IsMust, IsMustIn}
use Rattle.plan_flow.specs.PlanScope.{PlanScope, scope_of}
use Rattle.virtual_state.specs.Orders.{IsBelow}
use Rattle.virtual_state.specs.Sites.{has}
use Rattle.virtual_state.specs.States.{State, IsState, is_present}
use Rattle.virtual_state.specs.Without.{IsClosed, object_without, without}
use Rattle.virtual_state.specs.declared.slot.VObject.{VObject}
use Rattle.virtual_state.specs.Laws.Objects.{of_sites}
use Rattle.virtual_state.specs.Laws.Orders.{below_without, below_itself, below_and_below}
use Rattle.virtual_state.specs.Laws.Removals.{stay, without_is_state, fewer_objects}
use Rattle.plan_flow.proofs.LeastAbove.{rest_below}
use Rattle.plan_flow.proofs.MustLaws.{must_grown}
use Rattle.plan_flow.proofs.Settled.{asked_present}

-- ---- what is asked for is present

asked_there :
    (s : PlanScope) (at : ℕ) (point : Point) (state : State)
    → IsState state
    → {site : ℕ}
    → IsAsked s at point state site
    → IsTrue (is_present state.objects site)
asked_there s at point state is (by_position number position site there asks) = asked_present s state position site is asks
asked_there s at point state is (beneath number edge site there named present) = present

present_in :
    (s : PlanScope) (at : ℕ) (found : Option Point) (state : State) (sites : List ℕ)
    → IsState state
    → IsMustIn s at found state sites
    → (site : ℕ)
    → IsTrue (has sites site)
    → IsTrue (is_present state.objects site)
present_in s at None state sites is must site among = absurd (false≢true (subst (λ (list : List ℕ). IsTrue (has list site)) must among))
present_in s at (Some point) state sites is must site among =
    must.least (is_present state.objects) (λ one asked. asked_there s at point state is asked)
    (λ from to edge from_there. is.fields from to edge) site among

closed_in :
    (s : PlanScope) (at : ℕ) (found : Option Point) (state : State) (sites : List ℕ)
    → IsMustIn s at found state sites
    → IsClosed (has sites) state.objects
closed_in s at None state sites must = λ from to edge among.
    absurd (false≢true (subst (λ (list : List ℕ). IsTrue (has list from)) must among))
closed_in s at (Some point) state sites must = must.closed

-- ---- lists of sites

some_site : (sites : List ℕ) → 0 < length sites → (site : ℕ) × IsTrue (has sites site)
some_site [] some = absurd (omega (arith, some))
some_site (site ∷ sites) some = (site, or_left (site == site) (has sites site) (eq-eqb site site refl))

pub no_site : (sites : List ℕ) → length sites ≡ 0 → sites ≡ []
no_site [] none = refl
no_site (site ∷ sites) none = absurd (omega (arith, none))

-- ---- one round after another

pub record IsRound (s : PlanScope) (at : ℕ) (state left : State) (sites : List ℕ) : Type 0 where
  pub is_state : IsState left
  pub below : IsBelow state left
  pub must : IsMust s at left sites
  pub least :
      (point : Point) (other : State)
      → point_at s.flat at ≡ Some point
      → IsBelow state other
      → IsMustOf s at point other []
      → IsBelow left other

pub record Rounds (classes : Classes) (flat : FlatCode) (at : ℕ) (state left : State) (sites : List ℕ) : Type 0 where
  pub each :
      (links : Links)
      → AreLinksOf (headers_of classes) links
      → IsRound (scope_of classes links flat) at state left sites

round_first :
    (s : PlanScope) (at : ℕ) (state : State) (sites : List ℕ)
    → IsState state
    → IsMust s at state sites
    → IsRound s at state state sites
round_first s at state sites is must = record {
  is_state = is;
  below = below_itself state;
  must = must;
  least = λ point other is_point up asks_none. up;
}

closed_of :
    (s : PlanScope) (at : ℕ) (state left : State) (sites : List ℕ)
    → IsRound s at state left sites
    → IsClosed (has sites) left.objects
closed_of s at state left sites round = closed_in s at (point_at s.flat at) left sites round.must

round_next :
    (s : PlanScope) (at : ℕ) (state left : State) (sites more : List ℕ)
    → IsRound s at state left sites
    → IsMust s at (without left (has sites)) more
    → IsRound s at state (without left (has sites)) more
round_next s at state left sites more round must = record {
  is_state = without_is_state left (has sites) round.is_state closed;
  below = below_and_below state left (without left (has sites)) round.below (below_without left (has sites) round.is_state closed);
  must = must;
  least = λ point other is_point up asks_none.
      let over = round.least point other is_point up asks_none in
      let none : IsMust s at other [] = subst (λ (found : Option Point). IsMustIn s at found other []) (sym is_point) asks_none in
      rest_below left other (has sites) round.is_state closed over (λ site among. elim (cases_Bool (is_present other.objects site)) [
        | inl present ↦ absurd (false≢true (must_grown s at left other sites [] round.is_state over round.must none site among present))
        | inr gone ↦ not_from_false (is_present other.objects site) gone
      ]);
} where
  closed : IsClosed (has sites) left.objects
  closed = closed_of s at state left sites round

round_fewer :
    (s : PlanScope) (at : ℕ) (state left : State) (sites : List ℕ)
    → IsRound s at state left sites
    → 0 < length sites
    → length (without left (has sites)).objects < length left.objects
round_fewer s at state left sites round some =
    let one = some_site sites some in
    let there = present_in s at (point_at s.flat at) left sites round.is_state round.must one.0 one.1 in
    let len = length-map {A = VObject} {B = VObject} (of_sites (stay (has sites)) left.objects) (object_without (has sites)) in
    subst (λ (count : ℕ). count < length left.objects) (sym len)
    (fewer_objects (has sites) left.objects one.0 there one.1)

round_last :
    (s : PlanScope) (at : ℕ) (point : Point) (state left : State)
    → IsRound s at state left []
    → point_at s.flat at ≡ Some point
    → IsLeft s at point state left
round_last s at point state left round is_point = record {
  below = round.below;
  must = subst (λ (found : Option Point). IsMustIn s at found left []) is_point round.must;
  least = λ other up asks_none. round.least point other is_point up asks_none;
}

-- ---- the same for all links of a tree

pub rounds_first :
    (classes : Classes) (flat : FlatCode) (at : ℕ) (state left : State) (sites : List ℕ)
    → IsState state
    → left ≡ state
    → ((links : Links) → AreLinksOf (headers_of classes) links → IsMust (scope_of classes links flat) at left sites)
    → Rounds classes flat at state left sites
rounds_first classes flat at state left sites is same must = record {
  each = λ links are.
      let s = scope_of classes links flat in
      let here = subst (λ (one : State). IsMust s at one sites) same (must links are) in
      subst (λ (one : State). IsRound s at state one sites) (sym same) (round_first s at state sites is here);
}

pub rounds_next :
    (classes : Classes) (flat : FlatCode) (at : ℕ) (state left rest : State) (sites more : List ℕ)
    → Rounds classes flat at state left sites
    → rest ≡ without left (has sites)
    → ((links : Links) → AreLinksOf (headers_of classes) links → IsMust (scope_of classes links flat) at rest more)
    → Rounds classes flat at state rest more
rounds_next classes flat at state left rest sites more rounds is must = record {
  each = λ links are.
      let s = scope_of classes links flat in
      let here = subst (λ (one : State). IsMust s at one more) is (must links are) in
      subst (λ (one : State). IsRound s at state one more) (sym is) (round_next s at state left sites more (rounds.each links are) here);
}

pub rounds_closed :
    (classes : Classes) (flat : FlatCode) (at : ℕ) (state left : State) (sites : List ℕ)
    → Rounds classes flat at state left sites
    → (links : Links)
    → AreLinksOf (headers_of classes) links
    → IsClosed (has sites) left.objects
rounds_closed classes flat at state left sites rounds links are =
    closed_of (scope_of classes links flat) at state left sites (rounds.each links are)

pub rounds_fewer :
    (classes : Classes) (flat : FlatCode) (at : ℕ) (state left rest : State) (sites : List ℕ)
    → Rounds classes flat at state left sites
    → (links : Links)
    → AreLinksOf (headers_of classes) links
    → rest ≡ without left (has sites)
    → 0 < length sites
    → length rest.objects < length left.objects
rounds_fewer classes flat at state left rest sites rounds links are is some =
    subst (λ (one : State). length one.objects < length left.objects) (sym is)
    (round_fewer (scope_of classes links flat) at state left sites (rounds.each links are) some)

pub rounds_last :
    (classes : Classes) (flat : FlatCode) (at : ℕ) (state left : State) (sites : List ℕ)
    → Rounds classes flat at state left sites
    → length sites ≡ 0
    → (links : Links) (point : Point)
    → AreLinksOf (headers_of classes) links
    → point_at flat at ≡ Some point
    → IsLeft (scope_of classes links flat) at point state left
rounds_last classes flat at state left sites rounds none links point are is_point =
    let s = scope_of classes links flat in
    let last = subst (λ (list : List ℕ). IsRound s at state left list) (no_site sites none) (rounds.each links are) in
    round_last s at point state left last is_point
