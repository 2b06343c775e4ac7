-- The least closed set that an instruction asks for is one, and grows.
use Rattle.std.proofs.Common.{◌≡◌, ◌≢◌, ℕ, ◌<◌, ◌==◌, Bool, true, false, ◌||◌, List, [], ◌∷◌, Option, Some, None, IsTrue, refl, sym, ap, subst, ◌∙◌, inl, inr, arith}
use Rattle.std.specs.List.{AllByRecursion}
use Rattle.std.proofs.lemmas.Bool.{cases_Bool, cases_order, or_cases, or_left, or_right, eq-eqb, ne_eqb, false≢true, true≢false, both_ways, not-true}
use Rattle.class_model.specs.Laws.Lists.{AllByRecursion-weaker}
use Rattle.flow_code.specs.FlatCode.{point_at}
use Rattle.flow_code.specs.declared.point.Point.{Point}
use Rattle.plan_flow.specs.Must.{IsAsked, IsMustOf, IsMust, IsMustIn}
use Rattle.plan_flow.specs.PlanScope.{PlanScope}
use Rattle.virtual_state.specs.Orders.{IsBelow}
use Rattle.virtual_state.specs.Sites.{has}
use Rattle.virtual_state.specs.States.{State, IsState, IsEdge, IsIncreasing, is_present}
use Rattle.virtual_state.specs.Without.{IsClosed, without}
use Rattle.virtual_state.specs.Laws.Objects.{same_or_not}
use Rattle.virtual_state.specs.Laws.Orders.{absent, below_is_without, below_is_closed}
use Rattle.virtual_state.specs.Laws.Removals.{edge_behind}
use Rattle.plan_flow.proofs.MustGrows.{asked_behind}

-- ---- lists of sites

has_below : (sites : List ℕ) (site : ℕ) → AllByRecursion (λ other. site < other) sites → has sites site ≡ false
has_below [] site above = refl
has_below (first ∷ sites) site above = ap (λ (b : Bool). b || has sites site) (ne_eqb first site (λ same. absurd (omega (arith, above.0, same)))) ∙ has_below sites site above.1

pub has_first : (first : ℕ) (sites : List ℕ) → has (first ∷ sites) first ≡ true
has_first first sites = or_left (first == first) (has sites first) (eq-eqb first first refl)

pub has_behind : (first : ℕ) (sites : List ℕ) (site : ℕ) → first ≢ site → has (first ∷ sites) site ≡ has sites site
has_behind first sites site differ = ap (λ (b : Bool). b || has sites site) (ne_eqb first site differ)

-- two lists that increase with the same members are one
pub same_sites :
    (one other : List ℕ)
    → IsIncreasing one
    → IsIncreasing other
    → ((site : ℕ) → has one site ≡ has other site)
    → one ≡ other
same_sites [] [] first second same = refl
same_sites [] (site ∷ other) first second same = absurd (false≢true (same site ∙ has_first site other))
same_sites (site ∷ one) [] first second same = absurd (true≢false (sym (has_first site one) ∙ same site))
same_sites (left ∷ one) (right ∷ other) first second same =
    elim (cases_order left right) [
      | inl equal ↦
          let tails : (site : ℕ) → has one site ≡ has other site = λ site. elim (same_or_not left site) [
            | inl here ↦
                has_below one site (subst (λ (low : ℕ). AllByRecursion (λ number. low < number) one) here first.0)
                ∙ sym (has_below other site (subst (λ (low : ℕ). AllByRecursion (λ number. low < number) other) (sym equal ∙ here) second.0))
            | inr differ ↦ sym (has_behind left one site differ) ∙ same site ∙ has_behind right other site (λ here. differ (equal ∙ here))
          ] in
          λ i. equal i ∷ same_sites one other first.1 second.1 tails i
      | inr (inl less) ↦
          let above : AllByRecursion (λ number. left < number) (right ∷ other) =
          (less, AllByRecursion-weaker (λ number. right < number) (λ number. left < number) (λ number far. omega arith) other second.0) in
          absurd (true≢false (sym (has_first left one) ∙ same left ∙ has_below (right ∷ other) left above))
      | inr (inr more) ↦
          let above : AllByRecursion (λ number. right < number) (left ∷ one) =
          (more, AllByRecursion-weaker (λ number. left < number) (λ number. right < number) (λ number far. omega arith) one first.0) in
          absurd (true≢false (sym (has_first right other) ∙ sym (same right) ∙ has_below (left ∷ one) right above))
    ]

pub same_truth : (one other : Bool) → (IsTrue one → IsTrue other) → (IsTrue other → IsTrue one) → one ≡ other
same_truth true true there back = refl
same_truth false false there back = refl
same_truth true false there back = absurd (false≢true (there refl))
same_truth false true there back = absurd (false≢true (back refl))

-- ---- one set

must_of_is_one :
    (s : PlanScope) (at : ℕ) (point : Point) (state : State) (sites also : List ℕ)
    → IsMustOf s at point state sites
    → IsMustOf s at point state also
    → sites ≡ also
must_of_is_one s at point state sites also one other =
    same_sites sites also one.order other.order (λ site. same_truth (has sites site) (has also site) (one.least (has also) other.asked other.closed site) (other.least (has sites) one.asked one.closed site))

pub must_is_one :
    (s : PlanScope) (at : ℕ) (state : State) (sites also : List ℕ)
    → IsMust s at state sites
    → IsMust s at state also
    → sites ≡ also
must_is_one s at state sites also one other = go (point_at s.flat at) one other where
  go : (found : Option Point) → IsMustIn s at found state sites → IsMustIn s at found state also → sites ≡ also
  go None one other = one ∙ sym other
  go (Some point) one other = must_of_is_one s at point state sites also one other

-- ---- a greater state

-- what is made in the greater state, or is asked there
gone_or_asked : State → List ℕ → ℕ → Bool
gone_or_asked high also site = absent high site || has also site

grown_of :
    (s : PlanScope) (at : ℕ) (point : Point) (low high : State) (sites also : List ℕ)
    → IsState low
    → IsBelow low high
    → IsMustOf s at point low sites
    → IsMustOf s at point high also
    → (site : ℕ)
    → IsTrue (has sites site)
    → IsTrue (gone_or_asked high also site)
unfolding gone_or_asked
grown_of s at point low high sites also is_low below low_must high_must = low_must.least (gone_or_asked high also) asked closed where
  is_without : high ≡ without low (absent high)
  is_without = below_is_without low high is_low below

  low_closed : IsClosed (absent high) low.objects
  low_closed = below_is_closed low high is_low below

  asked : (site : ℕ) → IsAsked s at point low site → IsTrue (gone_or_asked high also site)
  asked site asks = elim (cases_Bool (absent high site)) [
    | inl gone ↦ or_left (absent high site) (has also site) gone
    | inr kept ↦ or_right (absent high site) (has also site) (high_must.asked site (subst (λ (state : State). IsAsked s at point state site) (sym is_without) (asked_behind s at point low (absent high) low_closed asks kept)))
  ]

  closed : IsClosed (gone_or_asked high also) low.objects
  closed = λ from to edge one. elim (cases_Bool (absent high to)) [
    | inl gone ↦ or_left (absent high to) (has also to) gone
    | inr kept ↦ elim (cases_Bool (absent high from)) [
      | inl gone ↦ absurd (both_ways (absent high to) kept (low_closed from to edge gone))
      | inr stays ↦ elim (or_cases (absent high from) (has also from) one) [
        | inl gone ↦ absurd (both_ways (absent high from) stays gone)
        | inr among ↦ or_right (absent high to) (has also to) (high_must.closed from to (subst (λ (state : State). IsEdge state.objects from to) (sym is_without) (edge_behind (absent high) low.objects from to edge stays kept)) among)
      ]
    ]
  ]

pub must_grown :
    (s : PlanScope) (at : ℕ) (low high : State) (sites also : List ℕ)
    → IsState low
    → IsBelow low high
    → IsMust s at low sites
    → IsMust s at high also
    → (site : ℕ)
    → IsTrue (has sites site)
    → IsTrue (is_present high.objects site)
    → IsTrue (has also site)
unfolding gone_or_asked
must_grown s at low high sites also is_low below low_must high_must site among present = go (point_at s.flat at) low_must high_must where
  go : (found : Option Point) → IsMustIn s at found low sites → IsMustIn s at found high also → IsTrue (has also site)
  go None low_must high_must = absurd (false≢true (subst (λ (list : List ℕ). IsTrue (has list site)) low_must among))
  go (Some point) low_must high_must = elim (or_cases (absent high site) (has also site) (grown_of s at point low high sites also is_low below low_must high_must site among)) [
    | inl gone ↦ absurd (both_ways (is_present high.objects site) (not-true (is_present high.objects site) gone) present)
    | inr also_asked ↦ also_asked
  ]
