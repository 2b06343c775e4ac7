-- First ways to a point: up to its end no typed point of such a way has the type of the object that the point makes.
use Rattle.std.proofs.Common.{◌≡◌, ◌≢◌, ◌⊎◌, ◌==◌, ◌≤◌, ◌<◌, ℕ, not, Bool, true, false, List, [], ◌∷◌, map, Some, refl, sym, ap, subst, ◌∙◌, inl, inr, slice_get, arith}
use Rattle.std.specs.List.{AllByRecursion}
use Rattle.std.proofs.lemmas.Bool.{eq-eqb, eqb-true, false≢true}
use Rattle.class_model.specs.declared.frame.VType.{VType}
use Rattle.class_model.specs.declared.frame.VType.TheVariants as types
use Rattle.class_model.specs.Checks.{AllHold}
use Rattle.class_tree.specs.Headers.{Classes, headers_of}
use Rattle.class_tree.specs.Hierarchy.{IsHierarchy}
use Rattle.class_tree.specs.Steps.{step_checks}
use Rattle.expanded_code.specs.CandidateSites.{HasCandidateSites}
use Rattle.flow_code.specs.FlatCode.{FlatCode, point_at}
use Rattle.flow_code.specs.ReadTypes.{read_type}
use Rattle.flow_code.specs.declared.point.Point.{Point}
use Rattle.member_link.specs.Machine.Links.{AreLinksOf}
use Rattle.member_link.specs.Machine.Programs.{Links}
use Rattle.member_link.specs.Scope.{Scope}
use Rattle.plan_flow.specs.PlanScope.{PlanScope, scope_of}
use Rattle.plan_flow.specs.Plans.{IsLedTo, IsValid, MadeEdge, Plan, PlannedPoint, at_start, over_edge, planned}
use Rattle.same_runs.specs.ReadyCode.{IsReadyCode}
use Rattle.written_types.proofs.OtherRows.{Other}
use Rattle.written_types.proofs.Ways.{first_fits, next_fits}
use Rattle.written_types.specs.FitsTypes.{FitsTypes, HasItsNew}

-- a way to a point along edges of a plan that passes another one at most at its end
pub data FirstWay (plan : Plan) (place : ℕ) : ℕ → Type 0 where
  begins_here : FirstWay plan place 0
  goes_over : (from number : ℕ) (point : PlannedPoint) (edge : MadeEdge)
      → FirstWay plan place from
      → from ≢ place
      → planned plan from ≡ Some point
      → slice_get point.edges number ≡ Some edge
      → FirstWay plan place edge.to

some_first : (plan : Plan) (place at : ℕ) → IsLedTo plan at → FirstWay plan place at ⊎ FirstWay plan place place
some_first plan place _ at_start = inl begins_here
some_first plan place _ (over_edge from number point edge led is there) = by (some_first plan place from led) where
  tested : (b : Bool) → (from == place) ≡ b → FirstWay plan place from → FirstWay plan place edge.to ⊎ FirstWay plan place place
  tested true same way = inr (subst (FirstWay plan place) (eqb-true from place same) way)
  tested false apart way =
      inl (goes_over from number point edge way (λ same. false≢true (sym apart ∙ eq-eqb from place same)) is there)

  by : FirstWay plan place from ⊎ FirstWay plan place place → FirstWay plan place edge.to ⊎ FirstWay plan place place
  by (inl way) = tested (from == place) refl way
  by (inr way) = inr way

-- a point that is led to has a first way to it
pub first_way : (plan : Plan) (place : ℕ) → IsLedTo plan place → FirstWay plan place place
first_way plan place led = by (some_first plan place place led) where
  by : FirstWay plan place place ⊎ FirstWay plan place place → FirstWay plan place place
  by (inl way) = way
  by (inr way) = way

-- from a point on, edges to points up to a place come from points between
pub record ComesOver (plan : Plan) (low place : ℕ) : Type 0 where
  pub back : (from number : ℕ) (point : PlannedPoint) (edge : MadeEdge)
      → planned plan from ≡ Some point
      → slice_get point.edges number ≡ Some edge
      → low < edge.to
      → edge.to ≤ place
      → low ≤ from × (from < edge.to)

-- so a first way to the place leads over the point
way_over : (plan : Plan) (low place : ℕ) → ComesOver plan low place → (at : ℕ) → FirstWay plan place at → low ≤ at → at ≤ place
    → FirstWay plan place low
way_over plan low place comes _ begins_here above few =
    let same : 0 ≡ low = omega (arith, above) in subst (FirstWay plan place) same begins_here
way_over plan low place comes _ (goes_over from number point edge way apart is there) above few =
    by (low == edge.to) refl (λ more.
    let back = comes.back from number point edge is there more few in
    way_over plan low place comes from way back.0 (let less = back.1 in omega (arith, less, few)))
  where
    by : (b : Bool) → (low == edge.to) ≡ b → (low < edge.to → FirstWay plan place low) → FirstWay plan place low
    by true same rest =
        subst (FirstWay plan place) (sym (eqb-true low edge.to same)) (goes_over from number point edge way apart is there)
    by false other rest =
        rest (let unequal : low ≢ edge.to = λ same. false≢true (sym other ∙ eq-eqb low edge.to same) in omega (arith, above, unequal))

pub leads_over : (plan : Plan) (low place : ℕ) → ComesOver plan low place → low ≤ place → IsLedTo plan place → FirstWay plan place low
leads_over plan low place comes above led =
    let whole : place ≤ place = omega arith in way_over plan low place comes place (first_way plan place led) above whole

-- ---- types along first ways

module _ (classes : Classes) (links : Links) (scope : Scope) (flat : FlatCode) (plan : Plan)
    (hierarchy : IsHierarchy (headers_of classes)) (steps : AllHold (step_checks classes)) (are_links : AreLinksOf (headers_of classes) links)
    (ready : IsReadyCode classes scope flat) (candidates : HasCandidateSites classes flat) (valid : IsValid (scope_of classes links flat) plan)
    (place : ℕ) where
  abbrev s : PlanScope
  s = scope_of classes links flat

  abbrev pub elsewhere : ℕ → Bool
  elsewhere at = not (at == place)

  other_place : (at : ℕ) → at ≢ place → elsewhere at ≡ true
  other_place at apart = by (at == place) refl where
    by : (b : Bool) → (at == place) ≡ b → elsewhere at ≡ true
    by true same = absurd (apart (eqb-true at place same))
    by false other = rw other refl

  way_fits : (at : ℕ) → FirstWay plan place at → (one : PlannedPoint) → planned plan at ≡ Some one → FitsTypes s elsewhere at one.state
  way_fits _ begins_here one is =
      first_fits classes links scope flat plan hierarchy steps are_links ready candidates valid elsewhere one is
  way_fits _ (goes_over from number point edge way apart from_is edge_is) one is =
      next_fits classes links scope flat plan hierarchy steps are_links ready candidates valid elsewhere from number point edge from_is
      (other_place from apart) edge_is (way_fits from way point from_is) one is

  new_other : (type : VType) → HasItsNew s elsewhere type → Other place type
  new_other (types.Uninit at) new = λ same. false≢true (sym (ap not (eq-eqb at place same)) ∙ new.is_reached)
  new_other other new = tt

  news_other : (all : List VType) → AllByRecursion (HasItsNew s elsewhere) all → AllByRecursion (Other place) all
  news_other [] news = tt
  news_other (type ∷ all) news = (new_other type news.0, news_other all news.1)

  -- The typed point of a first way has none of the place's new.
  pub record HasNone (at : ℕ) : Type 0 where
    pub point : Point
    pub there : point_at flat at ≡ Some point
    pub locals : AllByRecursion (Other place) (map (read_type flat) point.typed.locals)
    pub stack : AllByRecursion (Other place) (map (read_type flat) point.typed.stack)

  pub way_has_none : (at : ℕ) → FirstWay plan place at → (one : PlannedPoint) → planned plan at ≡ Some one → HasNone at
  way_has_none at way one is =
      let fits = way_fits at way one is in
      record {
        point = fits.point;
        there = fits.there;
        locals = news_other (map (read_type flat) fits.point.typed.locals) fits.locals;
        stack = news_other (map (read_type flat) fits.point.typed.stack) fits.stack;
      }
