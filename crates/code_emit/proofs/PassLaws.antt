-- The blocks of all points, point by point.
use Rattle.std.proofs.Common.{◌≡◌, ◌≢◌, ◌+◌, ◌<◌, ◌≤◌, ℕ, zero, suc, List, [], ◌∷◌, ◌++◌, drop, length, slice_get, Option, Some, None, refl, sym, ap, subst, ◌∙◌, arith}
use Rattle.std.proofs.lemmas.List.{drop_all}
use Rattle.std.proofs.lemmas.Option.{none-some, same_Some}
use Rattle.class_model.specs.Laws.Lists.{drop_item}
use Rattle.class_tree.specs.Headers.{Name}
use Rattle.code_drafts.specs.Drafts.{all_items}
use Rattle.code_drafts.specs.Emits.{Writing}
use Rattle.code_drafts.specs.Writable.{AreMeant, IsWritable, scope}
use Rattle.code_emit.proofs.DraftedLaws.{first_full, then_full, to_end, to_first, to_full, to_more, writes_both}
use Rattle.code_emit.specs.Inner.DraftedBlocks.{WritesTo}
use Rattle.code_emit.specs.Inner.PassBlocks.{AllBlocks, AreAllFull, IsUntouched, WritesAll}
use Rattle.code_emit.specs.Inner.ReachedPoints.{AreBlocksFull, BlocksOf, IsReached, WritesAt}
use Rattle.code_emit.specs.declared.drafts.Drafts.{Drafts}
use Rattle.flow_code.specs.declared.point.Point.{Point}
use Rattle.flow_code.specs.declared.reason.Reason.{Reason}
use Rattle.materialise.specs.Growing.{IsFull}
use Rattle.member_link.specs.Machine.Programs.{Links}
use Rattle.plan_flow.specs.Laws.RoutedPlans.{IsRouteOf, route_at, route_of}
use Rattle.plan_flow.specs.PlanScope.{PlanScope}
use Rattle.plan_flow.specs.Plans.{Plan, PlannedPoint, planned}
use Rattle.plan_flow.specs.Written.Blocks.{Block, of_reached}
use Rattle.plan_flow.specs.Written.Routes.{AreRoutes, IsRouted, Route, Routes}
use Rattle.plan_flow.specs.Written.WrittenConstants.{code_needs}
use Rattle.pool_edit.specs.Edits.{Edit}

-- ---- the part of a point among those of all

as_many : (s : PlanScope) (at : ℕ) (plan : Plan) (routes : Routes) → AreRoutes s at plan routes → length plan ≡ length routes
as_many s at [] [] are = refl
as_many s at [] (route ∷ routes) are = absurd are
as_many s at (None ∷ plan) [] are = absurd are
as_many s at (Some point ∷ plan) [] are = absurd are
as_many s at (None ∷ plan) (None ∷ routes) are = ap suc (as_many s (suc at) plan routes are)
as_many s at (None ∷ plan) (Some route ∷ routes) are = absurd are
as_many s at (Some point ∷ plan) (None ∷ routes) are = absurd are
as_many s at (Some point ∷ plan) (Some route ∷ routes) are = ap suc (as_many s (suc at) plan routes are.1)

some_item : {A : Type 0} (items : List A) (number : ℕ) → number < length items → (item : A) × (slice_get items number ≡ Some item)
some_item [] number low = absurd (omega (arith, low))
some_item (item ∷ items) zero low = (item, refl)
some_item (item ∷ items) (suc number) low = some_item items number (omega (arith, low))

abbrev left_from : (ℕ → Point → Route → List Block) → ℕ → List Point → Routes → List Block
left_from blocks at points routes = of_reached blocks at (drop at points) (drop at routes)

skipped : (blocks : ℕ → Point → Route → List Block) (at : ℕ) (points : List Point) (routes : Routes) (point : Point)
    → slice_get points at ≡ Some point
    → slice_get routes at ≡ Some None
    → left_from blocks at points routes ≡ left_from blocks (at + 1) points routes
skipped blocks at points routes point is none =
    ap (λ (list : List Point). of_reached blocks at list (drop at routes)) (drop_item points at point is)
    ∙ ap (λ (list : Routes). of_reached blocks at (point ∷ drop (at + 1) points) list) (drop_item routes at None none)
    ∙ ap (λ (n : ℕ). of_reached blocks n (drop (at + 1) points) (drop (at + 1) routes)) (omega arith)

parted : (blocks : ℕ → Point → Route → List Block) (at : ℕ) (points : List Point) (routes : Routes) (point : Point) (route : Route)
    → slice_get points at ≡ Some point
    → slice_get routes at ≡ Some (Some route)
    → left_from blocks at points routes ≡ blocks at point route ++ left_from blocks (at + 1) points routes
parted blocks at points routes point route is is_route =
    ap (λ (list : List Point). of_reached blocks at list (drop at routes)) (drop_item points at point is)
    ∙ ap (λ (list : Routes). of_reached blocks at (point ∷ drop (at + 1) points) list) (drop_item routes at (Some route) is_route)
    ∙ ap (λ (n : ℕ). blocks at point route ++ of_reached blocks n (drop (at + 1) points) (drop (at + 1) routes)) (omega arith)

none_reached : (blocks : ℕ → Point → Route → List Block) (at : ℕ) (points : List Point) (routes : Routes)
    → length points ≤ at
    → left_from blocks at points routes ≡ []
none_reached blocks at points routes high = ap (λ (list : List Point). of_reached blocks at list (drop at routes)) (drop_all at points high)

-- ---- the points that are left

-- what a point is: reached, with its route, or not
data IsPoint (s : PlanScope) (plan : Plan) (at : ℕ) (routes : Routes) (point : Point) : Type 0 where
  at_none : planned plan at ≡ None → slice_get routes at ≡ Some None → IsPoint s plan at routes point
  at_some : (route : Route)
      → slice_get routes at ≡ Some (Some route)
      → IsRouteOf s plan at at route
      → IsPoint s plan at routes point

which : (s : PlanScope) (plan : Plan) (at : ℕ) (routes : Routes) (point : Point)
    → IsRouted s plan routes
    → at < length routes
    → IsPoint s plan at routes point
which s plan at routes point routed low =
    let there = some_item routes at low in
    by there.0 there.1 where
      by : (found : Option Route) → slice_get routes at ≡ Some found → IsPoint s plan at routes point
      by None is = at_none (unplanned (planned plan at) refl) is where
        unplanned : (found : Option PlannedPoint) → planned plan at ≡ found → planned plan at ≡ None
        unplanned None none = none
        unplanned (Some one) some =
            let has = route_at s 0 plan routes at one routed some in
            absurd (none-some has.route (same_Some None (Some has.route) (sym is ∙ has.is_route)))
      by (Some route) is =
          let found = route_of s 0 plan routes at route routed is in
          at_some route is (subst (λ (n : ℕ). IsRouteOf s plan at n route) (omega arith) found)

pub record WritesPointsTo (w : Writing) (of : BlocksOf) (at : ℕ) (old now : Edit) (before between : Drafts) : Type 0 where
  pub each :
      (links : Links) (constructor : Name → List ℕ) (routes : Routes)
      → AreMeant w links constructor
      → IsRouted (scope w links) w.plan routes
      → WritesTo (scope w links) constructor old (left_from (of (scope w links)) 0 w.flat.points routes) (left_from (of (scope w links)) at w.flat.points routes) now before between

pub points_first : (w : Writing) (of : BlocksOf) (edit : Edit) (drafts : Drafts) → WritesPointsTo w of 0 edit edit drafts drafts
points_first w of edit drafts = record {
  each = λ links constructor routes meant routed. to_first (scope w links) constructor edit (left_from (of (scope w links)) 0 w.flat.points routes) drafts;
}

module _ (w : Writing) (can : IsWritable w) (of : BlocksOf) where
  abbrev from : PlanScope → ℕ → Routes → List Block
  from s at routes = left_from (of s) at s.flat.points routes

  module _ (at : ℕ) (links : Links) (constructor : Name → List ℕ) (routes : Routes) (meant : AreMeant w links constructor)
      (routed : IsRouted (scope w links) w.plan routes) where
    here : (point : Point) (low : at < length w.flat.points) → IsPoint (scope w links) w.plan at routes point
    here point low =
        let valid = can.valid links meant.is_links in
        let same = as_many (scope w links) 0 w.plan routes routed in
        let points = valid.points in
        which (scope w links) w.plan at routes point routed (omega (arith, low, same, points))

    reached : (point : Point) (route : Route) → slice_get w.flat.points at ≡ Some point → IsRouteOf (scope w links) w.plan at at route
        → IsReached w links constructor at point route
    reached point route is is_route =
        record { meant = meant; there = is; here = record { point = is_route.point; reached = is_route.reached; is = is_route.is } }

    one_more : (old now new : Edit) (before between after : Drafts) (point : Point)
        → slice_get w.flat.points at ≡ Some point
        → IsPoint (scope w links) w.plan at routes point
        → WritesTo (scope w links) constructor old (from (scope w links) 0 routes) (from (scope w links) at routes) now before between
        → WritesAt w at of now new between after
        → (planned w.plan at ≡ None → IsUntouched now new between after)
        → WritesTo (scope w links) constructor old (from (scope w links) 0 routes) (from (scope w links) (at + 1) routes) new before after
    one_more old now new before between after point is (at_none none is_none) so_far writes unreached =
        let same = unreached none in
        let s = scope w links in
        subst (λ (edit : Edit). WritesTo s constructor old (from s 0 routes) (from s (at + 1) routes) edit before after) (sym same.pool)
        (subst (λ (drafts : Drafts). WritesTo s constructor old (from s 0 routes) (from s (at + 1) routes) now before drafts) (sym same.drafts)
        (subst (λ (blocks : List Block). WritesTo s constructor old (from s 0 routes) blocks now before between)
        (skipped (of s) at s.flat.points routes point is is_none) so_far))
    one_more old now new before between after point is (at_some route is_route found) so_far writes unreached =
        let s = scope w links in
        to_more s constructor old now new (from s 0 routes) (from s at routes) (of s at point route) (from s (at + 1) routes) before between after
        so_far (parted (of s) at s.flat.points routes point route is is_route)
        (writes.each links constructor point route (reached point route is found))

    one_full : (old now : Edit) (before between : Drafts) (reason : Reason) (point : Point)
        → slice_get w.flat.points at ≡ Some point
        → IsPoint (scope w links) w.plan at routes point
        → WritesTo (scope w links) constructor old (from (scope w links) 0 routes) (from (scope w links) at routes) now before between
        → planned w.plan at ≢ None
        → AreBlocksFull w at of now reason
        → IsFull old (code_needs (scope w links) constructor (all_items (from (scope w links) 0 routes))) reason
    one_full old now before between reason point is (at_none none is_none) so_far some full = absurd (some none)
    one_full old now before between reason point is (at_some route is_route found) so_far some full =
        let s = scope w links in
        to_full s constructor old now (from s 0 routes) (from s at routes) (of s at point route) (from s (at + 1) routes) before between reason
        so_far (parted (of s) at s.flat.points routes point route is is_route)
        (full.each links constructor point route (reached point route is found))

  abbrev all_of : AllBlocks
  all_of s routes = of_reached (of s) 0 s.flat.points routes

  pub points_more : (at : ℕ) (old now new : Edit) (before between after : Drafts)
      → at < length w.flat.points
      → WritesPointsTo w of at old now before between
      → WritesAt w at of now new between after
      → (planned w.plan at ≡ None → IsUntouched now new between after)
      → WritesPointsTo w of (at + 1) old new before after
  points_more at old now new before between after low so_far writes unreached = record {
    each = λ links constructor routes meant routed.
        let point = some_item w.flat.points at low in
        one_more at links constructor routes meant routed old now new before between after point.0 point.1
        (here at links constructor routes meant routed point.0 low) (so_far.each links constructor routes meant routed) writes unreached;
  }

  pub points_full : (at : ℕ) (old now : Edit) (before between : Drafts) (reason : Reason)
      → at < length w.flat.points
      → WritesPointsTo w of at old now before between
      → planned w.plan at ≢ None
      → AreBlocksFull w at of now reason
      → AreAllFull w all_of old reason
  points_full at old now before between reason low so_far some full = record {
    each = λ links constructor routes meant routed.
        let point = some_item w.flat.points at low in
        one_full at links constructor routes meant routed old now before between reason point.0 point.1
        (here at links constructor routes meant routed point.0 low) (so_far.each links constructor routes meant routed) some full;
  }

  pub points_end : (at : ℕ) (old now : Edit) (before between : Drafts)
      → length w.flat.points ≤ at
      → WritesPointsTo w of at old now before between
      → WritesAll w all_of old now before between
  points_end at old now before between high so_far = record {
    each = λ links constructor routes meant routed.
        let s = scope w links in
        to_end s constructor old now (from s 0 routes) (from s at routes) before between (so_far.each links constructor routes meant routed)
        (none_reached (of s) at s.flat.points routes high);
  }

-- ---- passes

module _ (w : Writing) (front back : AllBlocks) where
  abbrev pub both_passes : AllBlocks
  both_passes s routes = front s routes ++ back s routes

  pub both_passed : (first middle last : Edit) (before between after : Drafts)
      → WritesAll w front first middle before between
      → WritesAll w back middle last between after
      → WritesAll w both_passes first last before after
  both_passed first middle last before between after one other = record {
    each = λ links constructor routes meant routed.
        writes_both (scope w links) constructor first middle last (front (scope w links) routes) (back (scope w links) routes) before between after
        (one.each links constructor routes meant routed) (other.each links constructor routes meant routed);
  }

  pub first_pass_full : (edit : Edit) (reason : Reason) → AreAllFull w front edit reason → AreAllFull w both_passes edit reason
  first_pass_full edit reason full = record {
    each = λ links constructor routes meant routed.
        first_full (scope w links) constructor edit (front (scope w links) routes) (back (scope w links) routes) reason
        (full.each links constructor routes meant routed);
  }

  pub then_pass_full : (first middle : Edit) (before between : Drafts) (reason : Reason)
      → WritesAll w front first middle before between
      → AreAllFull w back middle reason
      → AreAllFull w both_passes first reason
  then_pass_full first middle before between reason one full = record {
    each = λ links constructor routes meant routed.
        then_full (scope w links) constructor first middle (front (scope w links) routes) (back (scope w links) routes) before between reason
        (one.each links constructor routes meant routed) (full.each links constructor routes meant routed);
  }
