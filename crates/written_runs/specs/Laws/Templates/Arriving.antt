-- Where the second run arrives behind the block of an instruction from which control goes on to the next point.
use Rattle.std.proofs.Common.{◌≡◌, ◌<◌, ◌+◌, ◌++◌, ℕ, suc, List, [], ◌∷◌, length, slice_get, Some, None, Option, refl, sym, ap, subst, ◌∙◌, arith}
use Rattle.std.specs.Option.{option_flatten}
use Rattle.std.proofs.lemmas.List.{length-append}
use Rattle.std.proofs.lemmas.Option.{none-some, slice_get_within}
use Rattle.flow_code.specs.declared.point.Point.{Point}
use Rattle.machine_values.specs.Frames.{MethodState}
use Rattle.plan_flow.specs.Laws.RoutedPlans.{EdgeLeads, leads_of}
use Rattle.plan_flow.specs.Laws.WrittenBlocks.{blocks_left, first_block, first_item, from_point, made_next, next_part, own_number, points_from, pads_of, blocks_right, split_own}
use Rattle.plan_flow.specs.PlanScope.{PlanScope}
use Rattle.plan_flow.specs.Plans.{PlannedPoint}
use Rattle.plan_flow.specs.Written.Blocks.{Block, blocks_of, instruction_block, point_blocks}
use Rattle.plan_flow.specs.Written.Routes.{Route, RouteEdge, Routes, edge_by, is_kind}
use Rattle.plan_flow.specs.Written.WrittenPrograms.{WrittenMethod}
use Rattle.plan_flow.specs.declared.edge.EdgeKind.{EdgeKind}
use Rattle.plan_flow.specs.declared.edge.EdgeKind.TheVariants as edges
use Rattle.virtual_state.specs.Laws.Removals.{without_none}
use Rattle.virtual_state.specs.Sites.{has}
use Rattle.virtual_state.specs.States.{IsState}
use Rattle.written_runs.specs.Inner.PlannedFrames.{IsBlock, IsReached, IsTold, blocks_in, of_first, of_next, scope_in}
use Rattle.written_runs.specs.Inner.Setup.{Setup}
use Rattle.plan_flow.specs.Laws.OneEffect.{one_effect}
use Rattle.plan_flow.specs.Laws.NextEdges.{next_follows}
use Rattle.plan_flow.specs.Laws.OneEffect.{one_effect}
use Rattle.written_runs.specs.Laws.Settling.{Onwards, SettleLaws, found_edge, onwards}
use Rattle.written_runs.specs.Laws.Templates.Stacks.{drop_at}
use Rattle.written_runs.specs.WrittenRuns.{IsReadyMethod}

-- A block at which control arrives over an edge: it begins at the item of a number, with the edge's state.
pub record ArrivesAt (u : Setup) (w : WrittenMethod) (edge : RouteEdge) (place : ℕ) : Type 0 where
  pub block : Block
  pub number : ℕ
  pub is_block : IsBlock u w number block
  pub is_told : IsTold is_block
  pub at : block.at ≡ edge.to
  pub state : block.state ≡ edge.state
  pub begins : place ≡ first_item w.form (blocks_in u w) number

-- the number of the first block of the next point, where nothing is made on the way
next_number : (s : PlanScope) (routes : Routes) (at : ℕ) (point next : Point) (route onwards : Route) (edge : RouteEdge)
    → slice_get s.flat.points at ≡ Some point
    → slice_get routes at ≡ Some (Some route)
    → slice_get s.flat.points (suc at) ≡ Some next
    → slice_get routes (suc at) ≡ Some (Some onwards)
    → edge_by route edges.Next ≡ Some edge
    → edge.made ≡ []
    → suc (own_number s routes at route) ≡ length (blocks_left s routes (suc at))
next_number s routes at point next route onwards edge is is_route is_next is_onwards is_edge none =
    omega (arith, here, there, right) where
      here : length (blocks_of s routes) ≡ own_number s routes at route + suc (length (blocks_right s routes (suc at)))
      here =
          ap length (split_own s routes at point route is is_route)
          ∙ length-append _ (instruction_block s at point route ∷ _)
          ∙ rw (is_edge, none) refl

      there : length (blocks_of s routes)
          ≡ length (blocks_left s routes (suc at))
          + (length (point_blocks s (suc at) next onwards) + length (blocks_right s routes (suc (suc at))))
      there =
          ap length (from_point s routes (suc at) next onwards is_next is_onwards)
          ∙ length-append (blocks_left s routes (suc at)) (point_blocks s (suc at) next onwards ++ blocks_right s routes (suc (suc at)))
          ∙ ap (λ (n : ℕ). length (blocks_left s routes (suc at)) + n)
          (length-append (point_blocks s (suc at) next onwards) (blocks_right s routes (suc (suc at))))

      right : length (blocks_right s routes (suc at)) ≡ length (point_blocks s (suc at) next onwards) + length (blocks_right s routes (suc (suc at)))
      right =
          let all = length-append (points_from s routes (suc at)) (pads_of s routes) in
          let first = ap length (next_part (point_blocks s) (suc at) (suc at) s.flat.points routes next onwards is_next is_onwards) in
          let both = length-append (point_blocks s (suc at) next onwards) (points_from s routes (suc (suc at))) in
          let rest = length-append (points_from s routes (suc (suc at))) (pads_of s routes) in
          omega (arith, all, first, both, rest)

module _ (u : Setup) (laws : SettleLaws u) where
  -- the target of an edge of a reached point's route
  pub target_point : (f : MethodState) (w : WrittenMethod) (at : ℕ) (point : Point) (route : Route) (kind : EdgeKind) (edge : RouteEdge)
      → u.written f.at ≡ Some w
      → IsReached w at point route
      → edge_by route kind ≡ Some edge
      → (next : Point) × (slice_get w.flat.points edge.to ≡ Some next) × IsState edge.state
  target_point f w at point route kind edge written reached found = (there.0, there.1, lead.is_state) where
    ready : IsReadyMethod u.classes u.links f.at w
    ready = laws.is_setup.ready f.at w written

    number : (n : ℕ) × (slice_get route.edges n ≡ Some edge)
    number = found_edge (λ one. is_kind one.by kind) route.edges edge found

    lead : EdgeLeads (scope_in u w) ready.plan edge
    lead =
        leads_of (scope_in u w) ready.plan w.routes at point route number.0 edge (one_effect (scope_in u w)) ready.valid ready.routed
        reached.is_point reached.is_route number.1

    in_plan : (found : Option (Option PlannedPoint)) → slice_get ready.plan edge.to ≡ found → edge.to < length ready.plan
    in_plan None none = absurd (none-some lead.target (sym (ap option_flatten none) ∙ lead.reached))
    in_plan (Some planned_there) some = slice_get_within ready.plan edge.to planned_there some

    there : (next : Point) × (slice_get w.flat.points edge.to ≡ Some next)
    there =
        let low = in_plan (slice_get ready.plan edge.to) refl in
        let many = ready.valid.points in
        let found = drop_at edge.to w.flat.points (omega (arith, low, many)) in
        (found.0, found.1)

  pub arrives_next : (later : MethodState) (w : WrittenMethod) (at : ℕ) (point next : Point) (route : Route) (edge : RouteEdge)
      → u.written later.at ≡ Some w
      → IsReached w at point route
      → edge_by route edges.Next ≡ Some edge
      → edge.by ≡ edges.Next
      → later.place ≡ edge.to
      → slice_get w.flat.points edge.to ≡ Some next
      → ArrivesAt u w edge (first_item w.form (blocks_in u w) (suc (own_number (scope_in u w) w.routes at route)))
  arrives_next later w at point next route edge written reached found by_next place is_next = by edge.made refl where
    s : PlanScope
    s = scope_in u w

    here_next : slice_get w.flat.points later.place ≡ Some next
    here_next = ap (slice_get w.flat.points) place ∙ is_next

    on_to : Onwards w later.place next edge
    on_to = onwards u laws later w next at point route edges.Next edge written reached found (sym place) here_next

    follows : edge.to ≡ suc at
    follows =
        let ready = laws.is_setup.ready later.at w written in
        next_follows s ready.plan w.routes at point route edge ready.routed reached.is_point reached.is_route found

    at_next : later.place ≡ suc at
    at_next = place ∙ follows

    state_of : (made : List ℕ) → on_to.route.made ≡ made → edge.made ≡ [] → (first_block s (suc at) next on_to.route made).state ≡ edge.state
    state_of [] none nothing =
        without_none on_to.route.state (has on_to.route.made) (λ site. ap (λ (made : List ℕ). has made site) none)
        ∙ sym on_to.left
        ∙ without_none edge.state (has edge.made) (λ site. ap (λ (made : List ℕ). has made site) nothing)
    state_of (site ∷ sites) some nothing =
        sym on_to.left ∙ without_none edge.state (has edge.made) (λ site. ap (λ (made : List ℕ). has made site) nothing)

    at_of : (made : List ℕ) → (first_block s (suc at) next on_to.route made).at ≡ suc at
    at_of [] = refl
    at_of (site ∷ sites) = refl

    reached_next : IsReached w (suc at) next on_to.route
    reached_next = subst (λ (n : ℕ). IsReached w n next on_to.route) at_next on_to.reached

    by : (made : List ℕ)
        → edge.made ≡ made
        → ArrivesAt u w edge (first_item w.form (blocks_in u w) (suc (own_number s w.routes at route)))
    by [] none = record {
      block = first_block s (suc at) next on_to.route on_to.route.made;
      number = length (blocks_left s w.routes (suc at));
      is_block = of_first (suc at) next on_to.route reached_next;
      is_told = tt;
      at = at_of on_to.route.made ∙ sym follows;
      state = state_of on_to.route.made refl none;
      begins =
          ap (first_item w.form (blocks_in u w))
          (next_number s w.routes at point next route on_to.route edge reached.is_point reached.is_route reached_next.is_point reached_next.is_route
          found none);
    }
    by (site ∷ sites) some = record {
      block = made_next s at edge (site ∷ sites);
      number = suc (own_number s w.routes at route);
      is_block = of_next at point route edge site sites reached (record { found = found; by = by_next; made = some });
      is_told = tt;
      at = refl;
      state = refl;
      begins = refl;
    }
