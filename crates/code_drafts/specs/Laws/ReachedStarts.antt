-- Where edges lead in the written code of a valid plan: each to a point that is reached or to a pad, whose block stands.
use Rattle.std.proofs.Common.{◌≡◌, ◌<◌, ◌+◌, ℕ, zero, suc, Bool, true, false, List, [], ◌∷◌, length, take, slice_get, find, Option, Some, None, refl, sym, ap, subst, ◌∙◌, arith}
use Rattle.std.specs.List.{AllByRecursion}
use Rattle.std.specs.Option.{option_flatten}
use Rattle.std.proofs.lemmas.Bool.{eq-eqb, eqb-true, false≢true}
use Rattle.std.proofs.lemmas.Option.{none-some, same_Some, slice_get_within}
use Rattle.flow_code.specs.declared.handlers.FlatHandler.{FlatHandler}
use Rattle.flow_code.specs.declared.point.Point.{Point}
use Rattle.making_code.specs.Items.{WCatch, WTarget, ahead, to_handler_pad, to_jump_pad, to_point}
use Rattle.plan_flow.specs.Effect.{IsEffectIn}
use Rattle.plan_flow.specs.Laws.NextEdges.{next_follows}
use Rattle.plan_flow.specs.Laws.OneEffect.{one_effect}
use Rattle.plan_flow.specs.Laws.OpenEdges.{jump_edge, next_edge}
use Rattle.plan_flow.specs.Laws.RoutedPlans.{HasRoute, IsRouteOf, leads_of, route_at, route_of}
use Rattle.plan_flow.specs.Laws.WrittenBlocks.{block_finished, blocks_left, first_begins, first_block, first_item, first_of, starts_at}
use Rattle.plan_flow.specs.Laws.WrittenPads.{handler_pad_stands, jump_pad_stands, none_finished, pad_block}
use Rattle.plan_flow.specs.Must.{row_of_point}
use Rattle.plan_flow.specs.PlanScope.{PlanScope}
use Rattle.plan_flow.specs.PlanSlots.{is_open}
use Rattle.plan_flow.specs.PlanTable.{falls_on, targets_at}
use Rattle.plan_flow.specs.Plans.{IsValid, Plan, PlannedPoint, planned, state_left}
use Rattle.plan_flow.specs.Written.Blocks.{Block, BlockOf, blocks_of, handler_pad, is_decided, jump_pad, state_written}
use Rattle.plan_flow.specs.Written.Finish.{Finished, begins_point, finish}
use Rattle.plan_flow.specs.Written.Routes.{IsRoute, IsRouted, Route, RouteEdge, Routes, edge_by, is_kind}
use Rattle.plan_flow.specs.Written.Templates.{catches_at, catches_from, jump_targets, to_or_pad}
use Rattle.plan_flow.specs.Written.WrittenCode.{is_handler_pad, is_jump_pad, short, start_of}
use Rattle.plan_flow.specs.declared.edge.EdgeKind.{EdgeKind}
use Rattle.plan_flow.specs.declared.edge.EdgeKind.TheVariants as edges
use Rattle.virtual_state.specs.Sites.{has}
use Rattle.virtual_state.specs.States.{State}
use Rattle.virtual_state.specs.Without.{without}

-- ---- blocks that stand

abbrev pub finished : PlanScope → Routes → List Finished
finished s routes = finish s.flat (blocks_of s routes)

-- the first block of a kind, and where it starts
pub record StartsSome (s : PlanScope) (routes : Routes) (is_it : BlockOf → Bool) : Type 0 where
  pub number : ℕ
  pub block : Finished
  pub is_there : slice_get (finished s routes) number ≡ Some block
  pub starts : start_of short (finished s routes) is_it ≡ first_item short (finished s routes) number

-- a target is a block that stands
abbrev pub LeadsSome : PlanScope → Routes → WTarget → Type 0
LeadsSome s routes (to_point to) = StartsSome s routes (begins_point to)
LeadsSome s routes (to_jump_pad at number) = StartsSome s routes (is_jump_pad at number)
LeadsSome s routes (to_handler_pad at number) = StartsSome s routes (is_handler_pad at number)
LeadsSome s routes (ahead count) = ⊥

starts_some : (s : PlanScope) (routes : Routes) (is_it : BlockOf → Bool) (number : ℕ) (block : Block)
    → slice_get (blocks_of s routes) number ≡ Some block
    → is_it block.of ≡ true
    → AllByRecursion (λ (one : Block). is_it one.of ≡ false) (take number (blocks_of s routes))
    → StartsSome s routes is_it
starts_some s routes is_it number block is told none =
    let there = block_finished s.flat (blocks_of s routes) number block is in record {
      number = number;
      block = _;
      is_there = there;
      starts =
          starts_at short is_it (finished s routes) 0 number _ there told (none_finished s.flat is_it (blocks_of s routes) number none)
          ∙ zeroth (first_item short (finished s routes) number);
    } where
      zeroth : (n : ℕ) → 0 + n ≡ n
      zeroth n = omega arith

-- ---- points that are reached

pub record IsReached (s : PlanScope) (routes : Routes) (at : ℕ) : Type 0 where
  pub point : Point
  pub is_point : slice_get s.flat.points at ≡ Some point
  pub route : Route
  pub is_route : slice_get routes at ≡ Some (Some route)

pub reached_starts : (s : PlanScope) (routes : Routes) (at : ℕ) → IsReached s routes at → StartsSome s routes (begins_point at)
reached_starts s routes at reached =
    let first = first_of s routes at reached.point reached.route reached.is_point reached.is_route in
    starts_some s routes (begins_point at) (length (blocks_left s routes at)) (first_block s at reached.point reached.route reached.route.made)
    first.is_there (first_begins s at reached.point reached.route reached.route.made) first.none_before

found_edge : (wanted : RouteEdge → Bool) (all : List RouteEdge) (edge : RouteEdge) → find wanted all ≡ Some edge
    → (number : ℕ) × (slice_get all number ≡ Some edge) × (wanted edge ≡ true)
found_edge wanted [] edge is = absurd (none-some edge is)
found_edge wanted (first ∷ all) edge is = by (wanted first) refl (found_edge wanted all edge) where
  by : (here : Bool) → wanted first ≡ here
      → (find wanted all ≡ Some edge → (number : ℕ) × (slice_get all number ≡ Some edge) × (wanted edge ≡ true))
      → (number : ℕ) × (slice_get (first ∷ all) number ≡ Some edge) × (wanted edge ≡ true)
  by true told rest =
      let same = same_Some first edge (sym (rw (told) refl) ∙ is) in (0, ap Some same, ap wanted (sym same) ∙ told)
  by false told rest = let there = rest (sym (rw (told) refl) ∙ is) in (suc there.0, there.1, there.2)

of_kind : (by kind : EdgeKind) → is_kind by kind ≡ true → by ≡ kind
of_kind edges.Next edges.Next told = refl
of_kind (edges.Jump one) (edges.Jump other) told = ap edges.Jump (eqb-true one other told)
of_kind (edges.Handler one) (edges.Handler other) told = ap edges.Handler (eqb-true one other told)
of_kind edges.Next (edges.Jump other) told = absurd (false≢true told)
of_kind edges.Next (edges.Handler other) told = absurd (false≢true told)
of_kind (edges.Jump one) edges.Next told = absurd (false≢true told)
of_kind (edges.Jump one) (edges.Handler other) told = absurd (false≢true told)
of_kind (edges.Handler one) edges.Next told = absurd (false≢true told)
of_kind (edges.Handler one) (edges.Jump other) told = absurd (false≢true told)

module _ (s : PlanScope) (plan : Plan) (routes : Routes) (valid : IsValid s plan) (routed : IsRouted s plan routes) where
  pub reached_point : (at : ℕ) (target : PlannedPoint) → planned plan at ≡ Some target → IsReached s routes at
  reached_point at target is = by (slice_get s.flat.points at) refl where
    there : HasRoute s routes at (0 + at) target
    there = route_at s 0 plan routes at target routed is

    no_target : (found : Option (Option PlannedPoint)) → slice_get plan at ≡ found → at < length plan
    no_target None none = absurd (none-some target (sym (ap option_flatten none) ∙ is))
    no_target (Some one) some = slice_get_within plan at one some

    absent : (points : List Point) (place : ℕ) → place < length points → slice_get points place ≡ None → ⊥
    absent [] place within none = absurd (omega (arith, within))
    absent (first ∷ points) zero within none = none-some first (sym none)
    absent (first ∷ points) (suc place) within none = absent points place (omega (arith, within)) none

    by : (point : Option Point) → slice_get s.flat.points at ≡ point → IsReached s routes at
    by None none =
        let low = no_target (slice_get plan at) refl in
        let long = valid.points in absurd (absent s.flat.points at (omega (arith, low, long)) none)
    by (Some point) some = record { point = point; is_point = some; route = there.route; is_route = there.is_route }

  -- ---- edges of a reached point

  module _ (at : ℕ) (point : Point) (route : Route) (is_point : slice_get s.flat.points at ≡ Some point)
      (is_route : slice_get routes at ≡ Some (Some route)) where
    there : IsRouteOf s plan at at route
    there =
        let all = route_of s 0 plan routes at route routed is_route in
        record { point = all.point; reached = all.reached; is = subst (λ (n : ℕ). IsRoute s n all.point route) (omega arith) all.is }

    same_state : state_left there.point ≡ state_written route
    same_state =
        ap (λ (state : State). without state (has there.point.made)) (sym there.is.state)
        ∙ ap (λ (made : List ℕ). without route.state (has made)) (sym there.is.made)

    effect_here : IsEffectIn s at (Some point) (state_written route) there.is.effect
    effect_here =
        subst (λ (state : State). IsEffectIn s at (Some point) state there.is.effect) same_state
        (subst (λ (found : Option Point). IsEffectIn s at found (state_left there.point) there.is.effect) is_point there.is.is_effect)

    -- each leads to a point that is reached
    pub edge_reaches : (kind : EdgeKind) (edge : RouteEdge) → edge_by route kind ≡ Some edge → IsReached s routes edge.to
    edge_reaches kind edge found =
        let number = found_edge (λ one. is_kind one.by kind) route.edges edge found in
        let lead = leads_of s plan routes at point route number.0 edge (one_effect s) valid routed is_point is_route number.1 in
        reached_point edge.to lead.target lead.reached

    pub edge_at_reaches : (number : ℕ) (edge : RouteEdge) → slice_get route.edges number ≡ Some edge → IsReached s routes edge.to
    edge_at_reaches number edge is =
        let lead = leads_of s plan routes at point route number edge (one_effect s) valid routed is_point is_route is in
        reached_point edge.to lead.target lead.reached

    pub edge_kind : (kind : EdgeKind) (edge : RouteEdge) → edge_by route kind ≡ Some edge → edge.by ≡ kind
    edge_kind kind edge found = of_kind edge.by kind (found_edge (λ one. is_kind one.by kind) route.edges edge found).2

    pub next_reached : (edge : RouteEdge) → edge_by route edges.Next ≡ Some edge → IsReached s routes (suc at)
    next_reached edge found =
        subst (IsReached s routes) (next_follows s plan routes at point route edge routed is_point is_route found)
        (edge_reaches edges.Next edge found)

    -- where control falls on, the next point is reached
    pub falls_to : falls_on point.instr ≡ true → is_open (state_written route) (row_of_point s at point).next ≡ true → IsReached s routes (suc at)
    falls_to falls opens =
        let next = next_edge s point at (state_written route) there.is.effect there.point.edges route effect_here there.is.edges falls opens in
        next_reached next.0 next.1

    pub jumps_there : (number to : ℕ) → slice_get (targets_at point.instr) number ≡ Some to
        → is_open (state_written route) (row_of_point s at point).jump ≡ true
        → (edge : RouteEdge) × (edge_by route (edges.Jump number) ≡ Some edge)
    jumps_there number to is opens =
        let jump = jump_edge s point at (state_written route) there.is.effect there.point.edges route effect_here there.is.edges number to is opens in
        (jump.0, jump.1)

    -- ---- targets

    jump_leads : (number : ℕ) (edge : RouteEdge) → is_decided point route ≡ false → edge_by route (edges.Jump number) ≡ Some edge
        → LeadsSome s routes (to_or_pad edge.made (to_point edge.to) (to_jump_pad at number))
    jump_leads number edge undecided found = by edge.made refl where
      by : (made : List ℕ) → edge.made ≡ made → LeadsSome s routes (to_or_pad made (to_point edge.to) (to_jump_pad at number))
      by [] is = reached_starts s routes edge.to (edge_reaches (edges.Jump number) edge found)
      by (site ∷ sites) is =
          let stands = jump_pad_stands s routes at number point route edge site sites is_point is_route undecided found
          (edge_kind (edges.Jump number) edge found) is in
          starts_some s routes (is_jump_pad at number) stands.0 (pad_block s (jump_pad at number) edge (site ∷ sites)) stands.1.is_there
          (rw (eq-eqb at at refl, eq-eqb number number refl) refl) stands.1.none_before

    handler_leads : (number : ℕ) (edge : RouteEdge) → edge_by route (edges.Handler number) ≡ Some edge
        → LeadsSome s routes (to_or_pad edge.made (to_point edge.to) (to_handler_pad at number))
    handler_leads number edge found = by edge.made refl where
      by : (made : List ℕ) → edge.made ≡ made → LeadsSome s routes (to_or_pad made (to_point edge.to) (to_handler_pad at number))
      by [] is = reached_starts s routes edge.to (edge_reaches (edges.Handler number) edge found)
      by (site ∷ sites) is =
          let stands = handler_pad_stands s routes at number point route edge site sites is_point is_route found
          (edge_kind (edges.Handler number) edge found) is in
          starts_some s routes (is_handler_pad at number) stands.0 (pad_block s (handler_pad at number) edge (site ∷ sites)) stands.1.is_there
          (rw (eq-eqb at at refl, eq-eqb number number refl) refl) stands.1.none_before

    -- each handler of an instruction
    pub catches_lead : AllByRecursion (λ (catch : WCatch). LeadsSome s routes catch.to) (catches_at at point route)
    catches_lead = of_handlers 0 point.handlers where
      of_handlers : (number : ℕ) (handlers : List FlatHandler)
          → AllByRecursion (λ (catch : WCatch). LeadsSome s routes catch.to) (catches_from at route number handlers)
      of_handlers number [] = tt
      of_handlers number (handler ∷ handlers) = by (edge_by route (edges.Handler number)) refl (of_handlers (suc number) handlers) where
        by : (edge : Option RouteEdge) → edge_by route (edges.Handler number) ≡ edge
            → AllByRecursion (λ (catch : WCatch). LeadsSome s routes catch.to) (catches_from at route (suc number) handlers)
            → AllByRecursion (λ (catch : WCatch). LeadsSome s routes catch.to) (catches_from at route number (handler ∷ handlers))
        by None none rest = rw (none) rest
        by (Some edge) some rest = rw (some) (handler_leads number edge some, rest)

    -- and each target, where control may take each jump and none is decided
    pub jumps_lead : (all : List ℕ)
        → ((number to : ℕ) → slice_get all number ≡ Some to → (edge : RouteEdge) × (edge_by route (edges.Jump number) ≡ Some edge))
        → ((number to : ℕ) → slice_get all number ≡ Some to → is_decided point route ≡ false)
        → AllByRecursion (LeadsSome s routes) (jump_targets at route 0 all)
    jumps_lead all there undecided =
        from 0 all (λ number to is. subst (λ (n : ℕ). (edge : RouteEdge) × (edge_by route (edges.Jump n) ≡ Some edge)) (plus number)
        (there number to is))
        undecided where
          plus : (n : ℕ) → n ≡ 0 + n
          plus n = omega arith

          from : (first : ℕ) (targets : List ℕ)
              → ((number to : ℕ) → slice_get targets number ≡ Some to → (edge : RouteEdge)
              × (edge_by route (edges.Jump (first + number)) ≡ Some edge))
              → ((number to : ℕ) → slice_get targets number ≡ Some to → is_decided point route ≡ false)
              → AllByRecursion (LeadsSome s routes) (jump_targets at route first targets)
          from first [] each none = tt
          from first (to ∷ targets) each none = (
            rw (here.1) (jump_leads first here.0 (none 0 to refl) here.1),
            from (suc first) targets (λ number other is.
                subst (λ (n : ℕ). (edge : RouteEdge) × (edge_by route (edges.Jump n) ≡ Some edge)) (next number) (each (suc number) other is))
                (λ number other is. none (suc number) other is),
          ) where
            next : (n : ℕ) → first + suc n ≡ suc first + n
            next n = omega arith

            here : (edge : RouteEdge) × (edge_by route (edges.Jump first) ≡ Some edge)
            here = subst (λ (n : ℕ). (edge : RouteEdge) × (edge_by route (edges.Jump n) ≡ Some edge)) (none_more first) (each 0 to refl) where
              none_more : (n : ℕ) → n + 0 ≡ n
              none_more n = omega arith
