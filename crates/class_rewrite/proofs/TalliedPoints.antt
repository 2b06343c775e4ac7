-- The objects of sites that written code makes are those of its plan.
use Rattle.std.proofs.Common.{if◌then◌else◌, ◌≡◌, ◌+◌, ℕ, suc, Bool, true, false, List, [], ◌∷◌, ◌++◌, length, slice_get, Option, Some, None, refl, sym, ap, subst, ◌∙◌, arith, flat_map}
use Rattle.std.specs.List.{AllByRecursion}
use Rattle.std.proofs.lemmas.Bool.{false≢true}
use Rattle.class_model.specs.Instructions.{targets}
use Rattle.class_model.specs.declared.frame.Frame.{Frame}
use Rattle.class_model.specs.declared.instr.Instr.{Instr}
use Rattle.class_model.specs.declared.instr.Instr.TheVariants.{Nop, Const, Ldc, Ldc2, Load, Store, Iinc, ArrayLoad, ArrayStore, Shuffle, Pure, Divide, FloatAsk, If, If2, IfSame, IfNull, Goto, Table, Lookup, Return, GetStatic, PutStatic, GetField, PutField, Invoke, Dynamic, New, NewArray, NewRefArray, NewMulti, Length, Throw, Cast, InstanceOf, Enter, Leave}
use Rattle.class_rewrite.proofs.TalliedEdges.{AtMost, at_most_kept, by_kinds, first_row, found_tallied, handlers_tallied, is_first, is_jump, is_next, jumps_tallied, kinds, kinds_kept, one_first_row, one_next_row, row_kinds, same_kinds, weighed_alike, weight, weights, weights_of}
use Rattle.class_rewrite.proofs.TalliedItems.{items_same, none_named, on_item, on_place, written_same}
use Rattle.class_rewrite.proofs.TalliedOrders.{order_tallied}
use Rattle.class_rewrite.proofs.Tallies.{tally, tally_both}
use Rattle.class_rewrite.specs.Inner.MadeSites.{made_on, made_there, made_to}
use Rattle.class_tree.specs.Headers.{Name}
use Rattle.code_drafts.specs.ItemPlaces.{own_places, point_places_by}
use Rattle.code_drafts.specs.Laws.GoingOn.{decided, decided_is}
use Rattle.code_drafts.specs.Laws.PlacedBlocks.{placed_by}
use Rattle.code_drafts.specs.Laws.ReachedStarts.{finished}
use Rattle.code_drafts.specs.Laws.SitesInside.{AreInside, effect_inside, fewer_inside, reached_inside}
use Rattle.flow_code.specs.declared.point.FlatInstr.{FlatInstr}
use Rattle.flow_code.specs.declared.point.FlatInstr.TheVariants.{Of, NullTest}
use Rattle.flow_code.specs.declared.point.Point.{Point}
use Rattle.flow_code.specs.declared.point.Site.{Site}
use Rattle.plan_flow.specs.Effect.{AreEdges, IsEffectIn}
use Rattle.plan_flow.specs.Laws.RoutedPlans.{HasOneEffect, differing_is_made, edge_states}
use Rattle.plan_flow.specs.Must.{open_edges, row_of_point}
use Rattle.plan_flow.specs.PlanRows.{PlanRow, RowEdge}
use Rattle.plan_flow.specs.PlanScope.{PlanScope, site_at}
use Rattle.plan_flow.specs.PlanSlots.{held, is_open}
use Rattle.plan_flow.specs.PlanTable.{edges_of, operand, targets_at}
use Rattle.plan_flow.specs.Plans.{AllLead, IsMadeIn, IsValid, IsValidAt, MadeEdge, Plan, PlannedPoint, planned, state_left}
use Rattle.plan_flow.specs.Written.Blocks.{is_decided, state_written}
use Rattle.plan_flow.specs.Written.Places.{edge_places, enters_monitor, handler_places, jump_pad_places, jump_places, made_places, new_places, of_reached}
use Rattle.plan_flow.specs.Written.Routes.{AreEdgeRoutes, AreRoutes, IsRoute, IsRouted, Route, RouteEdge, Routes, edge_by}
use Rattle.plan_flow.specs.Written.Templates.{is_virtual}
use Rattle.plan_flow.specs.Written.WrittenCode.{Form, short, written_items}
use Rattle.plan_flow.specs.declared.edge.Edge.{Edge}
use Rattle.plan_flow.specs.declared.edge.EdgeKind.TheVariants as edges
use Rattle.virtual_state.specs.Sites.{has}
use Rattle.virtual_state.specs.States.{IsState, State}

-- ---- an instruction that is decided has one target

one_target : (f : Frame) (state : State) (instr : Instr) → decided f state instr ≡ true → (to : ℕ) × (targets instr ≡ to ∷ [])
one_target f state Nop told = absurd (false≢true told)
one_target f state (Const imm) told = absurd (false≢true told)
one_target f state (Ldc index) told = absurd (false≢true told)
one_target f state (Ldc2 index) told = absurd (false≢true told)
one_target f state (Load kind local) told = absurd (false≢true told)
one_target f state (Store kind local) told = absurd (false≢true told)
one_target f state (Iinc local by) told = absurd (false≢true told)
one_target f state (ArrayLoad opcode) told = absurd (false≢true told)
one_target f state (ArrayStore opcode) told = absurd (false≢true told)
one_target f state (Shuffle opcode) told = absurd (false≢true told)
one_target f state (Pure opcode) told = absurd (false≢true told)
one_target f state (Divide opcode) told = absurd (false≢true told)
one_target f state (FloatAsk opcode) told = absurd (false≢true told)
one_target f state (If opcode to) told = absurd (false≢true told)
one_target f state (If2 opcode to) told = absurd (false≢true told)
one_target f state (IfSame opcode to) told = (to, refl)
one_target f state (IfNull opcode to) told = (to, refl)
one_target f state (Goto to) told = (to, refl)
one_target f state (Table low other to) told = absurd (false≢true told)
one_target f state (Lookup other pairs) told = absurd (false≢true told)
one_target f state (Return kind) told = absurd (false≢true told)
one_target f state (GetStatic index) told = absurd (false≢true told)
one_target f state (PutStatic index) told = absurd (false≢true told)
one_target f state (GetField index) told = absurd (false≢true told)
one_target f state (PutField index) told = absurd (false≢true told)
one_target f state (Invoke opcode index count) told = absurd (false≢true told)
one_target f state (Dynamic index) told = absurd (false≢true told)
one_target f state (New index) told = absurd (false≢true told)
one_target f state (NewArray code) told = absurd (false≢true told)
one_target f state (NewRefArray index) told = absurd (false≢true told)
one_target f state (NewMulti index dimensions) told = absurd (false≢true told)
one_target f state Length told = absurd (false≢true told)
one_target f state Throw told = absurd (false≢true told)
one_target f state (Cast index) told = absurd (false≢true told)
one_target f state (InstanceOf index) told = absurd (false≢true told)
one_target f state Enter told = absurd (false≢true told)
one_target f state Leave told = absurd (false≢true told)

target_there : (point : Point) (route : Route) → is_decided point route ≡ true → (to : ℕ) × (targets_at point.instr ≡ to ∷ [])
target_there point route told = by point.instr refl where
  by : (instr : FlatInstr) → point.instr ≡ instr → (to : ℕ) × (targets_at point.instr ≡ to ∷ [])
  by (NullTest local) is =
      let not_so : is_decided point route ≡ false = rw (is) refl in
      absurd (false≢true (sym not_so ∙ told))
  by (Of class instr) is =
      let found = one_target point.typed (state_written route) instr (sym (decided_is point route class instr is) ∙ told) in
      (found.0, ap targets_at is ∙ found.1)

-- ---- an instruction makes no object of a site by itself

module _ (s : PlanScope) (on : Name → Bool) (at : ℕ) (point : Point) (state : State) where
  none_made : (instr : FlatInstr) → tally (on_place on) (own_places none_named s at point state instr) ≡ 0
  none_made (NullTest local) = refl
  none_made (Of class Nop) = refl
  none_made (Of class (Const imm)) = refl
  none_made (Of class (Ldc index)) = refl
  none_made (Of class (Ldc2 index)) = refl
  none_made (Of class (Load kind local)) = refl
  none_made (Of class (Store kind local)) = refl
  none_made (Of class (Iinc local by)) = refl
  none_made (Of class (ArrayLoad opcode)) = refl
  none_made (Of class (ArrayStore opcode)) = refl
  none_made (Of class (Shuffle opcode)) = refl
  none_made (Of class (Pure opcode)) = refl
  none_made (Of class (Divide opcode)) = refl
  none_made (Of class (FloatAsk opcode)) = refl
  none_made (Of class (If opcode to)) = refl
  none_made (Of class (If2 opcode to)) = refl
  none_made (Of class (IfSame opcode to)) = refl
  none_made (Of class (IfNull opcode to)) = refl
  none_made (Of class (Goto to)) = refl
  none_made (Of class (Table low other to)) = refl
  none_made (Of class (Lookup other pairs)) = refl
  none_made (Of class (Return kind)) = refl
  none_made (Of class (GetStatic index)) = refl
  none_made (Of class (PutStatic index)) = refl
  none_made (Of class (GetField index)) = refl
  none_made (Of class (PutField index)) = refl
  none_made (Of class (Invoke opcode index count)) = refl
  none_made (Of class (Dynamic index)) = refl
  none_made (Of class (New index)) = by (site_at s.flat at) where
    by : (site : Option ℕ) → tally (on_place on) (new_places site None) ≡ 0
    by None = refl
    by (Some site) = refl
  none_made (Of class (NewArray code)) = refl
  none_made (Of class (NewRefArray index)) = refl
  none_made (Of class (NewMulti index dimensions)) = refl
  none_made (Of class Length) = refl
  none_made (Of class Throw) = refl
  none_made (Of class (Cast index)) = refl
  none_made (Of class (InstanceOf index)) = refl
  none_made (Of class Enter) = by (is_virtual (held state (operand point.typed 0))) where
    by : (b : Bool) → tally (on_place on) (if b then [] else enters_monitor ∷ []) ≡ 0
    by true = refl
    by false = refl
  none_made (Of class Leave) = refl

module _ (s : PlanScope) (on : Name → Bool) (of : ℕ → Bool)
    (agrees : (site : ℕ) (one : Site) → slice_get s.flat.sites site ≡ Some one → of site ≡ on one.class) where
  -- ---- edges

  edges_tallied : (plan : Plan) (effect : List Edge) (plans : List MadeEdge) (routes : List RouteEdge)
      → AllByRecursion (λ (one : Edge). IsState one.state) effect
      → AllByRecursion (λ (one : Edge). AreInside (length s.flat.sites) one.state.objects) effect
      → AreEdgeRoutes effect plans routes
      → AllLead plan effect plans
      → weights s on routes ≡ tally of (made_on plans)
  edges_tallied plan [] [] [] states inside are lead = refl
  edges_tallied plan [] [] (one ∷ routes) states inside are lead = absurd are
  edges_tallied plan [] (made ∷ plans) routes states inside are lead = absurd are
  edges_tallied plan (first ∷ effect) [] routes states inside are lead = absurd are
  edges_tallied plan (first ∷ effect) (made ∷ plans) [] states inside are lead = absurd are
  edges_tallied plan (first ∷ effect) (made ∷ plans) (one ∷ routes) states inside are lead =
      let can : IsMadeIn first.state made.made =
      subst (IsMadeIn first.state) (sym lead.0.same_made) (differing_is_made first.state lead.0.target.state states.0 lead.0.below) in
      let there : tally (on_place on) (made_places s first.state one.order) ≡ tally of made.made =
      order_tallied s on of agrees first.state made.made one.order are.0.order can.order
      (λ site among. record { present = can.present site among; inside = inside.0.each site (can.present site among) }) in
      let here : weight s on one ≡ tally of made.made =
      subst (λ (state : State). tally (on_place on) (made_places s state one.order) ≡ tally of made.made) (sym are.0.state) there in
      let both = tally_both of made.made (made_on plans) in
      let rest = edges_tallied plan effect plans routes states.1 inside.1 are.1 lead.1 in
      omega (arith, both, here, rest)

  -- ---- points

  abbrev SamePoint : ℕ → Point → PlannedPoint → Route → Type 0
  SamePoint at point planned_so route =
      tally (on_place on) (point_places_by none_named s at point route) + tally (on_place on) (jump_places s at point route)
      + tally (on_place on) (handler_places s at point route)
      ≡ tally of (made_there (Some planned_so))

  module _ (plan : Plan) (one_effect : HasOneEffect s) (valid : IsValid s plan)
      (at : ℕ) (point : Point) (found : PlannedPoint) (route : Route) (is_point : slice_get s.flat.points at ≡ Some point)
      (is_planned : planned plan at ≡ Some found) (is : IsRoute s at found route) where
    here : IsValidAt s plan at found
    here = valid.each at found is_planned

    inside : AreInside (length s.flat.sites) found.state.objects
    inside = reached_inside s plan at found valid here.led_to is_planned

    are : AreEdges s point at (state_left found) (open_edges s at point (state_left found)) is.effect
    are = subst (λ (at_it : Option Point). IsEffectIn s at at_it (state_left found) is.effect) is_point is.is_effect

    own_tallied : tally (on_place on) (made_places s route.state route.order) ≡ tally of found.made
    own_tallied =
        subst (λ (state : State). tally (on_place on) (made_places s state route.order) ≡ tally of found.made) (sym is.state)
        (order_tallied s on of agrees found.state found.made route.order is.order here.is_planned.made.order
        (λ site among. record {
          present = here.is_planned.made.present site among;
          inside = inside.each site (here.is_planned.made.present site among);
        }))

    all_tallied : weights s on route.edges ≡ tally of (made_on found.edges)
    all_tallied =
        edges_tallied plan is.effect found.edges route.edges
        (edge_states s at point (state_left found) (open_edges s at point (state_left found)) is.effect are)
        (effect_inside s at (state_left found) is.effect (fewer_inside (length s.flat.sites) found.state (has found.made) inside) is.is_effect)
        is.edges
        (subst (λ (effect : List Edge). AllLead plan effect found.edges)
        (one_effect at (state_left found) here.edges is.effect here.effect is.is_effect) here.lead)

    abbrev row : PlanRow
    row = row_of_point s at point

    abbrev opens : RowEdge → Bool
    opens edge = is_open (state_left found) edge.guard

    same : row_kinds (open_edges s at point (state_left found)) ≡ kinds route.edges
    same = same_kinds s point at (state_left found) (open_edges s at point (state_left found)) is.effect found.edges route.edges are is.edges

    next_tallied : tally (on_place on) (edge_places s (edge_by route edges.Next)) ≡ weights_of s on is_next route.edges
    next_tallied =
        found_tallied s on is_next route.edges
        (subst (AtMost is_next) same (at_most_kept is_next opens (edges_of at point row) (one_next_row at point row)))

    first_tallied : is_decided point route ≡ true
        → tally (on_place on) (edge_places s (edge_by route (edges.Jump 0))) ≡ weights_of s on is_jump route.edges
    first_tallied told =
        let target = target_there point route told in
        found_tallied s on is_first route.edges
        (subst (AtMost is_first) same
        (at_most_kept is_first opens (edges_of at point row) (one_first_row at point row target.0 target.1)))
        ∙ weighed_alike s on is_first is_jump route.edges
        (subst (AllByRecursion (λ kind. is_first kind ≡ is_jump kind)) same
        (kinds_kept (λ kind. is_first kind ≡ is_jump kind) opens (edges_of at point row) (first_row at point row target.0 target.1)))

    turned : (told : Bool) → is_decided point route ≡ told
        → tally (on_place on) (if told then edge_places s (edge_by route (edges.Jump 0)) else [])
        + tally (on_place on) (flat_map (λ edge. jump_pad_places s told edge edge.by) route.edges)
        ≡ weights_of s on is_jump route.edges
    turned true told =
        let first = first_tallied told in
        let jumps = jumps_tallied s on true route.edges in
        omega (arith, first, jumps)
    turned false told =
        let jumps = jumps_tallied s on false route.edges in
        omega (arith, jumps)

    point_tallied : SamePoint at point found route
    point_tallied =
        let made = made_places s route.state route.order in
        let own = own_places none_named s at point (state_written route) point.instr in
        let jump = if is_decided point route then edge_places s (edge_by route (edges.Jump 0)) else [] in
        let next = edge_places s (edge_by route edges.Next) in
        let third = tally_both (on_place on) ((made ++ own) ++ jump) next in
        let second = tally_both (on_place on) (made ++ own) jump in
        let first = tally_both (on_place on) made own in
        let itself = none_made s on at point (state_written route) point.instr in
        let turns = turned (is_decided point route) refl in
        let handlers = handlers_tallied s on route.edges in
        let kinds_of_all = by_kinds s on route.edges in
        let both = tally_both of found.made (made_on found.edges) in
        omega (arith, third, second, first, itself, turns, handlers, kinds_of_all, both, own_tallied, all_tallied, next_tallied)

  -- ---- all points

  abbrev Three : ℕ → List Point → Routes → ℕ
  Three from points routes =
      tally (on_place on) (of_reached (point_places_by none_named s) from points routes)
      + tally (on_place on) (of_reached (jump_places s) from points routes)
      + tally (on_place on) (of_reached (handler_places s) from points routes)

  points_tallied : (from : ℕ) (points : List Point) (plan : Plan) (routes : Routes) → AreRoutes s from plan routes
      → ((number : ℕ) (point : Point) (found : PlannedPoint) (route : Route)
      → slice_get points number ≡ Some point
      → planned plan number ≡ Some found
      → IsRoute s (from + number) found route
      → SamePoint (from + number) point found route)
      → Three from points routes ≡ tally of (made_to (length points) plan)
  points_tallied from [] plan routes are each = refl
  points_tallied from (point ∷ points) [] [] are each = refl
  points_tallied from (point ∷ points) [] (one ∷ routes) are each = absurd are
  points_tallied from (point ∷ points) (None ∷ plan) [] are each = absurd are
  points_tallied from (point ∷ points) (Some found ∷ plan) [] are each = absurd are
  points_tallied from (point ∷ points) (None ∷ plan) (Some route ∷ routes) are each = absurd are
  points_tallied from (point ∷ points) (Some found ∷ plan) (None ∷ routes) are each = absurd are
  points_tallied from (point ∷ points) (None ∷ plan) (None ∷ routes) are each =
      points_tallied (suc from) points plan routes are
      (λ number one found route is is_planned is_route.
      subst (λ (n : ℕ). SamePoint n one found route) (further number)
      (each (suc number) one found route is is_planned (subst (λ (n : ℕ). IsRoute s n found route) (sym (further number)) is_route))) where
        further : (n : ℕ) → from + suc n ≡ suc from + n
        further n = omega arith
  points_tallied from (point ∷ points) (Some found ∷ plan) (Some route ∷ routes) are each =
      let here : SamePoint from point found route =
      subst (λ (n : ℕ). SamePoint n point found route) (zeroth from)
      (each 0 point found route refl refl (subst (λ (n : ℕ). IsRoute s n found route) (sym (zeroth from)) are.0)) in
      let rest =
      points_tallied (suc from) points plan routes are.1
      (λ number one found route is is_planned is_route.
      subst (λ (n : ℕ). SamePoint n one found route) (further number)
      (each (suc number) one found route is is_planned (subst (λ (n : ℕ). IsRoute s n found route) (sym (further number)) is_route))) in
      let own = tally_both (on_place on) (point_places_by none_named s from point route) (of_reached (point_places_by none_named s) (suc from) points routes) in
      let jumps = tally_both (on_place on) (jump_places s from point route) (of_reached (jump_places s) (suc from) points routes) in
      let handlers = tally_both (on_place on) (handler_places s from point route) (of_reached (handler_places s) (suc from) points routes) in
      let both = tally_both of (made_there (Some found)) (made_to (length points) plan) in
      omega (arith, here, rest, own, jumps, handlers, both)
    where
      zeroth : (n : ℕ) → n + 0 ≡ n
      zeroth n = omega arith

      further : (n : ℕ) → from + suc n ≡ suc from + n
      further n = omega arith

  -- Written code makes as many objects whose classes pass a test as the plan has sites that pass it.
  pub written_tallied : (plan : Plan) (routes : Routes) (form : Form) → HasOneEffect s → IsValid s plan → IsRouted s plan routes
      → tally (on_item on) (written_items form (finished s routes)) ≡ tally of (made_to (length s.flat.points) plan)
  written_tallied plan routes form one_effect valid routed =
      let same = written_same on form (finished s routes) in
      let short_same = items_same on (written_items short (finished s routes)) in
      let placed = ap (tally (on_place on)) (placed_by none_named s plan routes routed) in
      let points = of_reached (point_places_by none_named s) 0 s.flat.points routes in
      let jumps = of_reached (jump_places s) 0 s.flat.points routes in
      let handlers = of_reached (handler_places s) 0 s.flat.points routes in
      let second = tally_both (on_place on) (points ++ jumps) handlers in
      let first = tally_both (on_place on) points jumps in
      let all =
      points_tallied 0 s.flat.points plan routes routed
      (λ number point found route is is_planned is_route.
      subst (λ (n : ℕ). SamePoint n point found route) (counted number)
      (point_tallied plan one_effect valid number point found route is is_planned
      (subst (λ (n : ℕ). IsRoute s n found route) (sym (counted number)) is_route))) in
      omega (arith, same, short_same, placed, second, first, all)
    where
      counted : (n : ℕ) → n ≡ 0 + n
      counted n = omega arith
