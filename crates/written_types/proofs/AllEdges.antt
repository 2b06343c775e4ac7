-- All edges of a plan are written.
use Rattle.std.proofs.Common.{◌≡◌, ◌+◌, ℕ, suc, Bool, true, false, List, [], ◌∷◌, ◌++◌, drop, take, slice_get, Some, refl, sym, ap, subst, ◌∙◌, arith}
use Rattle.std.proofs.lemmas.Bool.{false≢true}
use Rattle.std.proofs.lemmas.Option.{none-some, same_Some}
use Rattle.flow_code.specs.FlatCode.{point_at}
use Rattle.flow_code.specs.declared.handlers.FlatHandler.{FlatHandler}
use Rattle.flow_code.specs.declared.point.FlatInstr.{FlatInstr}
use Rattle.flow_code.specs.declared.point.FlatInstr.TheVariants.{Of, NullTest}
use Rattle.flow_code.specs.declared.point.Point.{Point}
use Rattle.plan_flow.specs.Laws.RoutedPlans.{route_at}
use Rattle.plan_flow.specs.Laws.WrittenBlocks.{split_at}
use Rattle.plan_flow.specs.Laws.WrittenPads.{handler_pad_stands, jump_pad_stands}
use Rattle.plan_flow.specs.Must.{row_of_point}
use Rattle.plan_flow.specs.PlanRows.{Guard, RowEdge, where_plain}
use Rattle.plan_flow.specs.PlanSlots.{held, is_open, is_plain}
use Rattle.plan_flow.specs.PlanTable.{edges_of, row_at, targets_at}
use Rattle.plan_flow.specs.Plans.{AllLead, state_left}
use Rattle.plan_flow.specs.Written.Blocks.{Block, handler_pad, instruction_block, is_decided, jump_pad, state_written}
use Rattle.plan_flow.specs.Written.Finish.{begins_point}
use Rattle.plan_flow.specs.Written.FramedCode.{is_led_to}
use Rattle.plan_flow.specs.Written.Routes.{IsRoute, Route, RouteEdge, edge_by, is_kind}
use Rattle.plan_flow.specs.Written.Templates.{null_test}
use Rattle.plan_flow.specs.Written.WrittenCode.{is_handler_pad, is_jump_pad, start_of}
use Rattle.plan_flow.specs.declared.edge.Edge.{Edge}
use Rattle.plan_flow.specs.declared.edge.EdgeKind.{EdgeKind}
use Rattle.plan_flow.specs.declared.edge.EdgeKind.TheVariants as edges
use Rattle.virtual_state.specs.declared.slot.Slot.{Slot}
use Rattle.virtual_state.specs.declared.slot.Slot.TheVariants.{Plain, Virt, Unusable}
use Rattle.written_types.proofs.EdgesWritten.{EdgeWritten, EdgesWritten, goes_next, is_led}
use Rattle.written_types.proofs.Given.{Given}
use Rattle.written_types.proofs.LedItems.{carried_handler_led, carried_jump_led, test_handler_led}
use Rattle.written_types.proofs.NewItems.{OwnBlock, own_block}
use Rattle.written_types.proofs.OpenThrows.{RowIs, decided_first, passes_filtered, rows_are, thrown_kept, undecided_none}
use Rattle.written_types.proofs.RouteEdges.{EdgeComes, edge_comes, edge_number, next_to}
use Rattle.written_types.proofs.Standing.{all_at}
use Rattle.written_types.proofs.WrittenEdges.{decided_written, is_its_kind, pad_led, route_edge, some_found}
use Rattle.written_types.specs.Writing.{Writing, items_in}

module _ (w : Writing) (given : Given w) (from : ℕ) (point : Point) (route : Route) (there : point_at w.s.flat from ≡ Some point)
    (is_route : slice_get given.setting.routes from ≡ Some (Some route)) where
  abbrev place_of : ℕ → ℕ
  place_of to = start_of w.form w.blocks (begins_point to)

  own : OwnBlock w from point route
  own = own_block w given from point route there is_route

  split : w.blocks ≡ take own.number w.blocks ++ (own.one ∷ drop (suc own.number) w.blocks)
  split = split_at w.blocks own.number own.one own.is

  -- what an edge of the route is by its row
  row_of : (number : ℕ) (edge : RouteEdge) → slice_get route.edges number ≡ Some edge
      → (c : EdgeComes w from point route edge) × RowIs point (row_of_point w.s from point) c.row
  row_of number edge is =
      let c = edge_comes w given from number point route edge there is_route is in (
        c,
        all_at (RowIs point (row_of_point w.s from point)) (edges_of from point (row_of_point w.s from point)) c.number c.row
            (rows_are w.s from point) c.there,
      )

  opens : (edge : RouteEdge) (c : EdgeComes w from point route edge) → is_open (state_written route) c.row.guard ≡ true
  opens edge c =
      passes_filtered (λ (e : RowEdge). is_open (state_written route) e.guard) (edges_of from point (row_of_point w.s from point)) c.place c.row
      c.open_there

  -- the first edge of a kind
  record FirstOf (kind : EdgeKind) : Type 0 where
    edge : RouteEdge
    found : edge_by route kind ≡ Some edge
    number : ℕ
    is : slice_get route.edges number ≡ Some edge
    by : edge.by ≡ kind

  first_of : (kind : EdgeKind) (number : ℕ) (edge : RouteEdge) → slice_get route.edges number ≡ Some edge → edge.by ≡ kind → FirstOf kind
  first_of kind number edge is by =
      let found = some_found (λ (e : RouteEdge). is_kind e.by kind) route.edges number edge is
      (ap (λ (k : EdgeKind). is_kind k kind) by ∙ is_its_kind kind) in
      let n = edge_number w given route kind found.0 found.1 in
      record { edge = found.0; found = found.1; number = n.0; is = n.1; by = n.2 }

  -- ---- jumps

  target_of : (number k : ℕ) (edge : RouteEdge) → slice_get route.edges number ≡ Some edge → edge.by ≡ edges.Jump k
      → slice_get (targets_at point.instr) k ≡ Some edge.to
  target_of number k edge is by =
      let r = row_of number edge is in
      r.1.jump k (sym r.0.is.by ∙ by) ∙ ap (λ (t : ℕ). Some t) (sym r.0.is.to)

  jump_written : (k : ℕ) (e : FirstOf (edges.Jump k)) → EdgeWritten w from e.edge.to
  jump_written k e = by_decided (is_decided point route) refl where
    target : slice_get (targets_at point.instr) k ≡ Some e.edge.to
    target = target_of e.number k e.edge e.is e.by

    with_pad : (made : List ℕ) → e.edge.made ≡ made → is_decided point route ≡ false → is_led_to (items_in w) (place_of e.edge.to) ≡ true
    with_pad (site ∷ sites) some undecided =
        let stands = jump_pad_stands w.s given.setting.routes from k point route e.edge site sites there is_route undecided e.found e.by some in
        pad_led w given (jump_pad from k) (is_jump_pad from k) e.edge (site ∷ sites) stands.0 stands.1
    with_pad [] none undecided = by_instr point.instr refl where
      by_instr : (i : FlatInstr) → point.instr ≡ i → is_led_to (items_in w) (place_of e.edge.to) ≡ true
      by_instr (NullTest local) is_test =
          absurd (none-some e.edge.to (sym (ap (λ (i : FlatInstr). slice_get (targets_at i) k) is_test) ∙ target))
      by_instr (Of class instr) is_instr =
          let here = sym (ap (λ (i : FlatInstr). slice_get (targets_at i) k) is_instr) ∙ target in
          let no_template = undecided_none w.s from point route class instr k e.edge.to is_instr here undecided in
          carried_jump_led w (take own.number w.blocks) (drop (suc own.number) w.blocks) own.one split from point route class instr k e.edge.to e.edge
          is_instr (ap (λ (b : Block). b.items) own.is_block ∙ rw (is_instr, no_template) refl) here e.found none

    by_decided : (b : Bool) → is_decided point route ≡ b → EdgeWritten w from e.edge.to
    by_decided false undecided = is_led (with_pad e.edge.made refl undecided)
    by_decided true decided =
        let zeroth : k ≡ 0 = decided_first w.s from point route 0 point.instr k e.edge.to refl target decided in
        let found : edge_by route (edges.Jump 0) ≡ Some e.edge = ap (λ (n : ℕ). edge_by route (edges.Jump n)) (sym zeroth) ∙ e.found in
        decided_written w given from e.edge.to point route there is_route (rw (decided, found) refl)

  -- ---- handlers

  handler_written : (k : ℕ) (e : FirstOf (edges.Handler k)) → EdgeWritten w from e.edge.to
  handler_written k e = is_led (by e.edge.made refl) where
    r : (c : EdgeComes w from point route e.edge) × RowIs point (row_of_point w.s from point) c.row
    r = row_of e.number e.edge e.is

    handler : (h : FlatHandler) × (slice_get point.handlers k ≡ Some h) × (r.0.row.to ≡ h.to)
    handler = r.1.handler k (sym r.0.is.by ∙ e.by)

    open_here : is_open (state_written route) r.0.row.guard ≡ true
    open_here = opens e.edge r.0

    by : (made : List ℕ) → e.edge.made ≡ made → is_led_to (items_in w) (place_of e.edge.to) ≡ true
    by (site ∷ sites) some =
        let stands = handler_pad_stands w.s given.setting.routes from k point route e.edge site sites there is_route e.found e.by some in
        pad_led w given (handler_pad from k) (is_handler_pad from k) e.edge (site ∷ sites) stands.0 stands.1
    by [] none = by_instr point.instr refl where
      by_instr : (i : FlatInstr) → point.instr ≡ i → is_led_to (items_in w) (place_of e.edge.to) ≡ true
      by_instr (Of class instr) is_instr =
          let throws : (row_at w.s from point.typed (Of class instr)).throws ≡ Some r.0.row.guard =
          ap (λ (i : FlatInstr). (row_at w.s from point.typed i).throws) (sym is_instr) ∙ r.1.throws k (sym r.0.is.by ∙ e.by) in
          let kept = thrown_kept w.s from point route class instr r.0.row.guard throws open_here in
          carried_handler_led w (take own.number w.blocks) (drop (suc own.number) w.blocks) own.one split from point route class instr k handler.0 e.edge
          kept.1 (ap (λ (b : Block). b.items) own.is_block ∙ rw (is_instr, kept.0) refl) handler.1 e.found none
      by_instr (NullTest local) is_test = of_slot (held (state_written route) local) refl where
        plain : is_plain (held (state_written route) local) ≡ true
        plain = test_open r.0.row.guard (r.1.throws k (sym r.0.is.by ∙ e.by)) open_here where
          test_open : (guard : Guard) → (row_of_point w.s from point).throws ≡ Some guard → is_open (state_written route) guard ≡ true
              → is_plain (held (state_written route) local) ≡ true
          test_open guard throws opens_it =
              let throws_is : (row_of_point w.s from point).throws ≡ Some (where_plain local) = ap (λ (i : FlatInstr). (row_at w.s from point.typed i).throws) is_test in
              ap (is_open (state_written route)) (same_Some (where_plain local) guard (sym throws_is ∙ throws)) ∙ opens_it

        led : (instruction_block w.s from point route).items ≡ null_test from point route local → is_led_to (items_in w) (place_of e.edge.to) ≡ true
        led items =
            test_handler_led w (take own.number w.blocks) (drop (suc own.number) w.blocks) own.one split from point route local k handler.0 e.edge
            (ap (λ (b : Block). b.items) own.is_block ∙ items) handler.1 e.found none

        of_slot : (slot : Slot) → held (state_written route) local ≡ slot → is_led_to (items_in w) (place_of e.edge.to) ≡ true
        of_slot Plain is_slot = led (rw (is_test, is_slot) refl)
        of_slot Unusable is_slot = led (rw (is_test, is_slot) refl)
        of_slot (Virt site) is_slot = absurd (false≢true (sym (ap is_plain is_slot) ∙ plain))

  -- ---- all

  edge_written : (number : ℕ) (edge : RouteEdge) → slice_get route.edges number ≡ Some edge → EdgeWritten w from edge.to
  edge_written number edge is = by edge.by refl where
    by : (kind : EdgeKind) → edge.by ≡ kind → EdgeWritten w from edge.to
    by edges.Next is_next = goes_next (next_to w from point route edge (edge_comes w given from number point route edge there is_route is) is_next)
    by (edges.Jump k) is_jump =
        let e = first_of (edges.Jump k) number edge is is_jump in
        let same : e.edge.to ≡ edge.to =
        same_Some e.edge.to edge.to (sym (target_of e.number k e.edge e.is e.by) ∙ target_of number k edge is is_jump) in
        subst (EdgeWritten w from) same (jump_written k e)
    by (edges.Handler k) is_handler =
        let e = first_of (edges.Handler k) number edge is is_handler in
        let one = row_of e.number e.edge e.is in
        let other = row_of number edge is in
        let one_handler = one.1.handler k (sym one.0.is.by ∙ e.by) in
        let other_handler = other.1.handler k (sym other.0.is.by ∙ is_handler) in
        let handlers : one_handler.0 ≡ other_handler.0 = same_Some one_handler.0 other_handler.0 (sym one_handler.1 ∙ other_handler.1) in
        let same : e.edge.to ≡ edge.to =
        one.0.is.to ∙ one_handler.2 ∙ ap (λ (h : FlatHandler). h.to) handlers ∙ sym other_handler.2 ∙ sym other.0.is.to in
        subst (EdgeWritten w from) same (handler_written k e)

pub edges_written : (w : Writing) (given : Given w) → EdgesWritten w given
edges_written w given = record {
  each = λ from number one made is_planned is_made.
      let found = route_at w.s 0 given.setting.plan given.setting.routes from one given.setting.routed is_planned in
      let is : IsRoute w.s from one found.route = subst (λ (n : ℕ). IsRoute w.s n one found.route) (the_same (0 + from) from (omega arith)) found.is in
      let v = given.setting.valid.each from one is_planned in
      let lead : AllLead given.setting.plan is.effect one.edges =
      subst (λ (effect : List Edge). AllLead given.setting.plan effect one.edges)
      (given.one_effect from (state_left one) v.edges is.effect v.effect is.is_effect) v.lead in
      let edge = route_edge given.setting.plan is.effect one.edges found.route.edges is.edges lead number made is_made in
      let fits = given.fits.before from found.route found.is_route in
      subst (EdgeWritten w from) edge.2 (edge_written w given from fits.point found.route fits.there found.is_route number edge.0 edge.1);
} where
  the_same : (a b : ℕ) → a ≡ b → a ≡ b
  the_same a b e = e
