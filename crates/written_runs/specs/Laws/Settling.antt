-- The second run goes on quietly to where the instruction of the topmost planned frame is next in both: through make code before the instruction, or
-- on the edge over which control comes, and over the goto at the end of a pad.
use Rattle.std.proofs.Common.{◌≡◌, ◌≤◌, ◌+◌, ◌-◌, ◌++◌, ℕ, suc, Bool, true, false, List, [], ◌∷◌, drop, length, map, slice_get, Some, None, option_map, IsTrue, refl, sym, ap, subst, ◌∙◌, arith, inl}
use Rattle.std.specs.List.{find}
use Rattle.std.proofs.lemmas.Bool.{false≢true}
use Rattle.std.proofs.lemmas.Option.{none-some, same_Some}
use Rattle.class_model.specs.declared.instr.Instr.TheVariants.{Goto}
use Rattle.flow_code.specs.FlatCode.{FlatCode}
use Rattle.flow_code.specs.declared.point.Point.{Point}
use Rattle.machine_values.specs.Frames.{MethodState}
use Rattle.machine_values.specs.declared.frame.RunFrame.{RunFrame}
use Rattle.machine_values.specs.declared.frame.RunFrame.TheVariants.{Beginning, Method}
use Rattle.machine_values.specs.declared.value.Value.{Value}
use Rattle.making_code.specs.Items.{WInstr, WItem, item, plain, to_point}
use Rattle.making_code.specs.MakeCode.{make_code}
use Rattle.making_code.specs.MakeOrder.{IsMakeOrder}
use Rattle.member_link.specs.Machine.Programs.{Code, code_at}
use Rattle.member_link.specs.Machine.Runs.{Run}
use Rattle.member_link.specs.Scope.{scope_at}
use Rattle.plan_flow.specs.Laws.RoutedPlans.{EdgeLeads, HasRoute, IsRouteOf, leads_of, route_at, route_of}
use Rattle.plan_flow.specs.Laws.WrittenBlocks.{block_finished, first_block, first_item, first_of, next_first, next_starts, own_first, own_number, own_second, starts_at, blocks_left, first_begins, made_next, next_of, StandsNext, goes_on, makes_first}
use Rattle.plan_flow.specs.Laws.WrittenPads.{StandsFirst, comes_nowhere, none_finished, pad_block}
use Rattle.plan_flow.specs.MetPlans.{MeetsState, RefersToSite}
use Rattle.plan_flow.specs.PlanScope.{PlanScope}
use Rattle.plan_flow.specs.Plans.{IsMadeIn, IsValidAt, planned, state_left}
use Rattle.plan_flow.specs.Written.Blocks.{Block, BlockOf, blocks_of, handler_pad, instruction_block, jump_pad, state_written}
use Rattle.plan_flow.specs.Written.Finish.{End, Finished, begins_point, comes_to, end_items, end_of, finish, goto_end, is_empty, no_end}
use Rattle.plan_flow.specs.Written.Routes.{IsRoute, Route, RouteEdge, edge_by, is_kind}
use Rattle.plan_flow.specs.declared.edge.EdgeKind.{EdgeKind}
use Rattle.plan_flow.specs.declared.edge.EdgeKind.TheVariants as edges
use Rattle.plan_flow.specs.Written.WrittenCode.{Form, block_items, in_form, is_handler_pad, is_jump_pad, short, start_of, target_number, wide, written_code, written_items, written_point}
use Rattle.plan_flow.specs.Written.WrittenPrograms.{WrittenMethod}
use Rattle.same_runs.specs.Laws.Numbered.{slice_numbered}
use Rattle.same_runs.specs.Laws.QuietBeginnings.{quietly_then}
use Rattle.same_runs.specs.SameMemories.{SameMemories}
use Rattle.same_runs.specs.Simulations.{at_once}
use Rattle.typed_runs.specs.TypedWorlds.{TypedWorld}
use Rattle.virtual_state.specs.Laws.Fields.{unusable_made}
use Rattle.virtual_state.specs.Laws.Objects.{found_present, found_site}
use Rattle.virtual_state.specs.Laws.Removals.{without_is_state, without_none}
use Rattle.virtual_state.specs.Sites.{has}
use Rattle.virtual_state.specs.States.{IsState, State, is_present, is_unusable}
use Rattle.virtual_state.specs.Without.{without}
use Rattle.virtual_state.specs.declared.slot.Slot.TheVariants.{Virt}
use Rattle.written_runs.specs.Laws.Halfway.{GoesOn, Halfway, goes_then, jumps_on, makes_on}
use Rattle.written_runs.specs.Laws.KnownClasses.{halfway_knowing, met_here, met_left}
use Rattle.written_runs.specs.Laws.MadeItems.{AreOwn, HasSome, behind_made, length_made, made_at, made_in_form, made_some, make_code_some, own_make_code}
use Rattle.written_runs.specs.Laws.Uncovered.{IsUncovered, can_be_saved}
use Rattle.written_runs.specs.Laws.NewOnTop.{gives_on_top}
use Rattle.plan_flow.specs.Laws.NextEdges.{next_follows}
use Rattle.plan_flow.specs.Laws.OneEffect.{one_effect}
use Rattle.written_runs.specs.Laws.WideFlats.{room_reached}
use Rattle.written_runs.specs.Laws.WideLocals.{HasWideRoom}
use Rattle.written_runs.specs.Laws.WrittenCodes.{written_code_at}
use Rattle.written_runs.specs.Laws.UncoveredPlans.{uncovered_along, uncovered_at}
use Rattle.written_runs.specs.Laws.TypedKept.{HasPlaces, TypesEntries, can_be_kept, entry_there, places_of}
use Rattle.written_runs.specs.Inner.MadeObjects.{MakesObjects}
use Rattle.written_runs.specs.Inner.PlannedFrames.{AtBlock, InPlanned, IsBlock, IsMet, IsOfSite, IsReached, IsInstructionOf, IsTold, Keeps, Known, MakesOn, Moment, arrives, blocks_in, of_first, of_handler, of_jump, of_next, of_own, scope_in, stays, waits}
use Rattle.written_runs.specs.Inner.Setup.{IsSetup, Setup, first, second}
use Rattle.written_runs.specs.Inner.Standing.{Stands, apart, comparison, is_awaited, beginnings_stand, libraries_stand, none_stand, own_stand, planned_stand}
use Rattle.written_runs.specs.Inner.Together.{Along, AreKnown, AreOwned, Related, Together, points_left, weight}
use Rattle.written_runs.specs.VirtualObjects.{Tells, stack_slots}
use Rattle.written_runs.specs.WrittenRuns.{IsReadyMethod}

-- what other parts of the proof give
pub record SettleLaws (u : Setup) : Type 0 where
  pub is_setup : IsSetup u
  pub making : MakesObjects u
  -- what typing tells make code of entries, local units and values
  pub types : TypesEntries u

-- ---- lists

-- an edge that is found is one of the route
pub found_edge : (wanted : RouteEdge → Bool) (all : List RouteEdge) (edge : RouteEdge) → find wanted all ≡ Some edge
    → (number : ℕ) × (slice_get all number ≡ Some edge)
found_edge wanted [] edge is = absurd (none-some edge is)
found_edge wanted (first ∷ all) edge is = by (wanted first) refl (found_edge wanted all edge) where
  by : (here : Bool) → wanted first ≡ here
      → (find wanted all ≡ Some edge → (number : ℕ) × (slice_get all number ≡ Some edge))
      → (number : ℕ) × (slice_get (first ∷ all) number ≡ Some edge)
  by true told rest = (0, sym (rw (told) refl) ∙ is)
  by false told rest = let there = rest (sym (rw (told) refl) ∙ is) in (suc there.0, there.1)

-- ---- how blocks of make code end

-- one that goes on to the block behind it
pub ends_plain : (flat : FlatCode) (block : Block) (behind : List Finished) → block.leaves ≡ None → is_empty block.items ≡ false
    → end_of flat block behind ≡ no_end
ends_plain flat block behind none some = rw (none, some) refl

-- one that goes elsewhere, behind which no block leads there
ends_goto : (flat : FlatCode) (block : Block) (behind : List Finished) (to : ℕ) → block.leaves ≡ Some to → comes_to to behind ≡ false
    → end_of flat block behind ≡ goto_end to
ends_goto flat block behind to leaves nowhere = rw (leaves, nowhere) refl

nothing_in_form : (form : Form) → in_form form [] ≡ []
nothing_in_form short = refl
nothing_in_form wide = refl

goto_in_form : (form : Form) (to : ℕ) → in_form form (end_items (goto_end to)) ≡ end_items (goto_end to)
goto_in_form short to = refl
goto_in_form wide to = refl

-- a block of make code with its end
made_block : (form : Form) (flat : FlatCode) (block : Block) (end : End) (instrs : List WInstr)
    → block.items ≡ map item instrs
    → AreOwn instrs
    → in_form form (end_items end) ≡ end_items end
    → block_items form (record { block = block; end = end }) ≡ map item instrs ++ end_items end
made_block form flat block end instrs items own same =
    ap (λ (found : List WItem). in_form form (found ++ end_items end)) items ∙ made_in_form form instrs (end_items end) own same

-- what make code asks of the state of a point and the set
pub record CanBeMade (point : Point) (state : State) (made order : List ℕ) : Type 0 where
  pub places : HasPlaces point state
  pub is_state : IsState state
  pub is_made : IsMadeIn state made
  pub is_order : IsMakeOrder state.objects made order
  pub uncovered : IsUncovered point.typed.stack (stack_slots point state) made
  pub room : HasWideRoom point.typed.locals

-- the target of an edge is the point at which the first frame stands: its route, and the state that is left
pub record Onwards (w : WrittenMethod) (place : ℕ) (point : Point) (edge : RouteEdge) : Type 0 where
  pub route : Route
  pub reached : IsReached w place point route
  pub can : CanBeMade point route.state route.made route.order
  pub can_edge : CanBeMade point edge.state edge.made edge.order
  pub left : without edge.state (has edge.made) ≡ route.state

module _ (u : Setup) (laws : SettleLaws u) where
  -- what is behind an edge that leads to where the first frame stands

  pub onwards : (f : MethodState) (w : WrittenMethod) (point : Point) (at : ℕ) (before : Point) (route : Route) (kind : EdgeKind) (edge : RouteEdge)
      → u.written f.at ≡ Some w
      → IsReached w at before route
      → edge_by route kind ≡ Some edge
      → edge.to ≡ f.place
      → slice_get w.flat.points f.place ≡ Some point
      → Onwards w f.place point edge
  onwards f w point at before route kind edge written reached found to is_point = record {
    route = there.route;
    reached = record { is_point = is_point; is_route = there.is_route };
    can = record {
      places = there_places;
      is_state = subst IsState (sym there.is.state) planned_there.is_planned.state.is_state;
      is_made =
          subst (IsMadeIn there.route.state) (sym there.is.made)
          (subst (λ (state : State). IsMadeIn state lead.target.made) (sym there.is.state) planned_there.is_planned.made);
      is_order =
          subst (λ (state : State). IsMakeOrder state.objects there.route.made there.route.order) (sym there.is.state)
          (subst (λ (made : List ℕ). IsMakeOrder lead.target.state.objects made there.route.order) (sym there.is.made) there.is.order);
      uncovered =
          subst (λ (state : State). IsUncovered point.typed.stack (stack_slots point state) there.route.made) (sym there.is.state)
          (uncovered_at (scope_in u w) f.place point lead.target.state there.route.made is_point planned_there.is_planned.beneath);
      room = room_there;
    };
    can_edge = record {
      places = record {
        are = sym (unusable_made (has edge.made) edge.state.slots)
            ∙ ap (λ (state : State). map is_unusable state.slots) (sym lead.left ∙ sym there.is.state)
            ∙ there_places.are;
      };
      is_state = lead.is_state;
      is_made = lead.is_made;
      is_order = lead.is_order;
      uncovered =
          uncovered_along (scope_in u w) of_method.plan at before from.point route number.0 edge point edge.made
          (gives_on_top (scope_in u w) u.classes of_method.scope of_method.code.typed)
          from_state planned_from from.is reached.is_point number.1 (ap (slice_get w.flat.points) to ∙ is_point);
      room = room_there;
    };
    left = sym lead.left ∙ sym there.is.state;
  } where
    of_method : IsReadyMethod u.classes u.links f.at w
    of_method = laws.is_setup.ready f.at w written

    number : (n : ℕ) × (slice_get route.edges n ≡ Some edge)
    number = found_edge (λ one. is_kind one.by kind) route.edges edge found

    lead : EdgeLeads (scope_in u w) of_method.plan edge
    lead =
        leads_of (scope_in u w) of_method.plan w.routes at before route number.0 edge (one_effect (scope_in u w)) of_method.valid of_method.routed
        reached.is_point reached.is_route number.1

    target_at : planned of_method.plan f.place ≡ Some lead.target
    target_at = ap (planned of_method.plan) (sym to) ∙ lead.reached

    planned_there : IsValidAt (scope_in u w) of_method.plan f.place lead.target
    planned_there = of_method.valid.each f.place lead.target target_at

    from : IsRouteOf (scope_in u w) of_method.plan at at route
    from =
        let all = route_of (scope_in u w) 0 of_method.plan w.routes at route of_method.routed reached.is_route in
        record { point = all.point; reached = all.reached; is = subst (λ (n : ℕ). IsRoute (scope_in u w) n all.point route) (omega arith) all.is }

    planned_from : IsValidAt (scope_in u w) of_method.plan at from.point
    planned_from = of_method.valid.each at from.point from.reached

    from_state : IsState (state_left from.point)
    from_state =
        without_is_state from.point.state (has from.point.made) planned_from.is_planned.state.is_state planned_from.is_planned.made.closed

    there : HasRoute (scope_in u w) w.routes f.place f.place lead.target
    there =
        let found_route = route_at (scope_in u w) 0 of_method.plan w.routes f.place lead.target of_method.routed target_at in
        record {
          route = found_route.route;
          is_route = found_route.is_route;
          is = subst (λ (n : ℕ). IsRoute (scope_in u w) n lead.target found_route.route) (omega arith) found_route.is;
        }

    room_there : HasWideRoom point.typed.locals
    room_there =
        room_reached (scope_in u w) of_method.plan of_method.valid u.classes of_method.scope of_method.code.typed f.place point lead.target
        target_at is_point

    there_places : HasPlaces point there.route.state
    there_places =
        places_of u w f.place point there.route.state is_point
        (ap (λ (state : State). map is_unusable state.slots) there.is.state ∙ planned_there.is_planned.state.places)

  -- what is made before the instruction of a reached point can be made
  pub can_at : (f : MethodState) (w : WrittenMethod) (at : ℕ) (point : Point) (route : Route)
      → u.written f.at ≡ Some w
      → IsReached w at point route
      → CanBeMade point route.state route.made route.order
  can_at f w at point route written reached = record {
    places =
        places_of u w at point route.state reached.is_point
        (ap (λ (state : State). map is_unusable state.slots) there.is.state ∙ here.is_planned.state.places);
    is_state = subst IsState (sym there.is.state) here.is_planned.state.is_state;
    is_made =
        subst (IsMadeIn route.state) (sym there.is.made)
        (subst (λ (state : State). IsMadeIn state there.point.made) (sym there.is.state) here.is_planned.made);
    is_order =
        subst (λ (state : State). IsMakeOrder state.objects route.made route.order) (sym there.is.state)
        (subst (λ (made : List ℕ). IsMakeOrder there.point.state.objects made route.order) (sym there.is.made) there.is.order);
    uncovered =
        subst (λ (state : State). IsUncovered point.typed.stack (stack_slots point state) route.made) (sym there.is.state)
        (uncovered_at (scope_in u w) at point there.point.state route.made reached.is_point here.is_planned.beneath);
    room =
        room_reached (scope_in u w) ready.plan ready.valid u.classes ready.scope ready.code.typed at point there.point there.reached reached.is_point;
  } where
    ready : IsReadyMethod u.classes u.links f.at w
    ready = laws.is_setup.ready f.at w written

    there : IsRouteOf (scope_in u w) ready.plan at (0 + at) route
    there = route_of (scope_in u w) 0 ready.plan w.routes at route ready.routed reached.is_route

    here : IsValidAt (scope_in u w) ready.plan at there.point
    here = ready.valid.each at there.point there.reached

  -- where it is known of which classes objects are, a frame has objects of these classes
  meets_of : (one : Run) (f : MethodState) (rest : List RunFrame) (w : WrittenMethod) (known : Known) (point : Point) (route : Route)
      → AreKnown one.world.memory.heap known
      → TypedWorld (first u) u.typings one.world
      → one.world.frames ≡ Method f ∷ rest
      → u.written f.at ≡ Some w
      → IsReached w f.place point route
      → IsMet u known w point route.state f
      → MeetsState (first u) (scope_in u w) point route.state one.world.memory.heap f
  meets_of one f rest w known point route are_known typed stands written reached met = record {
    locals = λ unit site is. let found = met.locals unit site is in (found.0, found.1, of_site site found.0 found.2);
    stack = λ entry site is.
        let full = entry_there point route.state f entry (Virt site) (can_at f w f.place point route written reached).places
        (laws.types.stacks one.world f rest w point typed stands written reached.is_point) is in
        (full.0, full.1, of_site site full.0 (met.stack entry site full.0 is full.1));
  } where
    of_site : (site : ℕ) (value : Value) → IsOfSite u known w site value
        → RefersToSite (first u) (scope_in u w) one.world.memory.heap site value
    of_site site value is =
        let there = are_known.each is.reference is.class is.is_known in record {
          site = is.site;
          is_site = is.is_site;
          class = is.class;
          of_folder = is.of_folder;
          reference = is.reference;
          refers = is.refers;
          object = there.0;
          there = there.1;
          of_class = there.2;
        }

  module _ {one : Run} {f : MethodState} {rest : List RunFrame} {w : WrittenMethod} {known : Known} {point : Point} (measure : ℕ)
      (low : weight (first u) one.world.memory [] (length w.flat.points - f.place) ≤ measure) where
    -- ---- at the instruction

    pub finish_here : (route : Route) (r : Run)
        → Halfway u one r f rest w known point (state_written route) (first_item w.form (blocks_in u w) (own_number (scope_in u w) w.routes f.place route))
        → IsReached w f.place point route
        → IsMet u known w point route.state f
        → Together u measure one r
    finish_here route r h reached met = record {
      along = record {
        virtuals = h.virtuals;
        are_apart = h.are_apart;
        known = known;
        are_known = h.are_known;
        names = h.names;
        now = [];
        ones = Method f ∷ rest;
        stands = h.stands;
        others = Method h.g ∷ h.rest_also;
        stands_also = h.stands_also;
        frames =
            planned_stand (record {
              one = w;
              is_written = h.is_written;
              at = h.at;
              held = h.held;
              block = instruction_block (scope_in u w) f.place point route;
              moment = stays point route here (record { reached = reached; is = refl }) met;
              point = point;
              is_point = reached.is_point;
              tells = h.tells;
              keeps = h.keeps;
              own = h.own;
            }) (λ waiting. absurd (false≢true waiting)) h.below;
        owned = h.owned;
        alone = tt;
        no_turn = tt;
        memories = h.memories;
        seen = h.seen;
        goes = h.goes;
        goes_also = h.goes_also;
        actions = h.actions;
        used = h.used;
        typed = h.typed;
      };
      settled = record {
        point = point;
        route = route;
        here = here;
        of_instruction = record { reached = reached; is = refl };
        met = meets_of one f rest w known point route h.are_known h.typed h.stands written reached met;
      };
      low = low;
    } where
      written : u.written f.at ≡ Some w
      written = ap u.written h.at ∙ h.is_written

      here : AtBlock u w f h.g (instruction_block (scope_in u w) f.place point route)
      here = record {
        number = own_number (scope_in u w) w.routes f.place route;
        is_block = of_own f.place point route reached;
        place = refl;
        place_also = h.place_also;
      }

    -- ---- make code

    -- a block that begins with make code, and how long it is
    through : (r : Run) (state : State) (made order : List ℕ) (number : ℕ) (finished : Finished) (tail : List WItem)
        → Halfway u one r f rest w known point state (first_item w.form (blocks_in u w) number)
        → slice_get w.flat.points f.place ≡ Some point
        → CanBeMade point state made order
        → slice_get (blocks_in u w) number ≡ Some finished
        → block_items w.form finished ≡ map item (make_code w.flat f.place state made order) ++ tail
        → GoesOn u one r f rest w known point (without state (has made))
        (first_item w.form (blocks_in u w) number + length (make_code w.flat f.place state made order))
    through r state made order number finished tail h is_point can is_finished items =
        makes_on laws.making made order h (record {
          is_point = is_point;
          is_state = can.is_state;
          is_made = can.is_made;
          is_order = can.is_order;
          items = record {
            each = λ more within.
                made_at w.form (blocks_in u w) number finished (make_code w.flat f.place state made order) tail more is_finished items within;
          };
          savable =
              can_be_saved w f.place point state made f is_point can.uncovered
              (laws.types.stacks one.world f rest w point h.typed h.stands (ap u.written h.at ∙ h.is_written) is_point)
              (laws.types.kinds one.world f rest w point h.typed h.stands (ap u.written h.at ∙ h.is_written) is_point);
        }) (can_be_kept laws.is_setup laws.types h is_point can.places can.room)

    -- there is an instruction, where an object is made
    some_code : (r : Run) (state : State) (site : ℕ) (sites order : List ℕ) (place : ℕ)
        → Halfway u one r f rest w known point state place
        → CanBeMade point state (site ∷ sites) order
        → HasSome (make_code w.flat f.place state (site ∷ sites) order)
    some_code r state site sites order place h can =
        make_code_some w.flat f.place state can.is_order (λ one_site among.
        let object = found_present state.objects one_site (can.is_made.present one_site among) in
        let told = h.tells.objects one_site object.0 object.1 in (
          object.0,
          told.site,
          object.1,
          subst (λ (n : ℕ). slice_get w.flat.sites n ≡ Some told.site) (found_site state.objects one_site object.0 object.1) told.is_site,
        ))

    -- ---- at the first block of the point

    pub from_first : (route : Route) (r : Run)
        → Halfway u one r f rest w known point route.state (first_item w.form (blocks_in u w) (length (blocks_left (scope_in u w) w.routes f.place)))
        → IsReached w f.place point route
        → CanBeMade point route.state route.made route.order
        → IsMet u known w point route.state f
        → Related u measure one r
    from_first route r h reached can met = by route.made refl where
      by : (made : List ℕ) → route.made ≡ made → Related u measure one r
      by [] none = record {
        later = r;
        quietly = at_once;
        state = inl (finish_here route r here reached met);
      } where
        same : route.state ≡ state_written route
        same = sym (without_none route.state (has route.made) (λ site. ap (λ (made : List ℕ). has made site) none))

        here : Halfway u one r f rest w known point (state_written route)
            (first_item w.form (blocks_in u w) (own_number (scope_in u w) w.routes f.place route))
        here =
            subst (λ (state : State). Halfway u one r f rest w known point state
            (first_item w.form (blocks_in u w) (own_number (scope_in u w) w.routes f.place route))) same
            (subst (λ (number : ℕ). Halfway u one r f rest w known point route.state (first_item w.form (blocks_in u w) number))
            (sym (own_first (scope_in u w) w.routes f.place route none)) h)
      by (site ∷ sites) some = record {
        later = on.later;
        quietly = on.quietly;
        state = inl (finish_here route on.later there reached met);
      } where
        number : ℕ
        number = length (blocks_left (scope_in u w) w.routes f.place)

        code : List WInstr
        code = make_code w.flat f.place route.state route.made route.order

        can_here : CanBeMade point route.state (site ∷ sites) route.order
        can_here = subst (λ (made : List ℕ). CanBeMade point route.state made route.order) some can

        some_here : HasSome code
        some_here =
            subst (λ (made : List ℕ). HasSome (make_code w.flat f.place route.state made route.order)) (sym some)
            (some_code r route.state site sites route.order (first_item w.form (blocks_in u w) number) h can_here)

        block : Block
        block = first_block (scope_in u w) f.place point route route.made

        is_block : slice_get (blocks_of (scope_in u w) w.routes) number ≡ Some block
        is_block = (first_of (scope_in u w) w.routes f.place point route reached.is_point reached.is_route).is_there

        -- with the set written out it is a block of make code
        as_made : block ≡ first_block (scope_in u w) f.place point route (site ∷ sites)
        as_made = ap (first_block (scope_in u w) f.place point route) some

        code_is : code ≡ make_code w.flat f.place route.state (site ∷ sites) route.order
        code_is = ap (λ (made : List ℕ). make_code w.flat f.place route.state made route.order) some

        block_items_are : block.items ≡ map item code
        block_items_are = ap (λ (b : Block). b.items) as_made ∙ ap (map item) (sym code_is)

        behind : List Finished
        behind = finish w.flat (drop (suc number) (blocks_of (scope_in u w) w.routes))

        ends : end_of w.flat block behind ≡ no_end
        ends =
            ends_plain w.flat block behind (ap (λ (b : Block). b.leaves) as_made)
            (ap is_empty block_items_are ∙ made_some code some_here)

        finished : Finished
        finished = record { block = block; end = no_end }

        is_finished : slice_get (blocks_in u w) number ≡ Some finished
        is_finished =
            block_finished w.flat (blocks_of (scope_in u w) w.routes) number block is_block
            ∙ ap (λ (end : End). Some (record { block = block; end = end })) ends

        -- it has nothing but make code
        items : block_items w.form finished ≡ map item code ++ []
        items = made_block w.form w.flat block no_end code block_items_are (own_make_code w.flat f.place route.state route.made route.order) (nothing_in_form w.form)

        on : GoesOn u one r f rest w known point (state_written route) (first_item w.form (blocks_in u w) number + length code)
        on = through r route.state route.made route.order number finished [] h reached.is_point can is_finished items

        next : first_item w.form (blocks_in u w) number + length code
            ≡ first_item w.form (blocks_in u w) (own_number (scope_in u w) w.routes f.place route)
        next =
            let starts = next_starts w.form (blocks_in u w) number finished is_finished in
            let long : length (block_items w.form finished) ≡ length code + 0 = ap length items ∙ length_made code [] in
            let here : first_item w.form (blocks_in u w) number + length code ≡ first_item w.form (blocks_in u w) (suc number) =
            omega (arith, starts, long) in
            here ∙ ap (first_item w.form (blocks_in u w)) (sym (own_second (scope_in u w) w.routes f.place route site sites some))

        there : Halfway u one on.later f rest w known point (state_written route)
            (first_item w.form (blocks_in u w) (own_number (scope_in u w) w.routes f.place route))
        there = subst (Halfway u one on.later f rest w known point (state_written route)) next on.there

    -- ---- from an edge

    -- on behind make code on an edge
    then_first : (edge : RouteEdge) (r : Run) (on_to : Onwards w f.place point edge)
        → IsMet u known w point edge.state f
        → GoesOn u one r f rest w known point (without edge.state (has edge.made))
        (first_item w.form (blocks_in u w) (length (blocks_left (scope_in u w) w.routes f.place)))
        → Related u measure one r
    then_first edge r on_to met on = record {
      later = related.later;
      quietly = quietly_then on.quietly related.quietly;
      state = related.state;
    } where
      related : Related u measure one on.later
      related =
          from_first on_to.route on.later
          (subst (λ (state : State). Halfway u one on.later f rest w known point state
          (first_item w.form (blocks_in u w) (length (blocks_left (scope_in u w) w.routes f.place)))) on_to.left on.there)
          on_to.reached on_to.can
          (subst (λ (state : State). IsMet u known w point state f) on_to.left
          (met_left u known w point edge.state (has edge.made) f met))

    -- ---- from make code on the edge to the next point

    pub from_next : (r : Run) (at : ℕ) (before : Point) (route : Route) (edge : RouteEdge) (site : ℕ) (sites : List ℕ)
        → Halfway u one r f rest w known point edge.state
        (first_item w.form (blocks_in u w) (suc (own_number (scope_in u w) w.routes at route)))
        → u.written f.at ≡ Some w
        → IsReached w at before route
        → MakesOn route edges.Next edge site sites
        → edge.to ≡ f.place
        → slice_get w.flat.points f.place ≡ Some point
        → IsMet u known w point edge.state f
        → Related u measure one r
    from_next r at before route edge site sites h written reached makes to is_point met =
        then_first edge r on_to met there where
          on_to : Onwards w f.place point edge
          on_to = onwards f w point at before route edges.Next edge written reached makes.found to is_point

          s : PlanScope
          s = scope_in u w

          of_method : IsReadyMethod u.classes u.links f.at w
          of_method = laws.is_setup.ready f.at w written

          number : ℕ
          number = suc (own_number s w.routes at route)

          code : List WInstr
          code = make_code w.flat f.place edge.state edge.made edge.order

          follows : suc at ≡ f.place
          follows =
              sym (next_follows s of_method.plan w.routes at before route edge of_method.routed reached.is_point reached.is_route makes.found) ∙ to

          code_is : code ≡ make_code w.flat edge.to edge.state (site ∷ sites) edge.order
          code_is =
              ap (λ (made : List ℕ). make_code w.flat f.place edge.state made edge.order) makes.made
              ∙ ap (λ (n : ℕ). make_code w.flat n edge.state (site ∷ sites) edge.order) (sym to)

          some_here : HasSome code
          some_here =
              subst (λ (made : List ℕ). HasSome (make_code w.flat f.place edge.state made edge.order)) (sym makes.made)
              (some_code r edge.state site sites edge.order (first_item w.form (blocks_in u w) number) h
              (subst (λ (made : List ℕ). CanBeMade point edge.state made edge.order) makes.made on_to.can_edge))

          block : Block
          block = made_next s at edge (site ∷ sites)

          is_block : slice_get (blocks_of s w.routes) number ≡ Some block
          is_block = next_stands
              (next_of s w.routes at before point route on_to.route edge reached.is_point reached.is_route
              (ap (slice_get w.flat.points) follows ∙ is_point) (ap (slice_get w.routes) follows ∙ on_to.reached.is_route) makes.found) where
                next_stands : StandsNext s w.routes at route point on_to.route edge → slice_get (blocks_of s w.routes) number ≡ Some block
                next_stands (makes_first some here behind_it) = here ∙ ap (λ (made : List ℕ). Some (made_next s at edge made)) makes.made
                next_stands (goes_on none here) = absurd (some_none (sym makes.made ∙ none)) where
                  some_none : site ∷ sites ≡ [] → ⊥
                  some_none same = absurd cc

          behind : List Finished
          behind = finish w.flat (drop (suc number) (blocks_of s w.routes))

          ends : end_of w.flat block behind ≡ no_end
          ends = ends_plain w.flat block behind refl (ap (λ (instrs : List WInstr). is_empty (map item instrs)) (sym code_is) ∙ made_some code some_here)

          finished : Finished
          finished = record { block = block; end = no_end }

          is_finished : slice_get (blocks_in u w) number ≡ Some finished
          is_finished =
              block_finished w.flat (blocks_of s w.routes) number block is_block
              ∙ ap (λ (end : End). Some (record { block = block; end = end })) ends

          items : block_items w.form finished ≡ map item code ++ []
          items =
              made_block w.form w.flat block no_end code (ap (map item) (sym code_is))
              (own_make_code w.flat f.place edge.state edge.made edge.order) (nothing_in_form w.form)

          next : first_item w.form (blocks_in u w) number + length code
              ≡ first_item w.form (blocks_in u w) (length (blocks_left s w.routes f.place))
          next =
              let starts = next_starts w.form (blocks_in u w) number finished is_finished in
              let long : length (block_items w.form finished) ≡ length code + 0 = ap length items ∙ length_made code [] in
              let here : first_item w.form (blocks_in u w) number + length code ≡ first_item w.form (blocks_in u w) (suc number) =
              omega (arith, starts, long) in
              here
              ∙ ap (first_item w.form (blocks_in u w)) (next_first s w.routes at before route edge site sites reached.is_point reached.is_route makes.found makes.made)
              ∙ ap (λ (n : ℕ). first_item w.form (blocks_in u w) (length (blocks_left s w.routes n))) follows

          there : GoesOn u one r f rest w known point (without edge.state (has edge.made))
              (first_item w.form (blocks_in u w) (length (blocks_left s w.routes f.place)))
          there =
              subst (GoesOn u one r f rest w known point (without edge.state (has edge.made))) next
              (through r edge.state edge.made edge.order number finished [] h is_point on_to.can_edge is_finished items)

    -- ---- from a pad

    pub from_pad : (r : Run) (is_it : BlockOf → Bool) (of : BlockOf) (at : ℕ) (before : Point) (route : Route) (kind : EdgeKind)
        (edge : RouteEdge) (site : ℕ) (sites : List ℕ) (number : ℕ)
        → Halfway u one r f rest w known point edge.state (first_item w.form (blocks_in u w) number)
        → u.written f.at ≡ Some w
        → IsReached w at before route
        → MakesOn route kind edge site sites
        → StandsFirst (scope_in u w) w.routes is_it (pad_block (scope_in u w) of edge (site ∷ sites)) number
        → edge.to ≡ f.place
        → slice_get w.flat.points f.place ≡ Some point
        → IsMet u known w point edge.state f
        → Related u measure one r
    from_pad r is_it of at before route kind edge site sites number h written reached makes first_here to is_point met =
        then_first edge r on_to met there where
          on_to : Onwards w f.place point edge
          on_to = onwards f w point at before route kind edge written reached makes.found to is_point

          s : PlanScope
          s = scope_in u w

          ready : IsReadyMethod u.classes u.links f.at w
          ready = laws.is_setup.ready f.at w written

          code : List WInstr
          code = make_code w.flat f.place edge.state edge.made edge.order

          code_is : code ≡ make_code w.flat edge.to edge.state (site ∷ sites) edge.order
          code_is =
              ap (λ (made : List ℕ). make_code w.flat f.place edge.state made edge.order) makes.made
              ∙ ap (λ (n : ℕ). make_code w.flat n edge.state (site ∷ sites) edge.order) (sym to)

          block : Block
          block = pad_block s of edge (site ∷ sites)

          ends : end_of w.flat block (finish w.flat (drop (suc number) (blocks_of s w.routes))) ≡ goto_end edge.to
          ends =
              ends_goto w.flat block (finish w.flat (drop (suc number) (blocks_of s w.routes))) edge.to refl
              (comes_nowhere w.flat edge.to (drop (suc number) (blocks_of s w.routes)) (first_here.no_point_behind edge.to))

          finished : Finished
          finished = record { block = block; end = goto_end edge.to }

          is_finished : slice_get (blocks_in u w) number ≡ Some finished
          is_finished =
              block_finished w.flat (blocks_of s w.routes) number block first_here.is_there
              ∙ ap (λ (end : End). Some (record { block = block; end = end })) ends

          goto : WItem
          goto = record { instr = plain (Goto 0); targets = to_point edge.to ∷ []; catches = [] }

          items : block_items w.form finished ≡ map item code ++ (goto ∷ [])
          items =
              made_block w.form w.flat block (goto_end edge.to) code (ap (map item) (sym code_is))
              (own_make_code w.flat f.place edge.state edge.made edge.order) (goto_in_form w.form edge.to)

          on : GoesOn u one r f rest w known point (without edge.state (has edge.made)) (first_item w.form (blocks_in u w) number + length code)
          on = through r edge.state edge.made edge.order number finished (goto ∷ []) h is_point on_to.can_edge is_finished items

          target : ℕ
          target = target_number w.form (blocks_in u w) (0 + (first_item w.form (blocks_in u w) number + length code)) (to_point edge.to)

          is_target : target ≡ first_item w.form (blocks_in u w) (length (blocks_left s w.routes f.place))
          is_target =
              let first = first_of s w.routes f.place point on_to.route is_point on_to.reached.is_route in
              let block_there = block_finished w.flat (blocks_of s w.routes) (length (blocks_left s w.routes f.place))
              (first_block s f.place point on_to.route on_to.route.made) first.is_there in
              let zeroth : 0 + first_item w.form (blocks_in u w) (length (blocks_left s w.routes f.place))
              ≡ first_item w.form (blocks_in u w) (length (blocks_left s w.routes f.place)) = omega arith in
              ap (λ (n : ℕ). start_of w.form (blocks_in u w) (begins_point n)) to
              ∙ starts_at w.form (begins_point f.place) (blocks_in u w) 0 (length (blocks_left s w.routes f.place)) _ block_there
              (first_begins s f.place point on_to.route on_to.route.made)
              (none_finished w.flat (begins_point f.place) (blocks_of s w.routes) (length (blocks_left s w.routes f.place)) first.none_before)
              ∙ zeroth

          whole : Code
          whole = written_code s ready.scope u.constructor w.form (blocks_in u w)

          runs : code_at (second u) on.there.g.at ≡ Some whole
          runs = written_code_at u laws.is_setup on.there.g.at w ready.scope on.there.is_written (ap (scope_at u.classes) (sym on.there.at) ∙ ready.is_scope)

          at_goto : slice_get whole.points (first_item w.form (blocks_in u w) number + length code)
              ≡ Some (written_point s ready.scope u.constructor w.form (blocks_in u w) (0 + (first_item w.form (blocks_in u w) number + length code)) goto)
          at_goto =
              slice_numbered (written_point s ready.scope u.constructor w.form (blocks_in u w)) 0 (written_items w.form (blocks_in u w))
              (first_item w.form (blocks_in u w) number + length code)
              ∙ ap (option_map (written_point s ready.scope u.constructor w.form (blocks_in u w)
              (0 + (first_item w.form (blocks_in u w) number + length code))))
              (behind_made w.form (blocks_in u w) number finished code goto [] is_finished items)

          there : GoesOn u one r f rest w known point (without edge.state (has edge.made))
              (first_item w.form (blocks_in u w) (length (blocks_left s w.routes f.place)))
          there =
              subst (GoesOn u one r f rest w known point (without edge.state (has edge.made))) is_target
              (goes_then on (jumps_on on.there whole _ target runs at_goto refl))

  -- ---- from wherever a frame may stand

  module _ (measure : ℕ) (one other : Run) (along : Along u one other) (none : along.now ≡ []) where
    -- the same, with these frames
    with_frames : (ones others : List RunFrame)
        → Stands u along.virtuals along.known false along.names ones others
        → along.ones ≡ ones
        → along.others ≡ others
        → Along u one other
    with_frames ones others frames is is_also = record {
      virtuals = along.virtuals;
      are_apart = along.are_apart;
      known = along.known;
      are_known = along.are_known;
      names = along.names;
      now = [];
      ones = ones;
      stands = along.stands ∙ ap (λ (now : List ℕ). map Beginning now ++ along.ones) none ∙ is;
      others = others;
      stands_also = along.stands_also ∙ is_also;
      frames = frames;
      owned = subst (AreOwned u along.virtuals one.world.memory) is along.owned;
      alone = tt;
      no_turn = tt;
      memories =
          subst (λ (now : List ℕ). SameMemories (first u) (comparison u along.virtuals along.known).allocated
          (comparison u along.virtuals along.known).entered (apart along.virtuals) along.names now one.world.memory other.world.memory) none
          along.memories;
      seen = along.seen;
      goes = along.goes;
      goes_also = along.goes_also;
      actions = along.actions;
      used = along.used;
      typed = along.typed;
    }

    module _ (f g : MethodState) (rest rest_also : List RunFrame)
        (in_planned : InPlanned u along.virtuals along.known along.names (length rest) f g)
        (below : Stands u along.virtuals along.known (is_awaited u g.at) along.names rest rest_also)
        (is : along.ones ≡ Method f ∷ rest) (is_also : along.others ≡ Method g ∷ rest_also)
        (low : weight (first u) one.world.memory [] (length in_planned.one.flat.points - f.place) ≤ measure) where
      written : u.written f.at ≡ Some in_planned.one
      written = ap u.written in_planned.at ∙ in_planned.is_written

      frames : Stands u along.virtuals along.known false along.names (Method f ∷ rest) (Method g ∷ rest_also)
      frames = planned_stand in_planned (λ waiting. absurd (false≢true waiting)) below

      -- the second frame is at a place
      halfway : (state : State) (place : ℕ) (point : Point)
          → in_planned.block.state ≡ state
          → g.place ≡ place
          → in_planned.point ≡ point
          → Halfway u one other f rest in_planned.one along.known point state place
      halfway state place point is_state is_place is_point = record {
        virtuals = along.virtuals;
        are_apart = along.are_apart;
        are_known = along.are_known;
        names = along.names;
        g = g;
        rest_also = rest_also;
        stands = along.stands ∙ ap (λ (now : List ℕ). map Beginning now ++ along.ones) none ∙ is;
        stands_also = along.stands_also ∙ is_also;
        is_written = in_planned.is_written;
        at = in_planned.at;
        held = in_planned.held;
        place_also = is_place;
        tells =
            subst (λ (s : State). Tells (first u) (scope_in u in_planned.one) along.virtuals (length rest) point s f) is_state
            (subst (λ (p : Point). Tells (first u) (scope_in u in_planned.one) along.virtuals (length rest) p in_planned.block.state f) is_point
            in_planned.tells);
        keeps =
            subst (λ (s : State). Keeps in_planned.one.flat along.names along.virtuals (length rest) [] point s f g) is_state
            (subst (λ (p : Point). Keeps in_planned.one.flat along.names along.virtuals (length rest) [] p in_planned.block.state f g) is_point
            in_planned.keeps);
        own = λ number virtual there of_frame.
            subst (λ (s : State). IsTrue (is_present s.objects virtual.site)) is_state (in_planned.own number virtual there of_frame);
        below = below;
        owned = subst (AreOwned u along.virtuals one.world.memory) is along.owned;
        memories =
            subst (λ (now : List ℕ). SameMemories (first u) (comparison u along.virtuals along.known).allocated
            (comparison u along.virtuals along.known).entered (apart along.virtuals) along.names now one.world.memory other.world.memory) none
            along.memories;
        seen = along.seen;
        goes = along.goes;
        goes_also = along.goes_also;
        actions = along.actions;
        used = along.used;
        typed = along.typed;
      }

      -- at the block of the instruction
      settled_here : (point : Point) (route : Route)
          → AtBlock u in_planned.one f g in_planned.block
          → IsInstructionOf u in_planned.one f.place point route in_planned.block
          → IsMet u along.known in_planned.one point route.state f
          → Related u measure one other
      unfolding with_frames frames
      settled_here point route here of_instruction met = record {
        later = other;
        quietly = at_once;
        state = inl (record {
          along = with_frames (Method f ∷ rest) (Method g ∷ rest_also) frames is is_also;
          settled = record {
            point = point;
            route = route;
            here = here;
            of_instruction = of_instruction;
            met =
                meets_of one f rest in_planned.one along.known point route along.are_known along.typed
                (along.stands ∙ ap (λ (now : List ℕ). map Beginning now ++ along.ones) none ∙ is) written of_instruction.reached met;
          };
          low = low;
        });
      }

      -- at the first block of the point
      settle_first : (at : ℕ) (point : Point) (route : Route)
          → IsReached in_planned.one at point route
          → at ≡ f.place
          → in_planned.point ≡ point
          → in_planned.block.state ≡ route.state
          → g.place ≡ first_item in_planned.one.form (blocks_in u in_planned.one) (length (blocks_left (scope_in u in_planned.one) in_planned.one.routes at))
          → Related u measure one other
      settle_first at point route reached is_place is_point is_state place =
          from_first measure low route other (halfway_knowing h can.is_state)
          (subst (λ (n : ℕ). IsReached in_planned.one n point route) is_place reached) can (met_here h can.is_state) where
            can : CanBeMade point route.state route.made route.order
            can = can_at f in_planned.one at point route written reached

            h : Halfway u one other f rest in_planned.one along.known point route.state
                (first_item in_planned.one.form (blocks_in u in_planned.one) (length (blocks_left (scope_in u in_planned.one) in_planned.one.routes f.place)))
            h =
                subst (λ (n : ℕ). Halfway u one other f rest in_planned.one along.known point route.state
                (first_item in_planned.one.form (blocks_in u in_planned.one) (length (blocks_left (scope_in u in_planned.one) in_planned.one.routes n)))) is_place
                (halfway route.state _ point is_state place is_point)

      -- the typed point of a block is that of its number
      point_of : (at : ℕ) (point : Point) → in_planned.block.at ≡ at → slice_get in_planned.one.flat.points at ≡ Some point → in_planned.point ≡ point
      point_of at point is_at is_point =
          same_Some in_planned.point point
          (sym in_planned.is_point ∙ ap (slice_get in_planned.one.flat.points) is_at ∙ is_point)

      -- the first block of a point
      at_first : (at : ℕ) (point : Point) (route : Route) (made : List ℕ)
          → IsReached in_planned.one at point route
          → route.made ≡ made
          → in_planned.block ≡ first_block (scope_in u in_planned.one) at point route made
          → f.place ≡ in_planned.block.at
          → g.place ≡ first_item in_planned.one.form (blocks_in u in_planned.one) (length (blocks_left (scope_in u in_planned.one) in_planned.one.routes at))
          → Related u measure one other
      at_first at point route [] reached none same place place_also =
          settle_first at point route reached (sym (place ∙ ap (λ (b : Block). b.at) same)) (point_of at point (ap (λ (b : Block). b.at) same) reached.is_point)
          (ap (λ (b : Block). b.state) same
          ∙ without_none route.state (has route.made) (λ site. ap (λ (made : List ℕ). has made site) none)) place_also
      at_first at point route (site ∷ sites) reached some same place place_also =
          settle_first at point route reached (sym (place ∙ ap (λ (b : Block). b.at) same)) (point_of at point (ap (λ (b : Block). b.at) same) reached.is_point)
          (ap (λ (b : Block). b.state) same) place_also

      -- make code on an edge to where the first frame stands
      module _ (edge : RouteEdge) (is_state : in_planned.block.state ≡ edge.state) (is_at : in_planned.block.at ≡ edge.to)
          (place : f.place ≡ in_planned.block.at) where
        to_here : edge.to ≡ f.place
        to_here = sym (place ∙ is_at)

        here_point : slice_get in_planned.one.flat.points f.place ≡ Some in_planned.point
        here_point = ap (slice_get in_planned.one.flat.points) place ∙ in_planned.is_point

        on_edge : (number : ℕ) → g.place ≡ first_item in_planned.one.form (blocks_in u in_planned.one) number
            → Halfway u one other f rest in_planned.one along.known in_planned.point edge.state
            (first_item in_planned.one.form (blocks_in u in_planned.one) number)
        on_edge number place_also = halfway edge.state _ in_planned.point is_state place_also refl

      arrived_pad : (is_it : BlockOf → Bool) (of : BlockOf) (at : ℕ) (point : Point) (route : Route) (kind : EdgeKind) (edge : RouteEdge)
          (site : ℕ) (sites : List ℕ) (number : ℕ)
          → IsReached in_planned.one at point route
          → MakesOn route kind edge site sites
          → StandsFirst (scope_in u in_planned.one) in_planned.one.routes is_it (pad_block (scope_in u in_planned.one) of edge (site ∷ sites)) number
          → in_planned.block.state ≡ edge.state
          → in_planned.block.at ≡ edge.to
          → f.place ≡ in_planned.block.at
          → g.place ≡ first_item in_planned.one.form (blocks_in u in_planned.one) number
          → Related u measure one other
      arrived_pad is_it of at point route kind edge site sites number reached makes stands_first is_state is_at own_place place_also =
          from_pad measure low other is_it of at point route kind edge site sites number (halfway_knowing h is_edge) written reached makes stands_first
          to_it here_it (met_here h is_edge) where
            to_it : edge.to ≡ f.place
            to_it = to_here edge is_state is_at own_place

            here_it : slice_get in_planned.one.flat.points f.place ≡ Some in_planned.point
            here_it = here_point edge is_state is_at own_place

            h : Halfway u one other f rest in_planned.one along.known in_planned.point edge.state
                (first_item in_planned.one.form (blocks_in u in_planned.one) number)
            h = on_edge edge is_state is_at own_place number place_also

            is_edge : IsState edge.state
            is_edge = (onwards f in_planned.one in_planned.point at point route kind edge written reached makes.found to_it here_it).can_edge.is_state

      arrived : (block : Block) (number : ℕ) (is_block : IsBlock u in_planned.one number block)
          → in_planned.block ≡ block
          → f.place ≡ block.at
          → g.place ≡ first_item in_planned.one.form (blocks_in u in_planned.one) number
          → IsTold is_block
          → Related u measure one other
      arrived block number (of_first at point route reached) same place place_also told =
          at_first at point route route.made reached refl same (place ∙ sym (ap (λ (b : Block). b.at) same)) place_also
      arrived block number (of_own at point route reached) same place place_also told =
          at_first at point route [] reached told same (place ∙ sym (ap (λ (b : Block). b.at) same))
          (place_also ∙ ap (first_item in_planned.one.form (blocks_in u in_planned.one))
          (own_first (scope_in u in_planned.one) in_planned.one.routes at route told))
      arrived block number (of_next at point route edge site sites reached makes) same place place_also told =
          from_next measure low other at point route edge site sites (halfway_knowing h is_edge) written reached makes to_it here_it (met_here h is_edge) where
            is_state : in_planned.block.state ≡ edge.state
            is_state = ap (λ (b : Block). b.state) same

            is_at : in_planned.block.at ≡ edge.to
            is_at = ap (λ (b : Block). b.at) same

            own_place : f.place ≡ in_planned.block.at
            own_place = place ∙ sym is_at

            to_it : edge.to ≡ f.place
            to_it = to_here edge is_state is_at own_place

            here_it : slice_get in_planned.one.flat.points f.place ≡ Some in_planned.point
            here_it = here_point edge is_state is_at own_place

            h : Halfway u one other f rest in_planned.one along.known in_planned.point edge.state
                (first_item in_planned.one.form (blocks_in u in_planned.one) (suc (own_number (scope_in u in_planned.one) in_planned.one.routes at route)))
            h = on_edge edge is_state is_at own_place (suc (own_number (scope_in u in_planned.one) in_planned.one.routes at route)) place_also

            is_edge : IsState edge.state
            is_edge = (onwards f in_planned.one in_planned.point at point route edges.Next edge written reached makes.found to_it here_it).can_edge.is_state
      arrived block number (of_jump at edge_number point route edge site sites pad reached makes stands_first) same place place_also told =
          arrived_pad (is_jump_pad at edge_number) (jump_pad at edge_number) at point route (edges.Jump edge_number) edge site sites pad reached makes
          stands_first (ap (λ (b : Block). b.state) same) (ap (λ (b : Block). b.at) same) (place ∙ sym (ap (λ (b : Block). b.at) same)) place_also
      arrived block number (of_handler at edge_number point route edge site sites pad reached makes stands_first) same place place_also told =
          arrived_pad (is_handler_pad at edge_number) (handler_pad at edge_number) at point route (edges.Handler edge_number) edge site sites pad reached makes
          stands_first (ap (λ (b : Block). b.state) same) (ap (λ (b : Block). b.at) same) (place ∙ sym (ap (λ (b : Block). b.at) same)) place_also

      settle_planned : Related u measure one other
      settle_planned = by in_planned.moment where
        by : Moment u along.known in_planned.one f g in_planned.block → Related u measure one other
        by (arrives here told) = arrived in_planned.block here.number here.is_block refl here.place here.place_also told
        by (stays point route here of_instruction met) = settled_here point route here of_instruction met
        by (waits point route here of_instruction met carried awaits) = settled_here point route here of_instruction met

  -- The second run goes on to where the instruction of the topmost planned frame is next in both.
  pub settles : (measure : ℕ) (one other : Run) (along : Along u one other)
      → along.now ≡ []
      → weight (first u) one.world.memory [] (points_left along.frames) ≤ measure
      → Related u measure one other
  unfolding with_frames
  settles measure one other along none = by along.ones along.others along.frames refl refl where
    by : (ones others : List RunFrame) (frames : Stands u along.virtuals along.known false along.names ones others)
        → along.ones ≡ ones
        → along.others ≡ others
        → weight (first u) one.world.memory [] (points_left frames) ≤ measure
        → Related u measure one other
    by ones others none_stand is is_also low = record {
      later = other;
      quietly = at_once;
      state = inl (record { along = with_frames measure one other along none ones others none_stand is is_also; settled = tt; low = low });
    }
    by ones others (libraries_stand held below) is is_also low = record {
      later = other;
      quietly = at_once;
      state = inl (record { along = with_frames measure one other along none ones others (libraries_stand held below) is is_also; settled = tt; low = low });
    }
    by ones others (beginnings_stand below) is is_also low = record {
      later = other;
      quietly = at_once;
      state = inl (record { along = with_frames measure one other along none ones others (beginnings_stand below) is is_also; settled = tt; low = low });
    }
    by ones others (own_stand in_own below) is is_also low = record {
      later = other;
      quietly = at_once;
      state = inl (record { along = with_frames measure one other along none ones others (own_stand in_own below) is is_also; settled = tt; low = low });
    }
    by ones others (planned_stand {f = f} {g = g} {ones = rest} {others = rest_also} in_planned waiting below) is is_also low =
        settle_planned measure one other along none f g rest rest_also in_planned below is is_also low
