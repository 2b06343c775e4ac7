-- Where a planned frame is on top and its instruction is next in both: what is known of the two runs there, and of the classes of virtual objects.
use Rattle.std.proofs.Common.{◌≡◌, ◌++◌, ℕ, List, [], ◌∷◌, length, map, slice_get, Some, None, IsTrue, refl, sym, ap, subst, ◌∙◌, arith}
use Rattle.std.proofs.lemmas.Option.{same_Some}
use Rattle.class_model.specs.declared.instr.Instr.{Instr}
use Rattle.flow_code.specs.declared.point.FlatInstr.TheVariants.{Of}
use Rattle.flow_code.specs.declared.point.Point.{Point}
use Rattle.machine_values.specs.Frames.{MethodState}
use Rattle.machine_values.specs.declared.frame.RunFrame.{RunFrame}
use Rattle.machine_values.specs.declared.frame.RunFrame.TheVariants.{Beginning}
use Rattle.member_link.specs.Machine.Runs.{Run}
use Rattle.plan_flow.specs.Laws.RoutedPlans.{IsRouteOf, route_of}
use Rattle.plan_flow.specs.Laws.WrittenBlocks.{first_block, first_item, own_number}
use Rattle.plan_flow.specs.PlanScope.{PlanScope}
use Rattle.plan_flow.specs.Plans.{IsValidAt}
use Rattle.plan_flow.specs.Written.Blocks.{Block, instruction_block, state_written}
use Rattle.plan_flow.specs.Written.Routes.{IsRoute, Route}
use Rattle.plan_flow.specs.Written.Templates.{as_it_is, items_at, template}
use Rattle.plan_flow.specs.Written.WrittenPrograms.{WrittenMethod}
use Rattle.same_runs.specs.SameMemories.{SameMemories}
use Rattle.virtual_state.specs.Laws.Removals.{without_is_state, without_none}
use Rattle.virtual_state.specs.Sites.{has}
use Rattle.virtual_state.specs.States.{IsState, State, is_present}
use Rattle.virtual_state.specs.Without.{IsClosed}
use Rattle.written_runs.specs.Inner.PlannedFrames.{IsBlock, IsCarried, IsMet, IsReached, IsTold, Keeps, Known, Moment, arrives, blocks_in, of_first, of_handler, of_jump, of_next, of_own, scope_in, stays, waits}
use Rattle.written_runs.specs.Inner.Setup.{Setup, first}
use Rattle.written_runs.specs.Inner.Standing.{apart, comparison}
use Rattle.written_runs.specs.Inner.Together.{AreOwned}
use Rattle.written_runs.specs.Laws.Carried.Standing.{at_own}
use Rattle.written_runs.specs.Laws.Carried.Waiting.{AtCarried, AtInstruction}
use Rattle.written_runs.specs.Laws.Halfway.{Halfway}
use Rattle.written_runs.specs.Laws.KnownClasses.{classes_in, halfway_knowing, knows, met_here}
use Rattle.written_runs.specs.Laws.PlannedTurns.{AtPlanned, written_at}
use Rattle.written_runs.specs.Laws.Settling.{SettleLaws}
use Rattle.written_runs.specs.Laws.StandingMore.{met_more}
use Rattle.written_runs.specs.VirtualObjects.{Tells}
use Rattle.written_runs.specs.WrittenRuns.{IsReadyMethod}

-- the number of the first item of a point's own block
abbrev pub own_start : (u : Setup) → WrittenMethod → ℕ → Route → ℕ
own_start u w at route = first_item w.form (blocks_in u w) (own_number (scope_in u w) w.routes at route)

-- the two frames there
abbrev pub instruction_halfway : {u : Setup} {one other : Run} {f : MethodState} {rest : List RunFrame} {w : WrittenMethod} {known : Known} {point : Point}
    {route : Route}
    (h : Halfway u one other f rest w known point (state_written route) (own_start u w f.place route))
    → IsReached w f.place point route
    → AtInstruction u h.virtuals h.names (length rest) f h.g
instruction_halfway {u = u} {f = f} {w = w} {point = point} {route = route} h reached = record {
  w = w;
  is_written = h.is_written;
  at = h.at;
  held = h.held;
  point = point;
  route = route;
  block = instruction_block (scope_in u w) f.place point route;
  here = record {
    number = own_number (scope_in u w) w.routes f.place route;
    is_block = of_own f.place point route reached;
    place = refl;
    place_also = h.place_also;
  };
  of_instruction = record { reached = reached; is = refl };
  tells = h.tells;
  keeps = h.keeps;
}

-- where it is known there of which classes the objects are, and the instruction is written as it is
abbrev pub carried_halfway : {u : Setup} {one other : Run} {f : MethodState} {rest : List RunFrame} {w : WrittenMethod} {known : Known} {point : Point}
    {route : Route}
    (h : Halfway u one other f rest w known point (state_written route) (own_start u w f.place route))
    → IsReached w f.place point route
    → IsMet u known w point route.state f
    → IsCarried u w f.place point route
    → AtCarried u h.virtuals known h.names (length rest) f h.g
carried_halfway {u = u} {f = f} {w = w} {point = point} {route = route} h reached met carried = record {
  w = w;
  is_written = h.is_written;
  at = h.at;
  held = h.held;
  point = point;
  route = route;
  block = instruction_block (scope_in u w) f.place point route;
  here = record {
    number = own_number (scope_in u w) w.routes f.place route;
    is_block = of_own f.place point route reached;
    place = refl;
    place_also = h.place_also;
  };
  of_instruction = record { reached = reached; is = refl };
  met = met;
  carried = carried;
  tells = h.tells;
  keeps = h.keeps;
  own = h.own;
}

pub items_carried : (s : PlanScope) (at : ℕ) (point : Point) (state : State) (route : Route) (class : ℕ) (instr : Instr)
    → point.instr ≡ Of class instr
    → template s at point.typed state route class instr ≡ None
    → items_at s at point state route ≡ as_it_is at point route class instr
items_carried s at point state route class instr is none = rw (is, none) refl

-- at a block at which the state alone tells of which classes objects are, nothing is made before the instruction
told_unmade : (u : Setup) (w : WrittenMethod) (at : ℕ) (point : Point) (route : Route) (number : ℕ) (block : Block) (is_block : IsBlock u w number block)
    → IsReached w at point route
    → block ≡ instruction_block (scope_in u w) at point route
    → IsTold is_block
    → route.made ≡ []
told_unmade u w at point route number block (of_first one found onwards there) reached is told = by onwards.made refl is where
  by : (made : List ℕ)
      → onwards.made ≡ made
      → first_block (scope_in u w) one found onwards made ≡ instruction_block (scope_in u w) at point route
      → route.made ≡ []
  by [] none same =
      let here : one ≡ at = ap (λ (b : Block). b.at) same in
      let route_there : Some (Some onwards) ≡ Some (Some route) = sym there.is_route ∙ ap (slice_get w.routes) here ∙ reached.is_route in
      ap (λ (r : Route). r.made) (sym (same_Some onwards route (same_Some (Some onwards) (Some route) route_there))) ∙ none
  by (site ∷ sites) some same = absurd (cc (ap (λ (b : Block). b.of) same))
told_unmade u w at point route number block (of_own one found onwards there) reached is told =
    let here : one ≡ at = ap (λ (b : Block). b.at) is in
    let route_there : Some (Some onwards) ≡ Some (Some route) = sym there.is_route ∙ ap (slice_get w.routes) here ∙ reached.is_route in
    ap (λ (r : Route). r.made) (sym (same_Some onwards route (same_Some (Some onwards) (Some route) route_there))) ∙ told
told_unmade u w at point route number block (of_next one found onwards edge site sites there makes) reached is told =
    absurd (cc (ap (λ (b : Block). b.of) is))
told_unmade u w at point route number block (of_jump one edge_number found onwards edge site sites place there makes first) reached is told =
    absurd (cc (ap (λ (b : Block). b.of) is))
told_unmade u w at point route number block (of_handler one edge_number found onwards edge site sites place there makes first) reached is told =
    absurd (cc (ap (λ (b : Block). b.of) is))

module _ (u : Setup) (settle : SettleLaws u) {measure : ℕ} {one other : Run} (a : AtPlanned u measure one other) where
  abbrev w : WrittenMethod
  w = a.in_planned.one

  abbrev s : PlanScope
  s = scope_in u w

  abbrev route : Route
  route = a.settled.route

  abbrev point : Point
  point = a.settled.point

  pub reached : IsReached w a.f.place point route
  reached = a.settled.of_instruction.reached

  same_state : a.in_planned.block.state ≡ state_written route
  same_state = ap (λ (b : Block). b.state) a.settled.of_instruction.is

  same_point : a.in_planned.point ≡ point
  same_point =
      same_Some a.in_planned.point point
      (sym a.in_planned.is_point ∙ ap (λ (b : Block). slice_get w.flat.points b.at) a.settled.of_instruction.is ∙ reached.is_point)

  ready : IsReadyMethod u.classes u.links a.g.at w
  ready = settle.is_setup.ready a.g.at w a.in_planned.is_written

  there : IsRouteOf s ready.plan a.f.place a.f.place route
  there =
      let all = route_of s 0 ready.plan w.routes a.f.place route ready.routed reached.is_route in
      record { point = all.point; reached = all.reached; is = subst (λ (n : ℕ). IsRoute s n all.point route) (omega arith) all.is }

  valid : IsValidAt s ready.plan a.f.place there.point
  valid = ready.valid.each a.f.place there.point there.reached

  is_state : IsState (state_written route)
  is_state = without_is_state route.state (has route.made) (subst IsState (sym there.is.state) valid.is_planned.state.is_state) closed where
    closed : IsClosed (has route.made) route.state.objects
    closed =
        subst (λ (state : State). IsClosed (has route.made) state.objects) (sym there.is.state)
        (subst (λ (made : List ℕ). IsClosed (has made) there.point.state.objects) (sym there.is.made) valid.is_planned.made.closed)

  -- the two runs there
  pub halfway_here : Halfway u one other a.f a.ones w a.t.along.known point (state_written route) (own_start u w a.f.place route)
  halfway_here = record {
    virtuals = a.t.along.virtuals;
    are_apart = a.t.along.are_apart;
    are_known = a.t.along.are_known;
    names = a.t.along.names;
    g = a.g;
    rest_also = a.others;
    stands = a.t.along.stands ∙ ap (λ (now : List ℕ). map Beginning now ++ a.t.along.ones) a.none_now ∙ a.stands;
    stands_also = a.t.along.stands_also ∙ a.stands_also;
    is_written = a.in_planned.is_written;
    at = a.in_planned.at;
    held = a.in_planned.held;
    place_also = (at_own u settle w a.f a.g point route a.in_planned.block a.in_planned.is_written a.settled.here a.settled.of_instruction).place;
    tells =
        subst (λ (p : Point). Tells (first u) s a.t.along.virtuals (length a.ones) p (state_written route) a.f) same_point
        (subst (λ (state : State). Tells (first u) s a.t.along.virtuals (length a.ones) a.in_planned.point state a.f) same_state a.in_planned.tells);
    keeps =
        subst (λ (p : Point). Keeps w.flat a.t.along.names a.t.along.virtuals (length a.ones) [] p (state_written route) a.f a.g) same_point
        (subst (λ (state : State). Keeps w.flat a.t.along.names a.t.along.virtuals (length a.ones) [] a.in_planned.point state a.f a.g) same_state
        a.in_planned.keeps);
    own = λ number virtual is of_frame.
        subst (λ (state : State). IsTrue (is_present state.objects virtual.site)) same_state (a.in_planned.own number virtual is of_frame);
    below = a.below;
    owned = subst (AreOwned u a.t.along.virtuals one.world.memory) a.stands a.t.along.owned;
    memories =
        subst (λ (now : List ℕ). SameMemories (first u) (comparison u a.t.along.virtuals a.t.along.known).allocated
        (comparison u a.t.along.virtuals a.t.along.known).entered (apart a.t.along.virtuals) a.t.along.names now one.world.memory other.world.memory)
        a.none_now a.t.along.memories;
    seen = a.t.along.seen;
    goes = a.t.along.goes;
    goes_also = a.t.along.goes_also;
    actions = a.t.along.actions;
    used = a.t.along.used;
    typed = a.t.along.typed;
  }

  abbrev pub known_here : Known
  known_here = a.t.along.known ++ classes_in halfway_here.virtuals

  pub knowing_here : Halfway u one other a.f a.ones w known_here point (state_written route) (own_start u w a.f.place route)
  knowing_here = halfway_knowing halfway_here is_state

  pub met_there : IsMet u known_here w point route.state a.f
  met_there = by a.in_planned.moment where
    of_route : (p : Point) (r : Route) → IsReached w a.f.place p r → IsMet u a.t.along.known w p r.state a.f → IsMet u known_here w point route.state a.f
    of_route p r there_also met =
        subst (λ (found : Route). IsMet u known_here w point found.state a.f)
        (same_Some r route (same_Some (Some r) (Some route) (sym there_also.is_route ∙ reached.is_route)))
        (subst (λ (found : Point). IsMet u known_here w found r.state a.f) (same_Some p point (sym there_also.is_point ∙ reached.is_point))
        (met_more p r.state a.f (knows halfway_here is_state) met))

    by : Moment u a.t.along.known w a.f a.g a.in_planned.block → IsMet u known_here w point route.state a.f
    by (arrives here told) =
        let unmade = told_unmade u w a.f.place point route here.number a.in_planned.block here.is_block reached a.settled.of_instruction.is told in
        subst (λ (state : State). IsMet u known_here w point state a.f)
        (without_none route.state (has route.made) (λ site. ap (λ (made : List ℕ). has made site) unmade)) (met_here halfway_here is_state)
    by (stays p r here of_instruction met) = of_route p r of_instruction.reached met
    by (waits p r here of_instruction met carried awaits) = of_route p r of_instruction.reached met

  -- an instruction of which no template is written is written as it is
  abbrev pub is_carried : (class : ℕ) (instr : Instr) → point.instr ≡ Of class instr → written_at a class instr ≡ None → IsCarried u w a.f.place point route
  is_carried class instr is none =
      record { class = class; instr = instr; is_instr = is; items = items_carried s a.f.place point (state_written route) route class instr is none }

  abbrev pub carried_here : (class : ℕ) (instr : Instr) → point.instr ≡ Of class instr → written_at a class instr ≡ None
      → AtCarried u knowing_here.virtuals known_here knowing_here.names (length a.ones) a.f knowing_here.g
  carried_here class instr is none = carried_halfway knowing_here reached met_there (is_carried class instr is none)
