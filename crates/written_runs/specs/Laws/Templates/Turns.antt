-- A turn of the first run at a planned frame whose instruction has a template, put together: the first frame goes on to the next point, virtual objects
-- change or are dropped, and the second frame makes its moves and pushes.
use Rattle.std.proofs.Common.{◌≡◌, ◌≢◌, ◌⊎◌, ◌≤◌, ◌<◌, ◌+◌, ◌-◌, ◌++◌, ℕ, suc, Bool, true, List, [], ◌∷◌, length, map, reverse, slice_get, Some, None, Option, IsTrue, refl, sym, ap, subst, ◌∙◌, arith, inl, inr}
use Rattle.std.specs.List.{AllByRecursion}
use Rattle.std.proofs.lemmas.Bool.{false≢true}
use Rattle.std.proofs.lemmas.List.{length-reverse, reverse-append}
use Rattle.std.proofs.lemmas.Option.{same_Some, slice_get_within}
use Rattle.flow_code.specs.FlatCode.{FlatCode}
use Rattle.flow_code.specs.ReadTypes.{read_type}
use Rattle.flow_code.specs.WrittenUnits.{written_units}
use Rattle.flow_code.specs.declared.point.Point.{Point}
use Rattle.machine_values.specs.Frames.{MethodState}
use Rattle.machine_values.specs.declared.frame.RunFrame.{RunFrame}
use Rattle.machine_values.specs.declared.frame.RunFrame.TheVariants.{Method}
use Rattle.machine_values.specs.declared.value.Value.{Value}
use Rattle.making_code.specs.Items.{WInstr, item}
use Rattle.making_code.specs.Units.{field_unit, unit_number}
use Rattle.member_link.specs.Machine.Runs.{Run, turn}
use Rattle.member_link.specs.Machine.Stepping.{op_step}
use Rattle.member_link.specs.Machine.Worlds.{Memory, World}
use Rattle.plan_flow.specs.Effect.{IsEffect, IsEffectIn}
use Rattle.plan_flow.specs.Laws.WrittenBlocks.{first_item, own_number}
use Rattle.plan_flow.specs.Must.{row_of_point}
use Rattle.plan_flow.specs.PlanRows.{RowEdge, Source}
use Rattle.plan_flow.specs.PlanSlots.{is_open}
use Rattle.plan_flow.specs.PlanTable.{falls_on}
use Rattle.plan_flow.specs.Plans.{state_left}
use Rattle.plan_flow.specs.Written.Blocks.{Block, leaves_to, state_written}
use Rattle.plan_flow.specs.Written.Routes.{RouteEdge, edge_by}
use Rattle.plan_flow.specs.Written.Templates.{items_at}
use Rattle.plan_flow.specs.Written.WrittenCode.{written_code}
use Rattle.plan_flow.specs.Written.WrittenPrograms.{WrittenMethod}
use Rattle.plan_flow.specs.declared.edge.EdgeKind.TheVariants as edges
use Rattle.same_runs.specs.Laws.AloneTurn.{unbegun_in}
use Rattle.same_runs.specs.Laws.BothBegin.{counted}
use Rattle.same_runs.specs.Laws.Compared.{seen_as}
use Rattle.same_runs.specs.Laws.Names.{names_themselves}
use Rattle.same_runs.specs.Laws.Objects.{get_before, get_new, get_old}
use Rattle.same_runs.specs.Laws.QuietBeginnings.{standing}
use Rattle.same_runs.specs.Renamings.{Names, SameHeld}
use Rattle.same_runs.specs.SameMemories.{SameMemories}
use Rattle.same_runs.specs.SameWorlds.{SameSeen}
use Rattle.typed_runs.specs.TypedWorlds.{TypedWorld}
use Rattle.virtual_state.specs.Laws.Objects.{same_or_not}
use Rattle.virtual_state.specs.Sites.{has}
use Rattle.virtual_state.specs.States.{IsState, State, is_present}
use Rattle.virtual_state.specs.Without.{without}
use Rattle.written_runs.specs.Inner.PlannedFrames.{IsBlock, IsTold, KeepStack, Keeps, Known, arrives, blocks_in, scope_in}
use Rattle.written_runs.specs.Inner.Setup.{Setup, first}
use Rattle.written_runs.specs.Inner.Standing.{Stands, apart, comparison, is_awaited, planned_stand}
use Rattle.written_runs.specs.Inner.Together.{Along, AreKnown, AreOwned, weight}
use Rattle.plan_flow.specs.Laws.OpenEdges.{IsOfRow, next_edge}
use Rattle.written_runs.specs.Laws.Carried.Standing.{AtOwn, at_own}
use Rattle.written_runs.specs.Laws.FewerVirtuals.{AreFewer, fewer_are_apart, memories_fewer}
use Rattle.written_runs.specs.Laws.Halfway.{Halfway}
use Rattle.written_runs.specs.Laws.LessVirtual.{was_in}
use Rattle.written_runs.specs.Laws.MadeItems.{AreOwn}
use Rattle.written_runs.specs.Laws.PlannedTurns.{AtPlanned}
use Rattle.written_runs.specs.Laws.Simulation.{KeepsTurn}
use Rattle.written_runs.specs.Laws.StandingMore.{KnowsMore, SameBelow, stands_more}
use Rattle.written_runs.specs.Laws.StillThere.{ShapesStay, known_still}
use Rattle.written_runs.specs.Laws.Templates.Arriving.{ArrivesAt, arrives_next, target_point}
use Rattle.written_runs.specs.Laws.Templates.Dropped.{is_kept, keeps_kept, kept_in, own_kept, same_below_kept, tells_kept}
use Rattle.written_runs.specs.Laws.Templates.Edges.{keeps_over, tells_over}
use Rattle.written_runs.specs.Laws.Templates.Items.{IsStraight, OwnMoves, all_moved, op_of, own_items}
use Rattle.written_runs.specs.Laws.Templates.Known.{TemplateLaws, before, first_op, many_mapped, of_plan, point, reached, s, turn_is, typed_then, values_many, w, written}
use Rattle.written_runs.specs.Laws.Templates.Moving.{MovesOver, goes_over}
use Rattle.written_runs.specs.Laws.Turned.{turns_by_moves}
use Rattle.written_runs.specs.VirtualObjects.{AreApart, Tells, Virtual, Virtuals, stack_slots}

-- ---- frames that own virtual objects

pub on_top : (x : RunFrame) (ones : List RunFrame) → reverse (x ∷ ones) ≡ reverse ones ++ x ∷ []
on_top x ones = reverse-append (x ∷ []) ones

-- the frame on top goes on
pub owned_going_on : (u : Setup) (virtuals : Virtuals) (memory : Memory) (f later : MethodState) (ones : List RunFrame)
    → later.at ≡ f.at
    → AreOwned u virtuals memory (Method f ∷ ones)
    → AreOwned u virtuals memory (Method later ∷ ones)
owned_going_on u virtuals memory f later ones at owned = record {
  owner = λ number virtual is.
      let was = owned.owner number virtual is in by virtual was.0 was.1 was.2 was.3 (same_or_not virtual.frame (length (reverse ones)));
  begun = owned.begun;
} where
  by : (virtual : Virtual) (g : MethodState) (one : _)
      → slice_get (reverse (Method f ∷ ones)) virtual.frame ≡ Some (Method g)
      → u.written g.at ≡ Some one
      → (virtual.frame ≡ length (reverse ones)) ⊎ (virtual.frame ≢ length (reverse ones))
      → (owner : MethodState) × (also : _)
      × (slice_get (reverse (Method later ∷ ones)) virtual.frame ≡ Some (Method owner))
      × (u.written owner.at ≡ Some also)
  by virtual g one there of_method (inl here) =
      let same : Method f ≡ Method g =
      same_Some (Method f) (Method g) (sym (get_new (reverse ones) (Method f))
      ∙ ap (slice_get (reverse ones ++ Method f ∷ [])) (sym here)
      ∙ ap (λ (frames : List RunFrame). slice_get frames virtual.frame) (sym (on_top (Method f) ones)) ∙ there) in (
        later,
        one,
        ap (λ (frames : List RunFrame). slice_get frames virtual.frame) (on_top (Method later) ones)
            ∙ ap (slice_get (reverse ones ++ Method later ∷ [])) here ∙ get_new (reverse ones) (Method later),
        (let it : f ≡ g = cc same in ap u.written (at ∙ ap (λ (m : MethodState). m.at) it) ∙ of_method),
      )
  by virtual g one there of_method (inr apart_from) = (
    g,
    one,
    ap (λ (frames : List RunFrame). slice_get frames virtual.frame) (on_top (Method later) ones)
        ∙ get_old (reverse ones) (Method later) virtual.frame (Method g)
        (get_before (reverse ones) (Method f) virtual.frame (Method g) (λ same. absurd (apart_from same))
        (ap (λ (frames : List RunFrame). slice_get frames virtual.frame) (sym (on_top (Method f) ones)) ∙ there)),
    of_method,
  )

pub knows_itself : (known : Known) → KnowsMore known known
knows_itself known = record { keeps = λ reference class is. is }

-- a frame with the same units and stack keeps the same
pub keeps_alike : {flat : FlatCode} {names : Names} {virtuals : Virtuals} {frame : ℕ} {next : Point} {state : State} {f : MethodState}
    (g also : MethodState)
    → also.locals ≡ g.locals
    → also.stack ≡ g.stack
    → Keeps flat names virtuals frame [] next state f g
    → Keeps flat names virtuals frame [] next state f also
keeps_alike {flat = flat} {names = names} {next = next} {state = state} {f = f} g also locals stack keeps = record {
  locals = λ unit value is here.
      let kept = keeps.locals unit value is here in
      record { also = kept.also; is = ap (λ (units : List (Option Value)). slice_get units unit) locals ∙ kept.is; same = kept.same };
  stack = subst (λ (vs : List Value). KeepStack names (stack_slots next state) (reverse f.stack) (reverse vs)) (sym stack) keeps.stack;
  fields = λ site number told virtual value is there plain here.
      let kept = keeps.fields site number told virtual value is there plain here in
      record { also = kept.also; is = ap (λ (units : List (Option Value)). slice_get units (unit_number flat (field_unit site number))) locals ∙ kept.is; same = kept.same };
  made = λ site done. absurd (false≢true done);
  room = subst (λ (units : List (Option Value)). written_units flat ≤ length units) (sym locals) keeps.room;
}

-- ---- behind a turn

-- Runs go along where the second is halfway, at the start of a block with the state there.
abbrev pub along_there : {u : Setup} {one r : Run} {f : MethodState} {rest : List RunFrame} {w : WrittenMethod} {known : Known} {next : Point}
    {state : State} {place : ℕ}
    (h : Halfway u one r f rest w known next state place) (after : MethodState)
    → after.at ≡ h.g.at
    → after.held ≡ h.g.held
    → after.locals ≡ h.g.locals
    → after.stack ≡ h.g.stack
    → (block : Block) (number : ℕ) (is_block : IsBlock u w number block)
    → IsTold is_block
    → block.state ≡ state
    → f.place ≡ block.at
    → after.place ≡ first_item w.form (blocks_in u w) number
    → slice_get w.flat.points block.at ≡ Some next
    → (steps : ℕ)
    → Along u one (standing r (Method after ∷ h.rest_also) r.world.memory steps)
along_there {u = u} {one = one} {r = r} {f = f} {rest = rest} {w = w} {known = known} {next = next} h after at held locals stack block number is_block
    told state place begins is_point steps = record {
      virtuals = h.virtuals;
      are_apart = h.are_apart;
      known = known;
      are_known = h.are_known;
      names = h.names;
      now = [];
      ones = Method f ∷ rest;
      stands = h.stands;
      others = Method after ∷ h.rest_also;
      stands_also = refl;
      frames =
          planned_stand (record {
            one = w;
            is_written = ap u.written at ∙ h.is_written;
            at = h.at ∙ sym at;
            held = subst (SameHeld h.names f.held) (sym held) h.held;
            block = block;
            moment = arrives (record { number = number; is_block = is_block; place = place; place_also = begins }) told;
            point = next;
            is_point = is_point;
            tells = subst (λ (s : State). Tells (first u) (scope_in u w) h.virtuals (length rest) next s f) (sym state) h.tells;
            keeps =
                subst (λ (s : State). Keeps w.flat h.names h.virtuals (length rest) [] next s f after) (sym state)
                (keeps_alike h.g after locals stack h.keeps);
            own = λ place_of virtual is of_frame.
                subst (λ (s : State). IsTrue (is_present s.objects virtual.site)) (sym state) (h.own place_of virtual is of_frame);
          }) (λ waiting. absurd (false≢true waiting))
          (subst (λ (waiting : Bool). Stands u h.virtuals known waiting h.names rest h.rest_also) (ap (is_awaited u) (sym at)) h.below);
      owned = h.owned;
      alone = tt;
      no_turn = tt;
      memories = h.memories;
      seen = record { known = h.seen.known; events = h.seen.events };
      goes = h.goes;
      goes_also = h.goes_also;
      actions = h.actions;
      used = h.used;
      typed = h.typed;
    }

module _ (u : Setup) (laws : TemplateLaws u) {measure : ℕ} {one other : Run} (a : AtPlanned u measure one other) where
  -- ---- the first

  -- What a turn of the first leads to: its frame goes on alone, and virtual objects are there or change.
  pub record FirstTurn : Type 0 where
    pub later : MethodState
    pub memory : Memory
    pub turned : op_step (first u) (counted one) a.f a.ones (first_op u laws a)
        ≡ record (counted one) { memory = memory; frames = Method later ∷ a.ones }
    pub at : later.at ≡ a.f.at
    pub held : later.held ≡ a.f.held
    pub virtuals : Virtuals
    pub are_apart : AreApart virtuals
    pub below : SameBelow a.t.along.virtuals virtuals (length a.ones)
    pub owned : AreOwned u virtuals memory (Method later ∷ a.ones)
    pub shapes : ShapesStay one.world.memory.heap memory.heap
    pub unbegun : unbegun_in (first u) memory ≡ unbegun_in (first u) one.world.memory
    pub memories : SameMemories (first u) (comparison u virtuals a.t.along.known).allocated (comparison u virtuals a.t.along.known).entered
        (apart virtuals) a.t.along.names [] memory other.world.memory

  pub memories_here : SameMemories (first u) (comparison u a.t.along.virtuals a.t.along.known).allocated
      (comparison u a.t.along.virtuals a.t.along.known).entered (apart a.t.along.virtuals) a.t.along.names [] one.world.memory
      other.world.memory
  memories_here =
      subst (λ (now : List ℕ). SameMemories (first u) (comparison u a.t.along.virtuals a.t.along.known).allocated
      (comparison u a.t.along.virtuals a.t.along.known).entered (apart a.t.along.virtuals) a.t.along.names now one.world.memory
      other.world.memory) a.none_now a.t.along.memories

  -- one that leaves the memory as it is
  abbrev pub still_turn : (later : MethodState)
      → op_step (first u) (counted one) a.f a.ones (first_op u laws a) ≡ record (counted one) { frames = Method later ∷ a.ones }
      → later.at ≡ a.f.at
      → later.held ≡ a.f.held
      → FirstTurn
  still_turn later turned at held = record {
    later = later;
    memory = one.world.memory;
    turned = turned;
    at = at;
    held = held;
    virtuals = a.t.along.virtuals;
    are_apart = a.t.along.are_apart;
    below = λ frame low. record { forth = λ site virtual there. there; back = λ site virtual there. there };
    owned =
        owned_going_on u a.t.along.virtuals one.world.memory a.f later a.ones at
        (subst (AreOwned u a.t.along.virtuals one.world.memory) a.stands a.t.along.owned);
    shapes = record { stays = λ reference object is. (object, is, refl) };
    unbegun = refl;
    memories = memories_here;
  }

  -- ---- an edge

  -- control goes on over an edge of the row that is open, and what the frames have behind it
  pub record TakesEdge (t : FirstTurn) (row : RowEdge) (edge : RouteEdge) (middle : MethodState) : Type 0 where
    pub found : edge_by a.settled.route row.by ≡ Some edge
    pub of_row : IsOfRow (scope_in u a.in_planned.one) a.settled.point a.f.place (state_written a.settled.route) row edge
    pub place : t.later.place ≡ row.to
    pub gives : List Source
    pub over : (next : Point)
        → slice_get a.in_planned.one.flat.points row.to ≡ Some next
        → length t.later.stack ≡ length next.typed.stack
        → MovesOver u laws a row next t.virtuals gives t.later middle

  same_left : state_left (of_plan u laws a).point ≡ state_written a.settled.route
  same_left =
      ap (λ (state : State). without state (has (of_plan u laws a).point.made)) (sym (of_plan u laws a).is.state)
      ∙ ap (λ (made : List ℕ). without a.settled.route.state (has made)) (sym (of_plan u laws a).is.made)

  -- the edges of the plan are those of the row
  pub effect_here : IsEffectIn (scope_in u a.in_planned.one) a.f.place (Some a.settled.point) (state_written a.settled.route)
      (of_plan u laws a).is.effect
  effect_here =
      subst (λ (state : State). IsEffectIn (scope_in u a.in_planned.one) a.f.place (Some a.settled.point) state (of_plan u laws a).is.effect) same_left
      (subst (λ (found : Option Point). IsEffectIn (scope_in u a.in_planned.one) a.f.place found (state_left (of_plan u laws a).point)
      (of_plan u laws a).is.effect) (reached u laws a).is_point
      (subst (λ (n : ℕ). IsEffect (scope_in u a.in_planned.one) n (state_left (of_plan u laws a).point) (of_plan u laws a).is.effect) (omega arith)
      (of_plan u laws a).is.is_effect))

  module _ (t : FirstTurn) {row : RowEdge} {edge : RouteEdge} {middle : MethodState} (e : TakesEdge t row edge middle) where
    abbrev then_run : Run
    then_run = record one { world = record (counted one) { memory = t.memory; frames = Method t.later ∷ a.ones } }

    pub turned : turn (first u) one ≡ then_run
    turned = turn_is u laws a ∙ ap (λ (world : World). record one { world = world }) t.turned

    pub typed : TypedWorld (first u) u.typings then_run.world
    typed = subst (TypedWorld (first u) u.typings) t.turned (typed_then u laws a)

    pub written_then : u.written t.later.at ≡ Some a.in_planned.one
    written_then = ap u.written t.at ∙ written u laws a

    pub target : (next : Point) × (slice_get a.in_planned.one.flat.points edge.to ≡ Some next) × IsState edge.state
    target =
        target_point u laws.settle a.f a.in_planned.one a.f.place a.settled.point a.settled.route row.by edge (written u laws a) (reached u laws a)
        e.found

    pub is_next : slice_get a.in_planned.one.flat.points row.to ≡ Some target.0
    is_next = ap (slice_get a.in_planned.one.flat.points) (sym e.of_row.to) ∙ target.1

    pub place_then : t.later.place ≡ edge.to
    place_then = e.place ∙ sym e.of_row.to

    pub many_then : length t.later.stack ≡ length target.0.typed.stack
    many_then =
        sym (length-reverse t.later.stack)
        ∙ values_many (laws.conforms then_run.world t.later a.ones a.in_planned.one target.0 typed refl written_then
        (ap (slice_get a.in_planned.one.flat.points) e.place ∙ is_next)).stack
        ∙ many_mapped (read_type a.in_planned.one.flat) target.0.typed.stack

    pub over : MovesOver u laws a row target.0 t.virtuals e.gives t.later middle
    over = e.over target.0 is_next many_then

    abbrev left : Virtuals
    left = kept_in (length a.ones) edge.state t.virtuals

    pub fewer : AreFewer t.virtuals left
    fewer = record { keeps = is_kept (length a.ones) edge.state; is = refl }

    pub below_left : SameBelow a.t.along.virtuals left (length a.ones)
    below_left = λ frame low.
        let one_step = t.below frame low in
        let other_step = same_below_kept (length a.ones) edge.state t.virtuals frame low in
        record {
          forth = λ site virtual is. other_step.forth site virtual (one_step.forth site virtual is);
          back = λ site virtual is. one_step.back site virtual (other_step.back site virtual is);
        }

    pub left_was : (number : ℕ) (virtual : Virtual) → slice_get left number ≡ Some virtual
        → (place : ℕ) × (slice_get t.virtuals place ≡ Some virtual)
    left_was number virtual is =
        let was = was_in (is_kept (length a.ones) edge.state) t.virtuals number virtual is in (was.number, was.is_there)

    -- the second frame behind its moves, by the state of the edge
    abbrev pub halfway_behind : (after : MethodState)
        → after.at ≡ a.g.at
        → after.held ≡ a.g.held
        → after.locals ≡ middle.locals
        → after.stack ≡ middle.stack
        → (steps : ℕ)
        → Halfway u (turn (first u) one) (standing other (Method after ∷ a.others) other.world.memory steps) t.later a.ones a.in_planned.one
        a.t.along.known target.0 edge.state after.place
    halfway_behind after method held locals stack steps = record {
      virtuals = left;
      are_apart = fewer_are_apart fewer t.are_apart;
      are_known =
          subst (λ (r : Run). AreKnown r.world.memory.heap a.t.along.known) (sym turned) (known_still t.shapes a.t.along.are_known);
      names = a.t.along.names;
      g = after;
      rest_also = a.others;
      stands = ap (λ (r : Run). r.world.frames) turned;
      stands_also = refl;
      is_written = ap u.written method ∙ a.in_planned.is_written;
      at = t.at ∙ a.in_planned.at ∙ sym method;
      held =
          subst (λ (h : Option ℕ). SameHeld a.t.along.names h after.held) (sym t.held)
          (subst (SameHeld a.t.along.names a.f.held) (sym held) a.in_planned.held);
      place_also = refl;
      tells = tells_kept (length a.ones) edge.state t.virtuals target.2 (tells_over e.of_row.state is_next (goes_over u laws a over));
      keeps =
          keeps_kept (length a.ones) edge.state t.virtuals target.2
          (keeps_alike middle after locals stack (keeps_over e.of_row.state is_next (goes_over u laws a over)));
      own = λ number virtual is of_frame. own_kept (length a.ones) edge.state t.virtuals number virtual is of_frame;
      below =
          subst (λ (waiting : Bool). Stands u left a.t.along.known waiting a.t.along.names a.ones a.others) (ap (is_awaited u) (sym method))
          (stands_more below_left (knows_itself a.t.along.known) (names_themselves a.t.along.names) a.below);
      owned = subst (λ (r : Run). AreOwned u left r.world.memory (Method t.later ∷ a.ones)) (sym turned) (record {
        owner = λ number virtual is. let was = left_was number virtual is in t.owned.owner was.0 virtual was.1;
        begun = λ number class virtual is shape. let was = left_was number virtual is in t.owned.begun was.0 class virtual was.1 shape;
      });
      memories =
          subst (λ (r : Run). SameMemories (first u) (comparison u left a.t.along.known).allocated (comparison u left a.t.along.known).entered
          (apart left) a.t.along.names [] r.world.memory other.world.memory) (sym turned) (memories_fewer u a.t.along.known fewer t.memories);
      seen =
          subst (λ (r : Run). SameSeen (comparison u left a.t.along.known) a.t.along.names r.world
          (standing other (Method after ∷ a.others) other.world.memory steps).world) (sym turned) (record {
            known = a.t.along.seen.known;
            events = (seen_as {c = comparison u a.t.along.virtuals a.t.along.known} {d = comparison u left a.t.along.known}
                (record { allocated = λ n m less. less; entered = λ n m less. less }) a.t.along.seen).events;
          });
      goes = ap (λ (r : Run). r.world.halt) turned ∙ a.t.along.goes;
      goes_also = a.t.along.goes_also;
      actions = a.t.along.actions ∙ ap (λ (r : Run). r.actions) (sym turned);
      used = a.t.along.used ∙ ap (λ (r : Run). r.used) (sym turned);
      typed = subst (λ (r : Run). TypedWorld (first u) u.typings r.world) (sym turned) typed;
    }

    abbrev pub left_over : ℕ
    left_over = weight (first u) (turn (first u) one).world.memory [] (length a.in_planned.one.flat.points - t.later.place)

    -- to a later point less is left
    pub falls_below : a.f.place < t.later.place → left_over < measure
    falls_below later =
        let low = a.low in
        let same : unbegun_in (first u) (turn (first u) one).world.memory ≡ unbegun_in (first u) one.world.memory =
        ap (λ (r : Run). unbegun_in (first u) r.world.memory) turned ∙ t.unbegun in
        let within = slice_get_within a.in_planned.one.flat.points a.f.place a.settled.point (reached u laws a).is_point in
        omega (arith, low, same, later, within)

  -- where the second stands at the block of the instruction
  pub stands_own : AtOwn u a.in_planned.one a.f.place a.settled.point a.settled.route a.g
  stands_own =
      at_own u laws.settle a.in_planned.one a.f a.g a.settled.point a.settled.route a.in_planned.block a.in_planned.is_written a.settled.here
      a.settled.of_instruction

  -- ---- the edge to the next point

  -- the first frame goes on to the next point, and the second's moves are made
  pub record GoesNext (t : FirstTurn) : Type 0 where
    pub falls : falls_on (point u laws a).instr ≡ true
    pub opens : is_open (before u laws a) (row_of_point (s u laws a) a.f.place (point u laws a)).next ≡ true
    pub place : t.later.place ≡ a.f.place + 1
    pub leaves : leaves_to (point u laws a) a.settled.route ≡ None
    pub instrs : List WInstr
    pub items : items_at (s u laws a) a.f.place (point u laws a) (before u laws a) a.settled.route ≡ map item instrs
    pub own : AreOwn instrs
    pub middle : MethodState
    pub straight : (there : AtOwn u (w u laws a) a.f.place (point u laws a) a.settled.route a.g)
        → AllByRecursion IsStraight (map (op_of there (reached u laws a) instrs items own) instrs)
    pub moved : (there : AtOwn u (w u laws a) a.f.place (point u laws a) a.settled.route a.g)
        → all_moved (map (op_of there (reached u laws a) instrs items own) instrs) a.g ≡ Some middle
    pub gives : List Source
    pub over : (next : Point)
        → slice_get (w u laws a).flat.points (a.f.place + 1) ≡ Some next
        → length t.later.stack ≡ length next.typed.stack
        → MovesOver u laws a
        (record { by = edges.Next; to = a.f.place + 1; guard = (row_of_point (s u laws a) a.f.place (point u laws a)).next }) next t.virtuals gives
        t.later middle

  module _ (t : FirstTurn) (goes : GoesNext t) where
    abbrev next_row_here : RowEdge
    next_row_here = record { by = edges.Next; to = a.f.place + 1; guard = (row_of_point (scope_in u a.in_planned.one) a.f.place a.settled.point).next }

    has_next : (edge : RouteEdge)
        × (edge_by a.settled.route edges.Next ≡ Some edge)
        × IsOfRow (scope_in u a.in_planned.one) a.settled.point a.f.place (state_written a.settled.route) next_row_here edge
    has_next =
        next_edge (scope_in u a.in_planned.one) a.settled.point a.f.place (state_written a.settled.route) (of_plan u laws a).is.effect
        (of_plan u laws a).point.edges a.settled.route effect_here (of_plan u laws a).is.edges goes.falls goes.opens

    takes : TakesEdge t next_row_here has_next.0 goes.middle
    takes = record { found = has_next.1; of_row = has_next.2; place = goes.place; gives = goes.gives; over = goes.over }

    moves_made : OwnMoves u a.in_planned.one a.f.place a.settled.route
        (written_code (scope_in u a.in_planned.one) stands_own.host u.constructor a.in_planned.one.form (blocks_in u a.in_planned.one)) a.g goes.middle
    moves_made =
        own_items stands_own (reached u laws a) goes.instrs goes.items goes.own goes.leaves goes.middle (goes.straight stands_own)
        (goes.moved stands_own)

    arrives_there : ArrivesAt u a.in_planned.one has_next.0
        (first_item a.in_planned.one.form (blocks_in u a.in_planned.one)
        (suc (own_number (scope_in u a.in_planned.one) a.in_planned.one.routes a.f.place a.settled.route)))
    arrives_there =
        arrives_next u laws.settle t.later a.in_planned.one a.f.place a.settled.point (target t takes).0 a.settled.route has_next.0
        (written_then t takes) (reached u laws a) has_next.1 has_next.2.by (place_then t takes) (target t takes).1

    pub goes_next : KeepsTurn u measure one other
    goes_next =
        turns_by_moves u laws.settle measure one other (record {
          g = a.g;
          rest_also = a.others;
          stands_also = a.t.along.stands_also ∙ a.stands_also;
          goes_also = a.t.along.goes_also;
          code =
              written_code (scope_in u a.in_planned.one) stands_own.host u.constructor a.in_planned.one.form (blocks_in u a.in_planned.one);
          is_code = stands_own.is_code;
          count = moves_made.count;
          after = moves_made.after;
          moved = moves_made.moved;
          along = λ steps.
              along_there (halfway_behind t takes moves_made.after moves_made.method moves_made.held moves_made.locals moves_made.stack steps)
              moves_made.after refl refl refl refl arrives_there.block arrives_there.number arrives_there.is_block arrives_there.is_told
              arrives_there.state (place_then t takes ∙ sym arrives_there.at) (moves_made.place ∙ arrives_there.begins)
              (ap (slice_get a.in_planned.one.flat.points) arrives_there.at ∙ (target t takes).1) steps;
          none_now = λ steps. refl;
          measure_then = left_over t takes;
          low = λ steps. omega arith;
          falls = λ none. falls_below t takes (let place = goes.place in omega (arith, place));
        })
