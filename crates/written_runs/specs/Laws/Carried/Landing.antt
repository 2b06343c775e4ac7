-- Frames that go together behind an edge on which the locals stay: on to the next point, and where something thrown lands in a handler.
use Rattle.std.proofs.Common.{◌≡◌, ◌<◌, ◌+◌, ◌-◌, ◌++◌, ◌==◌, ℕ, zero, suc, Bool, true, false, List, [], ◌∷◌, length, map, reverse, slice_get, take, Option, Some, option_map, refl, sym, ap, subst, ◌∙◌, arith}
use Rattle.std.proofs.lemmas.Bool.{eq-eqb, eqb-true, false≢true}
use Rattle.std.proofs.lemmas.List.{length-append}
use Rattle.std.proofs.lemmas.Option.{none-some, same_Some, slice_get_within}
use Rattle.class_model.specs.Frames.{is_top}
use Rattle.class_model.specs.declared.class_file.MethodAt.{MethodAt}
use Rattle.class_model.specs.declared.frame.VType.{VType}
use Rattle.class_tree.specs.Headers.{Classes}
use Rattle.flow_code.specs.FlatCode.{FlatCode}
use Rattle.flow_code.specs.declared.handlers.FlatHandler.{FlatHandler}
use Rattle.flow_code.specs.declared.point.Point.{Point}
use Rattle.machine_values.specs.Frames.{MethodState}
use Rattle.machine_values.specs.declared.frame.RunFrame.{RunFrame}
use Rattle.machine_values.specs.declared.frame.RunFrame.TheVariants.{Method}
use Rattle.machine_values.specs.declared.value.Value.{Value}
use Rattle.machine_values.specs.declared.value.Value.TheVariants.{Ref}
use Rattle.making_code.specs.Items.{WCatch, to_handler_pad, to_point}
use Rattle.member_link.specs.Machine.Codes.{CodePoint, number_at, renumbered}
use Rattle.member_link.specs.Machine.Programs.{Catch, number_of_first}
use Rattle.member_link.specs.Machine.Replaced.{map_numbered}
use Rattle.member_link.specs.Scope.{Scope, scope_at}
use Rattle.plan_flow.specs.Laws.WrittenBlocks.{first_item}
use Rattle.plan_flow.specs.Must.{row_of_point}
use Rattle.plan_flow.specs.PlanRows.{RowEdge, Source, from_place, plain_value}
use Rattle.plan_flow.specs.PlanScope.{PlanScope, local_types, stack_types}
use Rattle.plan_flow.specs.PlanSlots.{edge_locals}
use Rattle.plan_flow.specs.PlanTable.{held_from}
use Rattle.plan_flow.specs.ReadyForPlans.{KeepsType, place_types}
use Rattle.plan_flow.specs.Written.Blocks.{state_written}
use Rattle.plan_flow.specs.Written.Templates.{catches_at as written_catches, catches_from, to_or_pad}
use Rattle.plan_flow.specs.Written.WrittenCode.{target_number, written_catch}
use Rattle.plan_flow.specs.declared.edge.EdgeKind.TheVariants as edges
use Rattle.same_runs.specs.Flats.{flat_catch, flat_point, flat_points}
use Rattle.same_runs.specs.Laws.Names.{held_more}
use Rattle.same_runs.specs.Renamings.{Names, NamesMore, SameHeld, and_value, no_values, same_reference}
use Rattle.same_runs.specs.SameFrames.{SameCatches, and_catch, catches_at, caught, no_catches}
use Rattle.virtual_state.specs.States.{State}
use Rattle.virtual_state.specs.declared.slot.Slot.TheVariants.{Unusable}
use Rattle.same_runs.specs.Laws.MethodPoints.{catches_are}
use Rattle.written_runs.specs.Inner.PlannedFrames.{InPlanned, IsReached, KeepStack, Known, blocks_in, scope_in}
use Rattle.written_runs.specs.Inner.Setup.{Setup, first, second}
use Rattle.written_runs.specs.Inner.Standing.{Stands, is_awaited}
use Rattle.written_runs.specs.Inner.Waiting.{IsNoJump, LeavesLocals, ThrowsThere}
use Rattle.written_runs.specs.Laws.Carried.Arriving.{arrives_planned, goes_planned}
use Rattle.written_runs.specs.Laws.Carried.Behind.{LocalsOver, MovesAlong, MovesStack, kept_of, keeps_behind, moves_stack, tells_behind}
use Rattle.written_runs.specs.Laws.Carried.EdgeBlocks.{EdgeBlock, handler_block_at}
use Rattle.written_runs.specs.Laws.Carried.Knowing.{CarriedFacts}
use Rattle.written_runs.specs.Laws.Carried.PlannedEdges.{EdgeThere, handler_there, slots_long, unusable_is_top}
use Rattle.written_runs.specs.Laws.Carried.LocalsStay.{locals_stay}
use Rattle.written_runs.specs.Laws.Carried.Points.{first_point_is, second_point_is}
use Rattle.written_runs.specs.Laws.Carried.Slots.{LeadsAlong, LeavesStack, got_left, leaves_stack}
use Rattle.written_runs.specs.Laws.Carried.Standing.{AtOwn, at_own}
use Rattle.written_runs.specs.Laws.Carried.Waiting.{AtCarried, AtInstruction, instruction_of}
use Rattle.written_runs.specs.Laws.FewerVirtuals.{AllOwned, GoesFewer}
use Rattle.written_runs.specs.Laws.Settling.{SettleLaws}
use Rattle.written_runs.specs.Laws.Templates.Stacks.{held_at, held_length}
use Rattle.written_runs.specs.VirtualObjects.{Virtuals, local_slots, stack_slots}

-- ---- numbers of points

first_numbered : (classes : Classes) (host : Scope) (flat : FlatCode) (number place : ℕ) (points : List Point) (point : Point)
    → slice_get points place ≡ Some point
    → number_of_first (λ (one : CodePoint). one.place == number + place) (map_numbered (flat_point classes host flat) number points) ≡ Some place
first_numbered classes host flat number place [] point is = absurd (none-some point is)
first_numbered classes host flat number zero (first ∷ points) point is = rw (eq-eqb number (number + 0) (omega arith)) refl
first_numbered classes host flat number (suc place) (first ∷ points) point is =
    let next : suc number + place ≡ number + suc place = omega arith in
    let rest = first_numbered classes host flat (suc number) place points point is in
    rw (apart number place) (ap (λ (n : ℕ). option_map suc (number_of_first (λ (one : CodePoint). one.place == n)
    (map_numbered (flat_point classes host flat) (suc number) points))) (sym next) ∙ ap (option_map suc) rest) where
      apart : (one more : ℕ) → (one == one + suc more) ≡ false
      apart one more = by (one == one + suc more) refl where
        by : (same : Bool) → (one == one + suc more) ≡ same → (one == one + suc more) ≡ false
        by true is = absurd (let equal = eqb-true one (one + suc more) is in omega (arith, equal))
        by false is = is

-- each point of flat code has its own number
pub number_stays : (classes : Classes) (host : Scope) (flat : FlatCode) (number : ℕ) (point : Point)
    → slice_get flat.points number ≡ Some point
    → number_at (flat_points classes host flat) number ≡ number
number_stays classes host flat number point is =
    let zeroth : 0 + number ≡ number = omega arith in
    let found : number_of_first (λ (one : CodePoint). one.place == number) (flat_points classes host flat) ≡ Some number =
    subst (λ (n : ℕ). number_of_first (λ (one : CodePoint). one.place == n) (flat_points classes host flat) ≡ Some number) zeroth
    (first_numbered classes host flat 0 number flat.points point is) in
    rw (found) refl

take_none : {A : Type 0} (count : ℕ) (items : List A) → count ≡ 0 → take count items ≡ []
take_none {A = A} count items none = ap (λ (n : ℕ). take n items) none

-- ---- along an edge

module _ (u : Setup) (laws : CarriedFacts u) {virtuals : Virtuals} {known : Known} {names : Names} {f g : MethodState} {rest rest_also : List RunFrame}
    (c : AtInstruction u virtuals names (length rest) f g) (owned : AllOwned u virtuals (Method f ∷ rest))
    (below : Stands u virtuals known (is_awaited u g.at) names rest rest_also) where
  abbrev s : PlanScope
  s = scope_in u c.w

  abbrev settle : SettleLaws u
  settle = laws.settle

  abbrev before : State
  before = state_written c.route

  abbrev local_count : ℕ
  local_count = length c.point.typed.locals

  abbrev entry_count : ℕ
  entry_count = length c.point.typed.stack

  reached : IsReached c.w f.place c.point c.route
  reached = c.of_instruction.reached

  pub own_there : AtOwn u c.w f.place c.point c.route g
  own_there = at_own u settle c.w f g c.point c.route c.block c.is_written c.here c.of_instruction

  -- the target of an edge
  pub leads_stack : {row : RowEdge} (edge : EdgeThere s f.place c.point c.route row) (taken : ℕ) (given : List Source)
      → LeavesStack s f.place c.point before row taken given
      → LeadsAlong s c.point edge.target before row taken given
  leads_stack {row = row} edge taken given leaves = record {
    is_target = edge.is_target;
    slots = slots_long u settle c.w g.at c.is_written (laws.rows_fit g.at c.w c.is_written) reached;
    as_many_locals = edge.as_many_locals;
    as_many =
        let of_types : length (stack_types s.flat row.to) ≡ length edge.target.typed.stack = rw (edge.is_target) refl in
        let entries = edge.fits.entries in
        let of_row = ap length leaves.stack in
        let both = length-append (held_from local_count (entry_count - taken)) given in
        let held_many = held_length local_count (entry_count - taken) in
        omega (arith, of_types, entries, of_row, both, held_many);
  }

  abbrev pub leads_along : {row : RowEdge} (edge : EdgeThere s f.place c.point c.route row) (taken : ℕ) (given : List Source)
      → LeavesLocals s f.place c.point before row taken given
      → LeadsAlong s c.point edge.target before row taken given
  leads_along edge taken given leaves = leads_stack edge taken given (leaves_stack leaves)

  -- behind an edge on which local units change
  abbrev pub planned_over : {row : RowEdge} (edge : EdgeThere s f.place c.point c.route row) (taken : ℕ) (given : List Source)
      (leaves : LeavesStack s f.place c.point before row taken given) (then also : MethodState)
      (moves : MovesStack s f.place c.point row names taken given f then also)
      → LocalsOver s f.place c.point edge.target before row virtuals (length rest) names names g then also
      → then.at ≡ f.at
      → then.held ≡ f.held
      → also.at ≡ g.at
      → also.held ≡ g.held
      → then.place ≡ row.to
      → (block : EdgeBlock u c.w then.place edge.of_row.edge)
      → also.place ≡ first_item c.w.form (blocks_in u c.w) block.number
      → KeepStack names (take (entry_count - taken) (stack_slots c.point before)) (take (entry_count - taken) (reverse f.stack)) moves.lower
      → InPlanned u (kept_of (length rest) edge.of_row.edge.state virtuals) known names (length rest) then also
  planned_over {row = row} edge taken given leaves then also moves over at held at_also held_also place block place_also lower =
      arrives_planned u virtuals known block (ap u.written at_also ∙ c.is_written) (at ∙ c.at ∙ sym at_also)
      (subst (λ (h : Option ℕ). SameHeld names h also.held) (sym held) (subst (SameHeld names f.held) (sym held_also) c.held))
      place_also (ap (slice_get c.w.flat.points) place ∙ edge.is_target)
      (tells_behind leaves (leads_stack edge taken given leaves) edge.of_row.is.state moves over c.tells)
      (keeps_behind leaves (leads_stack edge taken given leaves) edge.of_row.is.state moves over c.tells lower c.keeps)

  -- behind an edge the topmost frames stand as planned frames
  abbrev pub planned_along : {more : Names} {row : RowEdge} (edge : EdgeThere s f.place c.point c.route row) (taken : ℕ) (given : List Source)
      (leaves : LeavesLocals s f.place c.point before row taken given) (then also : MethodState)
      (moves : MovesAlong s f.place c.point edge.target before row more taken given f g then also)
      → then.at ≡ f.at
      → then.held ≡ f.held
      → also.at ≡ g.at
      → also.held ≡ g.held
      → then.place ≡ row.to
      → (block : EdgeBlock u c.w then.place edge.of_row.edge)
      → also.place ≡ first_item c.w.form (blocks_in u c.w) block.number
      → NamesMore names more
      → KeepStack more (take (entry_count - taken) (stack_slots c.point before)) (take (entry_count - taken) (reverse f.stack)) moves.lower
      → InPlanned u (kept_of (length rest) edge.of_row.edge.state virtuals) known more (length rest) then also
  planned_along {more = more} {row = row} edge taken given leaves then also moves at held at_also held_also place block place_also grows lower =
      arrives_planned u virtuals known block (ap u.written at_also ∙ c.is_written) (at ∙ c.at ∙ sym at_also)
      (subst (λ (h : Option ℕ). SameHeld more h also.held) (sym held) (subst (SameHeld more f.held) (sym held_also) (held_more grows c.held)))
      place_also (ap (slice_get c.w.flat.points) place ∙ edge.is_target)
      (tells_behind (leaves_stack leaves) (leads_along edge taken given leaves) edge.of_row.is.state (moves_stack moves)
      (locals_stay leaves (leads_along edge taken given leaves) moves c.tells grows c.keeps) c.tells)
      (keeps_behind (leaves_stack leaves) (leads_along edge taken given leaves) edge.of_row.is.state (moves_stack moves)
      (locals_stay leaves (leads_along edge taken given leaves) moves c.tells grows c.keeps) c.tells lower c.keeps)

  -- and all frames go together
  pub goes_along : {more : Names} {row : RowEdge} (edge : EdgeThere s f.place c.point c.route row) (taken : ℕ) (given : List Source)
      (leaves : LeavesLocals s f.place c.point before row taken given) (then also : MethodState)
      (moves : MovesAlong s f.place c.point edge.target before row more taken given f g then also)
      → then.at ≡ f.at
      → then.held ≡ f.held
      → also.at ≡ g.at
      → also.held ≡ g.held
      → then.place ≡ row.to
      → (block : EdgeBlock u c.w then.place edge.of_row.edge)
      → also.place ≡ first_item c.w.form (blocks_in u c.w) block.number
      → NamesMore names more
      → KeepStack more (take (entry_count - taken) (stack_slots c.point before)) (take (entry_count - taken) (reverse f.stack)) moves.lower
      → GoesFewer u virtuals known more (Method then ∷ rest) (Method also ∷ rest_also)
  goes_along edge taken given leaves then also moves at held at_also held_also place block place_also grows lower =
      goes_planned u virtuals known edge.of_row.edge.state
      (planned_along edge taken given leaves then also moves at held at_also held_also place block place_also grows lower) at
      grows owned (subst (λ (m : MethodAt). Stands u virtuals known (is_awaited u m) names rest rest_also) (sym at_also) below)

  -- a unit that is usable behind was usable before
  pub usable_along : {row : RowEdge} (edge : EdgeThere s f.place c.point c.route row)
      → edge_locals (row_of_point s f.place c.point) local_count row.by ≡ held_from 0 local_count
      → (unit : ℕ) (type : VType)
      → slice_get edge.target.typed.locals unit ≡ Some type
      → is_top type ≡ false
      → slice_get (local_slots c.point before) unit ≡ Some Unusable
      → ⊥
  usable_along {row = row} edge locals unit type is_type usable unusable =
      let within = slice_get_within edge.target.typed.locals unit type is_type in
      let many = edge.as_many_locals in
      let low : unit < local_count = omega (arith, within, many) in
      let zeroth : 0 + unit ≡ unit = omega arith in
      let of_target : slice_get (local_types s.flat row.to) unit ≡ Some type = rw (edge.is_target) is_type in
      let was = edge.fits.usable unit unit type of_target usable
      (ap (λ (sources : List Source). slice_get sources unit) locals ∙ held_at 0 local_count unit low
      ∙ ap (λ (n : ℕ). Some (from_place n)) zeroth) in
      let here : slice_get c.point.typed.locals unit ≡ Some was.0 =
      sym (got_left c.point.typed.locals c.point.typed.stack unit low) ∙ was.1 in
      let top = unusable_is_top u settle c.w g.at c.is_written (laws.rows_fit g.at c.w c.is_written) reached unit was.0 unusable here in
      false≢true (sym was.2 ∙ top)

  -- ---- handlers

  module _ (throws : ThrowsThere s f.place c.point c.route) (here : ℕ) where
    abbrev number : ℕ → ℕ
    number to = number_at (flat_points u.classes own_there.host c.w.flat) to

    lands_at : (place : ℕ) (handler : FlatHandler) (edge : EdgeThere s f.place c.point c.route
        (record { by = edges.Handler place; to = handler.to; guard = throws.guard }))
        (more : Names) (reference named : ℕ)
        → NamesMore names more
        → more reference ≡ Some named
        → GoesFewer u virtuals known more (Method (caught f handler.to reference) ∷ rest)
        (Method (caught g (target_number c.w.form (blocks_in u c.w) here
        (to_or_pad edge.of_row.edge.made (to_point edge.of_row.edge.to) (to_handler_pad f.place place))) named) ∷ rest_also)
    lands_at place handler edge more reference named grows name =
        goes_along edge entry_count (plain_value ∷ []) leaves (caught f handler.to reference)
        (caught g (target_number c.w.form (blocks_in u c.w) here
        (to_or_pad edge.of_row.edge.made (to_point edge.of_row.edge.to) (to_handler_pad f.place place))) named)
        moves refl refl refl refl refl at_block.0 at_block.1 grows
        (subst (λ (n : ℕ). KeepStack more (take n (stack_slots c.point before)) (take n (reverse f.stack)) []) (sym none) no_values) where
          none : entry_count - entry_count ≡ 0
          none = omega arith

          leaves : LeavesLocals s f.place c.point before (record { by = edges.Handler place; to = handler.to; guard = throws.guard }) entry_count
              (plain_value ∷ [])
          leaves = record {
            enough = omega arith;
            locals = refl;
            stack = ap (λ (n : ℕ). held_from local_count n ++ (plain_value ∷ [])) (sym none);
            plain = refl;
            objects = refl;
          }

          moves : MovesAlong s f.place c.point edge.target before (record { by = edges.Handler place; to = handler.to; guard = throws.guard }) more entry_count
              (plain_value ∷ []) f g (caught f handler.to reference)
              (caught g (target_number c.w.form (blocks_in u c.w) here
              (to_or_pad edge.of_row.edge.made (to_point edge.of_row.edge.to) (to_handler_pad f.place place))) named)
          moves = record {
            long = ap (λ (n : ℕ). length (take n (reverse f.stack))) none ∙ sym none;
            locals = refl;
            locals_also = refl;
            ones = Ref reference ∷ [];
            others = Ref named ∷ [];
            lower = [];
            same = and_value (same_reference name) no_values;
            stack = ap (λ (n : ℕ). take n (reverse f.stack) ++ (Ref reference ∷ [])) (sym none);
            stack_also = refl;
            usable = usable_along edge refl;
            uninit = edge.keeps;
            uninit_given = λ count type source value is kept site got. absurd (no_source count type source is kept);
          } where
            of_plain : (type : VType) → KeepsType f.place (place_types c.point.typed) type plain_value → ⊥
            of_plain type impossible = elim impossible [ ]

            no_source : (count : ℕ) (type : VType) (source : Source)
                → slice_get (plain_value ∷ []) count ≡ Some source
                → KeepsType f.place (place_types c.point.typed) type source
                → ⊥
            no_source zero type source is kept =
                of_plain type (subst (KeepsType f.place (place_types c.point.typed) type) (sym (same_Some plain_value source is)) kept)
            no_source (suc count) type source is kept = none-some source is

          at_block : (block : EdgeBlock u c.w handler.to edge.of_row.edge)
              × (target_number c.w.form (blocks_in u c.w) here
              (to_or_pad edge.of_row.edge.made (to_point edge.of_row.edge.to) (to_handler_pad f.place place))
              ≡ first_item c.w.form (blocks_in u c.w) block.number)
          at_block =
              handler_block_at u settle (caught f handler.to reference) (ap u.written c.at ∙ c.is_written) (edges.Handler place) reached edge.of_row.found
              edge.of_row.is.to edge.is_target place here refl edge.of_row.is.by

    pub catches_all : (count : ℕ) (handlers : List FlatHandler)
        → ((place : ℕ) (handler : FlatHandler) → slice_get handlers place ≡ Some handler → slice_get c.point.handlers (count + place) ≡ Some handler)
        → SameCatches (GoesFewer u virtuals known) names f g rest rest_also (map (renumbered number) (map flat_catch handlers))
        (map (written_catch c.w.form (blocks_in u c.w) here) (catches_from f.place c.route count handlers))
    catches_all count [] among = no_catches
    catches_all count (handler ∷ handlers) among =
        subst (λ (also : List WCatch). SameCatches (GoesFewer u virtuals known) names f g rest rest_also
        (map (renumbered number) (map flat_catch (handler ∷ handlers))) (map (written_catch c.w.form (blocks_in u c.w) here) also))
        (sym found)
        (and_catch {class = handler.catch_class} {to = number handler.to} (λ more reference named grows name.
        subst (λ (to : ℕ). GoesFewer u virtuals known more (Method (caught f to reference) ∷ rest)
        (Method (caught g (target_number c.w.form (blocks_in u c.w) here
        (to_or_pad edge.of_row.edge.made (to_point edge.of_row.edge.to) (to_handler_pad f.place count))) named) ∷ rest_also))
        (sym (number_stays u.classes own_there.host c.w.flat handler.to edge.target edge.is_target))
        (lands_at count handler edge more reference named grows name))
        (catches_all (suc count) handlers (λ place one is.
        let next : count + suc place ≡ suc count + place = omega arith in
        ap (slice_get c.point.handlers) (sym next) ∙ among (suc place) one is))) where
          zeroth : count + 0 ≡ count
          zeroth = omega arith

          edge : EdgeThere s f.place c.point c.route (record { by = edges.Handler count; to = handler.to; guard = throws.guard })
          edge =
              handler_there u settle c.w g.at c.is_written (laws.rows_fit g.at c.w c.is_written) reached throws.guard count handler throws.throws
              (ap (slice_get c.point.handlers) (sym zeroth) ∙ among 0 handler refl) throws.opens

          found : catches_from f.place c.route count (handler ∷ handlers)
              ≡ record {
                to = to_or_pad edge.of_row.edge.made (to_point edge.of_row.edge.to) (to_handler_pad f.place count);
                class = handler.catch_class;
              } ∷ catches_from f.place c.route (suc count) handlers
          found = rw (edge.of_row.found) refl

    -- what stands in the first code, and in the second, of handlers
    pub all_catches : SameCatches (GoesFewer u virtuals known) names f g rest rest_also (map (renumbered number) (map flat_catch c.point.handlers))
        (map (written_catch c.w.form (blocks_in u c.w) here) (written_catches f.place c.point c.route))
    all_catches =
        catches_all 0 c.point.handlers (λ place handler is.
        let zeroth : 0 + place ≡ place = omega arith in ap (slice_get c.point.handlers) zeroth ∙ is)

    pub first_catches : catches_at (first u) f ≡ map (renumbered number) (map flat_catch c.point.handlers)
    first_catches =
        catches_are (first u) f _
        (first_point_is u c.w own_there.host f c.point
        (laws.flat_code f.at c.w own_there.host (ap u.written c.at ∙ c.is_written) (ap (scope_at u.classes) c.at ∙ own_there.is_host))
        reached.is_point)

-- handlers one by one, around an instruction that is written as it is
pub carried_catches : (u : Setup) (laws : CarriedFacts u) {virtuals : Virtuals} {known : Known} {names : Names} {f g : MethodState}
    {rest rest_also : List RunFrame} (c : AtCarried u virtuals known names (length rest) f g)
    → AllOwned u virtuals (Method f ∷ rest)
    → Stands u virtuals known (is_awaited u g.at) names rest rest_also
    → ThrowsThere (scope_in u c.w) f.place c.point c.route
    → IsNoJump c.carried.instr
    → SameCatches (GoesFewer u virtuals known) names f g rest rest_also (catches_at (first u) f) (catches_at (second u) g)
carried_catches u laws {virtuals =
    virtuals} {known = known} {names = names} {f = f} {g = g} {rest = rest} {rest_also = rest_also} c owned below throws no_jump =
    subst (λ (ones : List Catch). SameCatches (GoesFewer u virtuals known) names f g rest rest_also ones (catches_at (second u) g))
    (sym (first_catches u laws (instruction_of c) owned below throws (0 + g.place)))
    (subst (SameCatches (GoesFewer u virtuals known) names f g rest rest_also _)
    (sym (catches_are (second u) g _
    (second_point_is u c.w f.place c.point c.route c.of_instruction.reached c.carried no_jump
    (own_there u laws (instruction_of c) owned below))))
    (all_catches u laws (instruction_of c) owned below throws (0 + g.place)))

-- a frame of the second that has moved in its method is caught as before
pub catches_moved : {u : Setup} {virtuals : Virtuals} {known : Known} {names : Names} {f g : MethodState} {rest rest_also : List RunFrame}
    {catches also : List Catch} (place : ℕ) (stack : List Value)
    → SameCatches (GoesFewer u virtuals known) names f g rest rest_also catches also
    → SameCatches (GoesFewer u virtuals known) names f (record g { place = place; stack = stack }) rest rest_also catches also
catches_moved place stack no_catches = no_catches
catches_moved place stack (and_catch {class = class} {to = to} {to_also = to_also} lands rest) =
    and_catch {class = class} {to = to} {to_also = to_also} lands (catches_moved place stack rest)
