-- The test of a local for null: where it holds null both raise the exception, the second behind a load and a jump that is not taken; else both go on.
use Rattle.std.proofs.Common.{◌≡◌, ◌<◌, ◌+◌, ◌-◌, ◌++◌, ℕ, suc, Bool, true, false, List, [], ◌∷◌, length, map, reverse, slice_get, take, Option, Some, None, option_and_then, option_map, refl, sym, ap, subst, ◌∙◌, arith}
use Rattle.std.proofs.lemmas.Bool.{false≢true, le-leb}
use Rattle.std.proofs.lemmas.List.{append-nil, length-drop, length-map, length-reverse, length-take-le, take_all}
use Rattle.std.proofs.lemmas.Option.{none-some, same_Some, slice_get-map, slice_get_within}
use Rattle.class_model.specs.Frames.{is_top}
use Rattle.class_model.specs.declared.descriptor.Kind.TheVariants as kinds
use Rattle.class_model.specs.declared.frame.VType.{VType}
use Rattle.class_model.specs.declared.frame.VType.TheVariants as types
use Rattle.class_model.specs.declared.instr.Instr.TheVariants.{Throw}
use Rattle.flow_code.specs.FlatCode.{FlatCode}
use Rattle.flow_code.specs.ReadTypes.{read_frame, read_type}
use Rattle.flow_code.specs.declared.point.FlatInstr.{FlatInstr}
use Rattle.flow_code.specs.declared.point.FlatInstr.TheVariants.{NullTest}
use Rattle.flow_code.specs.declared.point.Point.{Point}
use Rattle.machine_values.specs.Frames.{MethodState}
use Rattle.machine_values.specs.Values.{has_kind}
use Rattle.machine_values.specs.declared.frame.RunFrame.TheVariants.{Method}
use Rattle.machine_values.specs.declared.value.Value.{Value}
use Rattle.machine_values.specs.declared.value.Value.TheVariants.{Int, Long, Float, Double, Null, Ref}
use Rattle.making_code.specs.Items.{WItem, item, plain}
use Rattle.member_link.specs.BodyTyping.{RowHolds}
use Rattle.member_link.specs.Bodies.{item_row}
use Rattle.member_link.specs.Machine.Codes.{item_op, number_at, renumbered}
use Rattle.member_link.specs.Machine.Locals.{local_value}
use Rattle.member_link.specs.Machine.Ops.{test_local}
use Rattle.member_link.specs.Machine.Performing.{raised}
use Rattle.member_link.specs.Machine.Programs.{Code, Point as RunPoint, Program, point_at}
use Rattle.member_link.specs.Machine.Runs.{Run, turn}
use Rattle.member_link.specs.Machine.Stepping.{next_with, test_step}
use Rattle.member_link.specs.Machine.Throwables.{null_pointer}
use Rattle.member_link.specs.Scope.{scope_at}
use Rattle.plan_flow.specs.Laws.WrittenBlocks.{block_finished, first_item, next_starts, own_number, own_of}
use Rattle.plan_flow.specs.Must.{row_of_point}
use Rattle.plan_flow.specs.PlanRows.{PlanRow, where_plain}
use Rattle.plan_flow.specs.PlanScope.{PlanScope}
use Rattle.plan_flow.specs.PlanSlots.{held, is_open, readable}
use Rattle.plan_flow.specs.PlanTable.{falls_on, moving, row_at}
use Rattle.plan_flow.specs.Written.Blocks.{blocks_of, instruction_block, state_written}
use Rattle.plan_flow.specs.Written.Finish.{End, Finished, end_items, no_end, nop_end}
use Rattle.plan_flow.specs.Written.Routes.{Route}
use Rattle.plan_flow.specs.Written.Templates.{catches_at as written_catches, items_at, null_test}
use Rattle.plan_flow.specs.Written.WrittenCode.{block_items, written_code, written_point}
use Rattle.plan_flow.specs.Written.WrittenPrograms.{WrittenMethod}
use Rattle.plan_flow.specs.declared.edge.EdgeKind.TheVariants as edges
use Rattle.same_runs.specs.Flats.{flat_item, flat_points, instr_scope}
use Rattle.same_runs.specs.Laws.BothBegin.{counted}
use Rattle.virtual_state.specs.States.{State}
use Rattle.virtual_state.specs.declared.slot.Slot.{Slot}
use Rattle.virtual_state.specs.declared.slot.Slot.TheVariants.{Plain, Virt, Unusable}
use Rattle.same_runs.specs.Laws.MethodPoints.{catches_are, ends_there}
use Rattle.written_runs.specs.Inner.PlannedFrames.{IsReached, blocks_in, scope_in}
use Rattle.written_runs.specs.Inner.Setup.{Setup, first, second}
use Rattle.class_model.specs.declared.instr.Instr.TheVariants.{Nop}
use Rattle.member_link.specs.Rows.Operands.{IsReference}
use Rattle.member_link.specs.Rows.Readings.{row_by}
use Rattle.plan_flow.specs.Written.Blocks.{Block, leaves_to}
use Rattle.plan_flow.specs.Written.Finish.{end_of, is_empty}
use Rattle.plan_flow.specs.Written.WrittenCode.{Form, in_form, short, wide}
use Rattle.making_code.specs.StateFrames.{differ}
use Rattle.plan_flow.specs.Written.WrittenFrames.{written_frame}
use Rattle.same_runs.specs.Flats.{flat_catch}
use Rattle.same_runs.specs.TypedFlats.{reading_of}
use Rattle.same_runs.specs.Laws.Names.{names_themselves}
use Rattle.same_runs.specs.QuietMoves.{moved_at, moves, pushed}
use Rattle.same_runs.specs.Renamings.{SameValue, no_values, same_null, same_reference}
use Rattle.written_runs.specs.Inner.PlannedFrames.{KeepStack, KeptIn, of_own}
use Rattle.written_runs.specs.Inner.Waiting.{LeavesLocals, ThrowsThere}
use Rattle.written_runs.specs.Laws.Carried.Behind.{MovesAlong}
use Rattle.written_runs.specs.Laws.Carried.EdgeBlocks.{EdgeBlock, next_block_at}
use Rattle.written_runs.specs.Laws.Carried.Knowing.{CarriedLaws, facts_of}
use Rattle.written_runs.specs.Laws.Carried.Landing.{planned_along, usable_along}
use Rattle.written_runs.specs.Laws.Carried.MovesOn.{moves_on}
use Rattle.written_runs.specs.Laws.Carried.Planned.{halfway_here, instruction_halfway, own_start}
use Rattle.written_runs.specs.Laws.Carried.PlannedEdges.{EdgeThere, next_there, slots_long}
use Rattle.written_runs.specs.Laws.Carried.Points.{first_point_is}
use Rattle.written_runs.specs.Laws.Carried.Rows.{PlainRow, leaves_of, virtual_there}
use Rattle.written_runs.specs.Laws.Carried.Standing.{AtOwn, at_own, item_there, own_finished}
use Rattle.written_runs.specs.Laws.Carried.Turns.{all_owned, turned_here}
use Rattle.written_runs.specs.Laws.Carried.Waiting.{AtInstruction}
use Rattle.written_runs.specs.Laws.Carried.Works.{values_conform}
use Rattle.written_runs.specs.Laws.FewerVirtuals.{AllOwned}
use Rattle.written_runs.specs.Laws.Halfway.{Halfway}
use Rattle.written_runs.specs.Laws.Settling.{SettleLaws, ends_plain}
use Rattle.written_runs.specs.Laws.Simulation.{KeepsTurn}
use Rattle.written_runs.specs.Laws.Templates.Stacks.{get_in_take}
use Rattle.written_runs.specs.Laws.Turned.{turns_by_moves}
use Rattle.written_runs.specs.VirtualObjects.{local_slots, stack_slots}
use Rattle.member_link.specs.Machine.Programs.{Catch}
use Rattle.member_link.specs.Machine.Worlds.{stuck}
use Rattle.plan_flow.specs.PlanSlots.{is_plain}
use Rattle.same_runs.specs.Laws.CaughtUp.{BothTurn, turned_by_work}
use Rattle.same_runs.specs.Laws.Names.{held_more}
use Rattle.same_runs.specs.Laws.QuietBeginnings.{quietly_then, standing}
use Rattle.same_runs.specs.Laws.QuietMoves.{moves_quietly}
use Rattle.same_runs.specs.Laws.Raised.{raises_both}
use Rattle.same_runs.specs.Renamings.{Names, NamesMore}
use Rattle.same_runs.specs.SameFrames.{EndSame, SameCatches, Unwinds, catches_at, in_both}
use Rattle.same_runs.specs.Simulations.{Quietly}
use Rattle.written_runs.specs.Laws.Carried.Landing.{all_catches, catches_moved, first_catches}
use Rattle.written_runs.specs.Laws.Carried.PlannedEdges.{unusable_is_top}
use Rattle.written_runs.specs.Laws.Carried.Turns.{compares_here, keeps_both, not_stuck_here, seen_here, top_owned, typed_here}
use Rattle.written_runs.specs.Laws.Carried.Waiting.{instruction_more}
use Rattle.written_runs.specs.Laws.FewerVirtuals.{GoesFewer, OwnedBelow, over_turn, owned_below}
use Rattle.written_runs.specs.Laws.OwnFrames.{above_awaited, below_may_throw, goes_below, names_grown, typed_below, waiting_unwind, waits_below}
use Rattle.written_runs.specs.Laws.Templates.Stacks.{drop_at}
use Rattle.written_runs.specs.Laws.PlannedTurns.{AtPlanned}
use Rattle.written_runs.specs.WrittenRuns.{IsReadyMethod}

-- ---- the local that is tested

pub no_top : (flat : FlatCode) (locals : List VType) (local : ℕ) (type : VType)
    → slice_get (map (read_type flat) locals) local ≡ Some type
    → is_top type ≡ false
    → (before : VType) × (slice_get locals local ≡ Some before) × (is_top before ≡ false)
no_top flat locals local type is usable = by (slice_get locals local) refl where
  read : option_map (read_type flat) (slice_get locals local) ≡ Some type
  read = sym (slice_get-map (read_type flat) locals local) ∙ is

  of_type : (before : VType) → slice_get locals local ≡ Some before → read_type flat before ≡ type → is_top before ≡ false
  of_type types.Top there same = ap is_top same ∙ usable
  of_type types.Int there same = refl
  of_type types.Float there same = refl
  of_type types.Long there same = refl
  of_type types.Double there same = refl
  of_type types.Null there same = refl
  of_type types.UninitThis there same = refl
  of_type (types.Object name) there same = refl
  of_type (types.Uninit new) there same = refl

  by : (found : Option VType) → slice_get locals local ≡ found → (before : VType) × (slice_get locals local ≡ Some before) × (is_top before ≡ false)
  by None none = absurd (none-some type (sym (ap (option_map (read_type flat)) none) ∙ read))
  by (Some before) there = (before, there, of_type before there (same_Some (read_type flat before) type (sym (ap (option_map (read_type flat)) there) ∙ read)))

pub is_not_top : (type : VType) → IsReference type → is_top type ≡ false
is_not_top types.Null told = refl
is_not_top (types.Object name) told = refl
is_not_top types.UninitThis told = refl
is_not_top (types.Uninit new) told = refl
is_not_top types.Top told = absurd told
is_not_top types.Int told = absurd told
is_not_top types.Float told = absurd told
is_not_top types.Long told = absurd told
is_not_top types.Double told = absurd told

-- ---- what is written

items_plain : (s : PlanScope) (at : ℕ) (point : Point) (state : State) (route : Route) (local : ℕ)
    → point.instr ≡ NullTest local
    → held state local ≡ Plain
    → items_at s at point state route ≡ null_test at point route local
items_plain s at point state route local is holds = rw (is, holds) refl

items_virtual : (s : PlanScope) (at : ℕ) (point : Point) (state : State) (route : Route) (local site : ℕ)
    → point.instr ≡ NullTest local
    → held state local ≡ Virt site
    → items_at s at point state route ≡ []
items_virtual s at point state route local site is virtual = rw (is, virtual) refl

no_leaving : (point : Point) (route : Route) (local : ℕ) → point.instr ≡ NullTest local → leaves_to point route ≡ None
no_leaving point route local is = rw (is) refl

test_in_form : (form : Form) (at : ℕ) (point : Point) (route : Route) (local : ℕ) → in_form form (null_test at point route local ++ [])
    ≡ null_test at point route local
test_in_form short at point route local = refl
test_in_form wide at point route local = refl

-- a block without items ends with nothing, or a nop
data EndsEmpty (end : End) : Type 0 where
  ends_so : end ≡ no_end → EndsEmpty end
  ends_with_nop : end ≡ nop_end → EndsEmpty end

empty_ends : (flat : FlatCode) (block : Block) (behind : List Finished) → block.leaves ≡ None → block.items ≡ [] → EndsEmpty (end_of flat block behind)
empty_ends flat block [] leaves none = ends_so (rw (leaves, none) refl)
empty_ends flat block (next ∷ behind) leaves none = by (differ (written_frame flat block) (written_frame flat next.block)) refl where
  by : (differs : Bool) → differ (written_frame flat block) (written_frame flat next.block) ≡ differs → EndsEmpty (end_of flat block (next ∷ behind))
  by true told = ends_with_nop (rw (leaves, none, told) refl)
  by false told = ends_so (rw (leaves, none, told) refl)

empty_in_form : (form : Form) → in_form form ([] ++ end_items no_end) ≡ []
empty_in_form short = refl
empty_in_form wide = refl

nop_in_form : (form : Form) → in_form form ([] ++ end_items nop_end) ≡ item (plain Nop) ∷ []
nop_in_form short = refl
nop_in_form wide = refl

module _ (u : Setup) (laws : CarriedLaws u) {measure : ℕ} {one other : Run} (a : AtPlanned u measure one other) (local : ℕ)
    (is : a.settled.point.instr ≡ NullTest local) where
  abbrev P : Program
  P = first u

  abbrev Q : Program
  Q = second u

  abbrev settle : SettleLaws u
  settle = laws.turns.settle

  abbrev w : WrittenMethod
  w = a.in_planned.one

  abbrev s : PlanScope
  s = scope_in u w

  abbrev route : Route
  route = a.settled.route

  abbrev point : Point
  point = a.settled.point

  abbrev before : State
  before = state_written route

  abbrev f : MethodState
  f = a.f

  reached : IsReached w f.place point route
  reached = a.settled.of_instruction.reached

  abbrev h : Halfway u one other f a.ones w a.t.along.known point before (own_start u w f.place route)
  h = halfway_here u settle a

  abbrev c : AtInstruction u h.virtuals h.names (length a.ones) f h.g
  c = instruction_halfway h reached

  owned : AllOwned u h.virtuals (Method f ∷ a.ones)
  owned = all_owned u laws.turns measure h

  pub at_block : AtOwn u w f.place point route h.g
  at_block = at_own u settle w f h.g point route (instruction_block s f.place point route) h.is_written (record {
    number = own_number s w.routes f.place route;
    is_block = of_own f.place point route reached;
    place = refl;
    place_also = h.place_also;
  }) (record { reached = reached; is = refl })

  abbrev code : Code
  code = written_code s at_block.host u.constructor w.form (blocks_in u w)

  -- ---- the first run

  abbrev number : ℕ → ℕ
  number = number_at (flat_points u.classes at_block.host w.flat)

  first_there : point_at P f.at f.place ≡ Some (record { op = test_local local; catches = map (renumbered number) (map flat_catch point.handlers) })
  first_there =
      first_point_is u w at_block.host f point
      (laws.flat_code f.at w at_block.host (ap u.written h.at ∙ h.is_written) (ap (scope_at u.classes) h.at ∙ at_block.is_host)) reached.is_point
      ∙ ap (λ (i : FlatInstr). Some (record {
        op = item_op u.links number (instr_scope u.classes at_block.host w.flat i) (flat_item i);
        catches = map (renumbered number) (map flat_catch point.handlers);
      })) is

  turned : turn P one ≡ record one { world = test_step P (counted one) f a.ones (local_value kinds.Ref f.locals local) }
  turned = turned_here u laws.turns measure h _ first_there

  -- the local is there, and none that is Top
  tested : (type : VType) × (slice_get point.typed.locals local ≡ Some type) × (is_top type ≡ false)
  tested = let holds = row.local in no_top w.flat point.typed.locals local holds.0 holds.1 (is_not_top holds.0 holds.2) where
    ready : IsReadyMethod u.classes u.links h.g.at w
    ready = settle.is_setup.ready h.g.at w h.is_written

    abbrev_row : FlatInstr → Type 0
    abbrev_row i =
        RowHolds (instr_scope u.classes ready.scope w.flat i) (read_frame w.flat point.typed)
        (row_by (reading_of u.classes w.flat f.place point.typed i) (read_frame w.flat point.typed)
        (item_row (instr_scope u.classes ready.scope w.flat i) (read_frame w.flat point.typed) f.place (flat_item i)))

    row : abbrev_row (NullTest local)
    row = subst abbrev_row is (ready.code.typed.points f.place point reached.is_point).row

  low : local < length point.typed.locals
  low = slice_get_within point.typed.locals local tested.0 tested.1

  slots : length before.slots ≡ length point.typed.locals + length point.typed.stack
  slots = slots_long u settle w h.g.at h.is_written (laws.rows_fit h.g.at w h.is_written) reached

  local_slot : (slot : Slot) → slice_get before.slots local ≡ Some slot → slice_get (local_slots point before) local ≡ Some slot
  local_slot slot there = get_in_take (length point.typed.locals) before.slots local slot low there

  many_stack : length f.stack ≡ length point.typed.stack
  many_stack =
      let conforms = laws.conforms one.world f a.ones w point h.typed h.stands (ap u.written h.at ∙ h.is_written) reached.is_point in
      sym (length-reverse f.stack) ∙ values_conform conforms.stack ∙ length-map point.typed.stack (read_type w.flat)

  -- ---- on to the next point

  abbrev row_there : PlanRow
  row_there = record (moving point.typed 0 []) { throws = Some (where_plain local) }

  row_is : row_of_point s f.place point ≡ row_there
  row_is = ap (row_at s f.place point.typed) is

  plain_row : PlainRow s f.place point before 0 []
  plain_row = record {
    row = row_there;
    is_row = row_is;
    locals = refl;
    stack = refl;
    plain = refl;
    unchanged = refl;
    opens = refl;
    falls = ap falls_on is;
  }

  edge : EdgeThere s f.place point route (record { by = edges.Next; to = f.place + 1; guard = (row_of_point s f.place point).next })
  edge =
      next_there u settle w h.g.at h.is_written (laws.rows_fit h.g.at w h.is_written) reached (ap falls_on is)
      (ap (λ (row : PlanRow). is_open before row.next) row_is)

  abbrev then : MethodState
  then = next_with f f.stack

  abbrev moved_to : ℕ → MethodState
  moved_to place = record h.g { place = place; stack = h.g.stack }

  abbrev next_start : ℕ
  next_start = first_item w.form (blocks_in u w) (suc (own_number s w.routes f.place route))

  leaves : LeavesLocals s f.place point before (record { by = edges.Next; to = f.place + 1; guard = (row_of_point s f.place point).next }) 0 []
  leaves = leaves_of plain_row (omega arith)

  moves_there : (place : ℕ) → MovesAlong s f.place point edge.target before
      (record { by = edges.Next; to = f.place + 1; guard = (row_of_point s f.place point).next }) h.names 0 [] f h.g then (moved_to place)
  moves_there place = record {
    long =
        let many = many_stack in
        let back = length-reverse f.stack in
        length-take-le (length point.typed.stack - 0) (reverse f.stack) (omega (arith, many, back));
    locals = refl;
    locals_also = refl;
    ones = [];
    others = [];
    lower = reverse h.g.stack;
    same = no_values;
    stack =
        let many = many_stack in
        let back = length-reverse f.stack in
        sym (append-nil (take (length point.typed.stack - 0) (reverse f.stack))
        ∙ take_all (length point.typed.stack - 0) (reverse f.stack) (omega (arith, many, back)));
    stack_also = sym (append-nil (reverse h.g.stack));
    usable = usable_along u (facts_of laws) c owned h.below edge leaves.locals;
    uninit = edge.keeps;
    uninit_given = λ count type source value told kept site got. absurd (none-some source told);
  }

  block : (block : EdgeBlock u w then.place edge.of_row.edge) × (next_start ≡ first_item w.form (blocks_in u w) block.number)
  block =
      next_block_at u settle then (ap u.written h.at ∙ h.is_written) edges.Next reached edge.of_row.found edge.of_row.is.to edge.is_target refl
      edge.of_row.is.by

  lower : KeepStack h.names (take (length point.typed.stack - 0) (stack_slots point before)) (take (length point.typed.stack - 0) (reverse f.stack))
      (reverse h.g.stack)
  lower =
      let many = many_stack in
      let back = length-reverse f.stack in
      let all = slots in
      let cut = length-drop (length point.typed.locals) before.slots in
      subst (λ (values : List Value). KeepStack h.names (take (length point.typed.stack - 0) (stack_slots point before)) values (reverse h.g.stack))
      (sym (take_all (length point.typed.stack - 0) (reverse f.stack) (omega (arith, many, back))))
      (subst (λ (found : List Slot). KeepStack h.names found (reverse f.stack) (reverse h.g.stack))
      (sym (take_all (length point.typed.stack - 0) (stack_slots point before) (omega (arith, all, cut)))) h.keeps.stack)

  pub goes_on : (count place : ℕ)
      → local_value kinds.Ref f.locals local ≡ Some (Ref count)
      → (moved : ℕ)
      → moves code moved h.g ≡ Some (moved_to place)
      → place ≡ next_start
      → KeepsTurn u measure one other
  unfolding moves_there
  goes_on reference place found moved is_moved at_next =
      turns_by_moves u settle measure one other
      (moves_on u laws.turns measure h then (moved_to place) edge.of_row.edge.state
      (planned_along u (facts_of laws) {known =
      a.t.along.known} c owned h.below edge 0 [] leaves then (moved_to place) (moves_there place) refl refl refl refl refl block.0
      (at_next ∙ block.1) (names_themselves h.names) lower) refl refl
      (turned ∙ ap (λ (value : Option Value). record one { world = test_step P (counted one) f a.ones value }) found) code moved at_block.is_code is_moved
      (λ none. let within = slice_get_within w.flat.points f.place point reached.is_point in let weighs = a.low in omega (arith, within, weighs)))

  -- ---- a virtual object is not null

  module _ (site : ℕ) (virtual : held before local ≡ Virt site) where
    no_items : (instruction_block s f.place point route).items ≡ []
    no_items = items_virtual s f.place point before route local site is virtual

    virtual_slot : slice_get before.slots local ≡ Some (Virt site)
    virtual_slot = virtual_there (slice_get before.slots local) site virtual

    refers : (reference : ℕ) × (local_value kinds.Ref f.locals local ≡ Some (Ref reference))
    refers =
        let there = h.tells.locals local site (local_slot (Virt site) virtual_slot) in
        let value = there.2.is in
        (there.2.virtual.reference, rw (there.1, value) refl)

    next_by : (end : End) → (own_finished u w f.place point route).end ≡ end → (items : List WItem) → in_form w.form ([] ++ end_items end) ≡ items
        → next_start ≡ h.g.place + length items
    next_by end ends items written =
        next_starts w.form (blocks_in u w) (own_number s w.routes f.place route) (own_finished u w f.place point route)
        (block_finished w.flat (blocks_of s w.routes) (own_number s w.routes f.place route) (instruction_block s f.place point route)
        (own_of s w.routes f.place point route reached.is_point reached.is_route))
        ∙ ap (λ (one_end : End). own_start u w f.place route + length (in_form w.form
        ((instruction_block s f.place point route).items ++ end_items one_end))) ends
        ∙ ap (λ (all : List WItem). own_start u w f.place route + length (in_form w.form (all ++ end_items end))) no_items
        ∙ ap (λ (all : List WItem). own_start u w f.place route + length all) written
        ∙ ap (λ (n : ℕ). n + length items) (sym h.place_also)

    tests_virtual : KeepsTurn u measure one other
    tests_virtual = by (empty_ends w.flat (instruction_block s f.place point route) _ (no_leaving point route local is) no_items) where
      by : EndsEmpty (own_finished u w f.place point route).end → KeepsTurn u measure one other
      by (ends_so ends) =
          let next = next_by no_end ends [] (empty_in_form w.form) in
          let same : h.g.place ≡ next_start = omega (arith, next) in
          goes_on refers.0 h.g.place refers.1 0 refl same
      by (ends_with_nop ends) =
          goes_on refers.0 (h.g.place + 1) refers.1 1 moved (sym (next_by nop_end ends (item (plain Nop) ∷ []) (nop_in_form w.form))) where
            nop_items : block_items w.form (own_finished u w f.place point route) ≡ item (plain Nop) ∷ []
            nop_items =
                ap (λ (one_end : End). in_form w.form ((instruction_block s f.place point route).items ++ end_items one_end)) ends
                ∙ ap (λ (all : List WItem). in_form w.form (all ++ end_items nop_end)) no_items ∙ nop_in_form w.form

            nop_there : slice_get code.points h.g.place
                ≡ Some (written_point s at_block.host u.constructor w.form (blocks_in u w) (0 + (h.g.place + 0)) (item (plain Nop)))
            nop_there =
                let zeroth : h.g.place ≡ h.g.place + 0 = omega arith in
                sym (ap (λ (found : Option Code). option_and_then (λ (one_code : Code). slice_get one_code.points h.g.place) found) at_block.is_code)
                ∙ ap (point_at Q h.g.at) zeroth
                ∙ item_there at_block reached 0 (item (plain Nop)) (ap (λ (all : List WItem). slice_get all 0) nop_items)

            moved : moves code 1 h.g ≡ Some (moved_to (h.g.place + 1))
            moved = ap (λ (found : Option RunPoint). option_and_then (moves code 0) (moved_at h.g found)) nop_there

  -- ---- a plain one is loaded

  module _ (no_object : held before local ≡ Plain) (plain_slot : slice_get (local_slots point before) local ≡ Some Plain) where
    its_items : (instruction_block s f.place point route).items ≡ null_test f.place point route local
    its_items = items_plain s f.place point before route local is no_object

    all_items : block_items w.form (own_finished u w f.place point route) ≡ null_test f.place point route local
    all_items =
        ap (λ (one_end : End). in_form w.form ((instruction_block s f.place point route).items ++ end_items one_end))
        (ends_plain w.flat (instruction_block s f.place point route) _ (no_leaving point route local is) (ap is_empty its_items))
        ∙ ap (λ (all : List WItem). in_form w.form (all ++ [])) its_items
        ∙ test_in_form w.form f.place point route local

    next_there_is : next_start ≡ h.g.place + 4
    next_there_is =
        next_starts w.form (blocks_in u w) (own_number s w.routes f.place route) (own_finished u w f.place point route)
        (block_finished w.flat (blocks_of s w.routes) (own_number s w.routes f.place route) (instruction_block s f.place point route)
        (own_of s w.routes f.place point route reached.is_point reached.is_route))
        ∙ ap (λ (all : List WItem). own_start u w f.place route + length all) all_items
        ∙ ap (λ (n : ℕ). n + 4) (sym h.place_also)

    item_at : (more place : ℕ) (one_item : WItem)
        → slice_get (null_test f.place point route local) more ≡ Some one_item
        → place ≡ h.g.place + more
        → slice_get code.points place ≡ Some (written_point s at_block.host u.constructor w.form (blocks_in u w) (0 + place) one_item)
    item_at more place one_item there same =
        sym (ap (λ (found : Option Code). option_and_then (λ (one_code : Code). slice_get one_code.points place) found) at_block.is_code)
        ∙ ap (point_at Q h.g.at) same
        ∙ item_there at_block reached more one_item (ap (λ (all : List WItem). slice_get all more) all_items ∙ there)
        ∙ ap (λ (n : ℕ). Some (written_point s at_block.host u.constructor w.form (blocks_in u w) (0 + n) one_item)) (sym same)

    loaded : (value : Value) → MethodState
    loaded value = record h.g { place = h.g.place + 1; stack = value ∷ h.g.stack }

    -- the first item loads the local
    load_moves : (value : Value) (count : ℕ) → local_value kinds.Ref h.g.locals local ≡ Some value
        → moves code (suc count) h.g ≡ moves code count (record h.g { place = h.g.place + 1; stack = value ∷ h.g.stack })
    load_moves value count there =
        ap (λ (found : Option RunPoint). option_and_then (moves code count) (moved_at h.g found)) (item_at 0 h.g.place _ refl (omega arith))
        ∙ ap (λ (found : Option Value). option_and_then (moves code count) (option_map (pushed h.g) found)) there

    kept : (value : Value) → local_value kinds.Ref f.locals local ≡ Some value → KeptIn h.names h.g local value
    kept value there = h.keeps.locals local value plain_slot (by (slice_get f.locals local) refl) where
      of_value : (held_value : Value) → slice_get f.locals local ≡ Some (Some held_value) → (b : Bool) → has_kind kinds.Ref held_value ≡ b
          → slice_get f.locals local ≡ Some (Some value)
      of_value held_value here_it true kind =
          here_it ∙ ap (λ (v : Value). Some (Some v)) (same_Some held_value value (sym (rw (here_it, kind) refl) ∙ there))
      of_value held_value here_it false kind = absurd (none-some value (sym (rw (here_it, kind) refl) ∙ there))

      by : (found : Option (Option Value)) → slice_get f.locals local ≡ found → slice_get f.locals local ≡ Some (Some value)
      by None none = absurd (none-some value (sym (rw (none) refl) ∙ there))
      by (Some None) none = absurd (none-some value (sym (rw (none) refl) ∙ there))
      by (Some (Some held_value)) some = of_value held_value some (has_kind kinds.Ref held_value) refl

    -- a reference: the jump is taken
    pub tests_reference : (reference : ℕ) → local_value kinds.Ref f.locals local ≡ Some (Ref reference) → KeepsTurn u measure one other
    tests_reference reference there = by (kept (Ref reference) there) where
      of_same : (also : Value) → slice_get h.g.locals local ≡ Some (Some also) → SameValue h.names (Ref reference) also → KeepsTurn u measure one other
      of_same (Int number_also) is_also same = elim same [ ]
      of_same (Long number_also) is_also same = elim same [ ]
      of_same (Float bits) is_also same = elim same [ ]
      of_same (Double bits) is_also same = elim same [ ]
      of_same Null is_also same = elim same [ ]
      of_same (Ref named) is_also (same_reference name) =
          goes_on reference (0 + (h.g.place + 1) + 3) there 2 moved (let next = next_there_is in omega (arith, next)) where
            moved : moves code 2 h.g ≡ Some (moved_to (0 + (h.g.place + 1) + 3))
            moved =
                load_moves (Ref named) 1 (rw (is_also) refl)
                ∙ ap (λ (found : Option RunPoint). option_and_then (moves code 0)
                (moved_at (record h.g { place = h.g.place + 1; stack = Ref named ∷ h.g.stack }) found)) (item_at 1 (h.g.place + 1) _ refl refl)

      by : KeptIn h.names h.g local (Ref reference) → KeepsTurn u measure one other
      by held_also = of_same held_also.also held_also.is held_also.same

    -- null: both raise
    module _ (null : local_value kinds.Ref f.locals local ≡ Some Null) (null_also : local_value kinds.Ref h.g.locals local ≡ Some Null) where
      abbrev third : ℕ
      third = h.g.place + 1 + 1 + 1

      abbrev at_throw : MethodState
      at_throw = record h.g { place = third; stack = Null ∷ h.g.stack }

      moved_there : moves code 3 h.g ≡ Some at_throw
      moved_there =
          load_moves Null 2 null_also
          ∙ ap (λ (found : Option RunPoint). option_and_then (moves code 1)
          (moved_at (record h.g { place = h.g.place + 1; stack = Null ∷ h.g.stack }) found)) (item_at 1 (h.g.place + 1) _ refl refl)
          ∙ ap (λ (found : Option RunPoint). option_and_then (moves code 0) (moved_at (record h.g { place = h.g.place + 1 + 1; stack = h.g.stack }) found))
          (item_at 2 (h.g.place + 1 + 1) _ refl (omega arith))

      quiet : (later : ℕ) × Quietly Q (standing other (Method h.g ∷ h.rest_also) other.world.memory other.world.steps)
          (standing other (Method at_throw ∷ h.rest_also) other.world.memory later)
      quiet = moves_quietly other code 3 h.g at_throw other.world.memory other.world.steps h.goes_also at_block.is_code moved_there

      abbrev waits : Run
      waits = standing other (Method at_throw ∷ h.rest_also) other.world.memory quiet.0

      same_run : standing other (Method h.g ∷ h.rest_also) other.world.memory other.world.steps ≡ other
      same_run = λ i. record other { world = record other.world { frames = sym h.stands_also i } }

      abbrev throws_item : WItem
      throws_item = record { instr = plain Throw; targets = []; catches = written_catches f.place point route }

      abbrev at_point : RunPoint
      at_point = written_point s at_block.host u.constructor w.form (blocks_in u w) (0 + third) throws_item

      throw_there : point_at Q h.g.at third ≡ Some at_point
      throw_there =
          ap (λ (found : Option Code). option_and_then (λ (one_code : Code). slice_get one_code.points third) found) at_block.is_code
          ∙ item_at 3 third throws_item refl (omega arith)

      turned_first : turn P one ≡ record one { world = raised P (counted one) null_pointer (Method f ∷ a.ones) }
      turned_first = turned ∙ ap (λ (value : Option Value). record one { world = test_step P (counted one) f a.ones value }) null

      abbrev thrower : MethodState
      thrower = record h.g { place = third; stack = h.g.stack }

      turned_second : turn Q waits ≡ record waits { world = raised Q (counted waits) null_pointer (Method thrower ∷ h.rest_also) }
      turned_second = turned_by_work Q waits at_throw h.rest_also at_point h.goes_also refl throw_there (λ world. refl)
          (le-leb 1 (length (Null ∷ h.g.stack)) (omega arith))

      throws : ThrowsThere s f.place point route
      throws = record {
        guard = where_plain local;
        throws = ap (λ (row : PlanRow). row.throws) row_is;
        opens = ap is_plain no_object;
      }

      rest_owned : OwnedBelow u h.virtuals a.ones
      rest_owned = owned_below (top_owned u laws.turns measure h)

      unwinds : (more : Names) → NamesMore h.names more
          → Unwinds P Q (GoesFewer u h.virtuals a.t.along.known) (GoesFewer u h.virtuals a.t.along.known) more (Method f ∷ a.ones)
          (Method thrower ∷ h.rest_also)
      unwinds more grows =
          in_both ends (held_more grows h.held)
          (subst (λ (catches : List Catch). SameCatches (GoesFewer u h.virtuals a.t.along.known) more f thrower a.ones h.rest_also catches
          (catches_at Q thrower))
          (sym (first_catches u (facts_of laws) {known = a.t.along.known} (instruction_more grows c) owned (names_grown grows h.below) throws (0 + third)))
          (subst (SameCatches (GoesFewer u h.virtuals a.t.along.known) more f thrower a.ones h.rest_also _) (sym (catches_are Q thrower at_point throw_there))
          (catches_moved third h.g.stack
          (all_catches u (facts_of laws) {known = a.t.along.known} (instruction_more grows c) owned (names_grown grows h.below) throws (0 + third)))))
          (goes_below u laws.turns.frames h.virtuals a.t.along.known rest_owned (names_grown grows h.below))
          (λ no_initialiser.
          waiting_unwind u laws.turns.frames h.virtuals a.t.along.known (names_grown grows h.below)
          (waits_below u laws.turns.frames h.virtuals a.t.along.known f h.g ends.method ends.is (sym h.at) no_initialiser) rest_owned
          (above_awaited u f ends.method ends.is no_initialiser) (below_may_throw u f ends.method ends.is no_initialiser a.ones)
          (typed_below u (typed_here u laws.turns measure h))) where
            ends : EndSame P Q f thrower
            ends = ends_there laws.turns.frames.same f thrower _ first_there (sym h.at)

      both : BothTurn P Q (over_turn u h.virtuals a.t.along.known) h.names one waits
      both =
          let seen = seen_here u laws.turns measure h in
          raises_both null_pointer (Method f ∷ a.ones) (Method thrower ∷ h.rest_also) laws.turns.frames.same (compares_here u laws.turns measure h) h.memories
          (record { known = seen.known; events = seen.events }) h.goes h.goes_also turned_first turned_second unwinds

      pub tests_raise : KeepsTurn u measure one other
      tests_raise =
          keeps_both u laws.turns measure h (record {
            waits = both.waits;
            quietly = quietly_then (subst (λ (r : Run). Quietly Q r waits) same_run quiet.1) both.quietly;
            first = both.first;
            second = both.second;
            turned = both.turned;
            turned_also = both.turned_also;
            after = both.after;
          })

    -- by the value
    pub tests_plain : KeepsTurn u measure one other
    tests_plain = by (local_value kinds.Ref f.locals local) refl where
      is_stuck : (found : Option Value) → local_value kinds.Ref f.locals local ≡ found → (test_step P (counted one) f a.ones found).halt ≡ stuck → ⊥
      is_stuck found there halts =
          not_stuck_here u laws.turns measure h (test_step P (counted one) f a.ones found)
          (turned ∙ ap (λ (value : Option Value). record one { world = test_step P (counted one) f a.ones value }) there) halts

      null_of : (also : Value) → slice_get h.g.locals local ≡ Some (Some also) → SameValue h.names Null also → local_value kinds.Ref h.g.locals local
          ≡ Some Null
      null_of (Int number_also) is_also same = elim same [ ]
      null_of (Long number_also) is_also same = elim same [ ]
      null_of (Float bits) is_also same = elim same [ ]
      null_of (Double bits) is_also same = elim same [ ]
      null_of (Ref named) is_also same = elim same [ ]
      null_of Null is_also same_null = rw (is_also) refl

      by : (found : Option Value) → local_value kinds.Ref f.locals local ≡ found → KeepsTurn u measure one other
      by None there = absurd (is_stuck None there refl)
      by (Some Null) there = let also = kept Null there in tests_raise there (null_of also.also also.is also.same)
      by (Some (Ref reference)) there = tests_reference reference there
      by (Some (Int n)) there = absurd (is_stuck (Some (Int n)) there refl)
      by (Some (Long n)) there = absurd (is_stuck (Some (Long n)) there refl)
      by (Some (Float n)) there = absurd (is_stuck (Some (Float n)) there refl)
      by (Some (Double n)) there = absurd (is_stuck (Some (Double n)) there refl)

  -- The turn of a test for null keeps the runs related.
  pub null_test_turn : KeepsTurn u measure one other
  null_test_turn = by found.0 found.1 where
    found : (slot : Slot) × (slice_get before.slots local ≡ Some slot)
    found = let all = slots in let within = low in let there = drop_at local before.slots (omega (arith, all, within)) in (there.0, there.1)

    by : (slot : Slot) → slice_get before.slots local ≡ Some slot → KeepsTurn u measure one other
    by Plain there = tests_plain (ap readable there) (local_slot Plain there)
    by (Virt site) there = tests_virtual site (ap readable there)
    by Unusable there =
        absurd (false≢true (sym tested.2
        ∙ unusable_is_top u settle w h.g.at h.is_written (laws.rows_fit h.g.at w h.is_written) reached local tested.0 (local_slot Unusable there) tested.1))
