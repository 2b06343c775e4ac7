-- A turn of both at an operation on plain operands, in a planned frame: what goes together behind each way in which it may end.
use Rattle.std.proofs.Common.{◌≡◌, ◌≤◌, ◌+◌, ◌-◌, ◌++◌, nat_le, ℕ, suc, Bool, true, false, List, [], ◌∷◌, drop, length, reverse, slice_get, take, Some, None, IsTrue, refl, sym, ap, subst, ◌∙◌, arith}
use Rattle.std.proofs.lemmas.Bool.{false≢true, le-leb, leb-true}
use Rattle.std.proofs.lemmas.List.{length-drop, length-map, length-reverse, length-take-le, reverse-append, reverse-reverse}
use Rattle.class_model.specs.declared.frame.VType.{VType}
use Rattle.flow_code.specs.ReadTypes.{is_site_object, read_type}
use Rattle.flow_code.specs.declared.point.Point.{Point}
use Rattle.machine_values.specs.Frames.{MethodState}
use Rattle.machine_values.specs.Heaps.{Heap}
use Rattle.machine_values.specs.Values.{units_of_values}
use Rattle.machine_values.specs.declared.frame.RunFrame.{RunFrame}
use Rattle.machine_values.specs.declared.frame.RunFrame.TheVariants.{Beginning, Library, Method}
use Rattle.machine_values.specs.declared.value.Value.{Value}
use Rattle.machine_values.specs.declared.value.Value.TheVariants.{Ref}
use Rattle.member_link.specs.Machine.Beginnings.{frame_with}
use Rattle.member_link.specs.Machine.Codes.{number_at, run_point}
use Rattle.member_link.specs.Machine.Completions.{Completion, gives}
use Rattle.member_link.specs.Machine.Ops.{Op}
use Rattle.member_link.specs.Machine.Performing.{resumed}
use Rattle.member_link.specs.Machine.Programs.{Point as RunPoint, Program, point_at}
use Rattle.member_link.specs.Machine.Runs.{Run}
use Rattle.member_link.specs.Machine.Stepping.{ends_stuck, op_step, work_step}
use Rattle.member_link.specs.Machine.Work.{arity, work}
use Rattle.member_link.specs.Machine.Worlds.{Memory, World}
use Rattle.member_link.specs.RowScope.{RowScope}
use Rattle.member_link.specs.Scope.{scope_at}
use Rattle.plan_flow.specs.Laws.WrittenBlocks.{first_item, own_number}
use Rattle.plan_flow.specs.Must.{row_of_point}
use Rattle.plan_flow.specs.PlanRows.{Source}
use Rattle.plan_flow.specs.PlanScope.{PlanScope}
use Rattle.plan_flow.specs.PlanSlots.{is_open}
use Rattle.plan_flow.specs.PlanTable.{falls_on}
use Rattle.plan_flow.specs.ReadyForPlans.{KeepsType, place_types}
use Rattle.plan_flow.specs.Written.Blocks.{state_written}
use Rattle.plan_flow.specs.Written.Routes.{Route}
use Rattle.plan_flow.specs.Written.WrittenCode.{written_point}
use Rattle.plan_flow.specs.Written.WrittenPrograms.{WrittenMethod}
use Rattle.plan_flow.specs.declared.edge.EdgeKind.TheVariants as edges
use Rattle.same_runs.specs.Flats.{flat_point, flat_points}
use Rattle.same_runs.specs.Laws.BothBegin.{counted}
use Rattle.same_runs.specs.Laws.CaughtUp.{AtOperation, less, operands_of, operation_kept}
use Rattle.same_runs.specs.Laws.Moves.{same_reversed}
use Rattle.same_runs.specs.Laws.Names.{held_more, names_themselves}
use Rattle.same_runs.specs.Laws.Operations.{WorksOnOperands, step_works}
use Rattle.same_runs.specs.Laws.Units.{same_arguments}
use Rattle.same_runs.specs.Renamings.{Names, NamesMore, SameValues, none_held}
use Rattle.same_runs.specs.SameFrames.{EndSame, Unwinds, in_both}
use Rattle.same_runs.specs.SamePrograms.{same_op}
use Rattle.same_runs.specs.SameWorlds.{Goes, IsAwaiting, IsThrowing}
use Rattle.typed_runs.specs.Conforming.{AllConform, and_value, no_values}
use Rattle.virtual_state.specs.States.{State}
use Rattle.same_runs.specs.Laws.MethodPoints.{ends_there}
use Rattle.written_runs.specs.Inner.PlannedFrames.{KeepStack, Known, blocks_in, scope_in}
use Rattle.written_runs.specs.Inner.Setup.{Setup, first, second}
use Rattle.written_runs.specs.Inner.Standing.{Stands, beginnings_stand, libraries_stand, planned_stand, stands}
use Rattle.written_runs.specs.Inner.Waiting.{Awaits, IsNoJump, LeavesLocals, ThrowsThere, WaitsThere, may_throw}
use Rattle.written_runs.specs.Laws.Carried.Arriving.{owned_with}
use Rattle.written_runs.specs.Laws.Carried.Behind.{MovesAlong}
use Rattle.written_runs.specs.Laws.Carried.EdgeBlocks.{EdgeBlock, next_block_at}
use Rattle.written_runs.specs.Laws.Carried.Knowing.{CarriedLaws, facts_of}
use Rattle.written_runs.specs.Laws.Carried.Landing.{carried_catches, goes_along, own_there, usable_along}
use Rattle.written_runs.specs.Laws.Carried.Operands.{AreReal, HaveOperands, have_operands}
use Rattle.written_runs.specs.Laws.Carried.PlannedEdges.{EdgeThere, next_there, slots_long}
use Rattle.written_runs.specs.Laws.Carried.Points.{carried_item, first_point_is, next_place, same_operation, second_point_is}
use Rattle.written_runs.specs.Laws.Carried.Slots.{lowest_left}
use Rattle.written_runs.specs.Laws.Carried.Standing.{AtOwn}
use Rattle.written_runs.specs.Laws.Carried.Turns.{all_owned, compares_here, keeps_both, not_stuck_here, seen_here, top_owned, turned_here, typed_here}
use Rattle.written_runs.specs.Laws.Carried.Waiting.{AtCarried, carried_less, instruction_of, stays_with, waits_there, waits_with}
use Rattle.written_runs.specs.Laws.FewerVirtuals.{AllOwned, GoesFewer, OwnedBelow, goes_above, none_under, over_turn, owned_below, stands_under}
use Rattle.written_runs.specs.Laws.Halfway.{Halfway}
use Rattle.written_runs.specs.Laws.MethodsBegin.{begins_same}
use Rattle.written_runs.specs.Laws.OwnFrames.{FrameLaws, above_awaited, below_may_throw, goes_below, names_grown, typed_below, waiting_unwind, waits_below}
use Rattle.written_runs.specs.Laws.Settling.{SettleLaws}
use Rattle.written_runs.specs.Laws.Simulation.{KeepsTurn}
use Rattle.written_runs.specs.Laws.StandingMore.{keeps_more}
use Rattle.written_runs.specs.VirtualObjects.{stack_slots}

-- ---- what the row of an instruction says of its operation

-- where it gives values: control goes on to the next point, and they are plain
pub record GivesThere (s : PlanScope) (at : ℕ) (point : Point) (before : State) (taken : ℕ) (ones : List Value) : Type 0 where
  pub falls : falls_on point.instr ≡ true
  pub opens : is_open before (row_of_point s at point).next ≡ true
  pub given : List Source
  pub leaves : LeavesLocals s at point before (record { by = edges.Next; to = at + 1; guard = (row_of_point s at point).next }) taken given
  pub uninit_given : (number : ℕ) (type : VType) (source : Source) (value : Value)
      → slice_get given number ≡ Some source
      → KeepsType at (place_types point.typed) type source
      → IsTrue (is_site_object s.flat type)
      → slice_get ones number ≡ Some value
      → (reference : ℕ) × (value ≡ Ref reference)

-- Its operands are plain; it goes on where it gives values, and may throw where it throws.
pub record OperationFits (s : PlanScope) (at : ℕ) (point : Point) (route : Route) (op : Op) (stack : List Value) (w : Completion) : Type 0 where
  pub real : AreReal (drop (length stack - arity op) (stack_slots point (state_written route)))
  pub given : (ones : List Value) (memory : Memory) → w ≡ gives memory ones → GivesThere s at point (state_written route) (arity op) ones
  pub throws : IsThrowing w → ThrowsThere s at point route
  -- where it calls or asks
  pub waits : IsAwaiting w → WaitsThere s at point (state_written route) (length stack - arity op)
  pub pends : IsAwaiting w → IsTrue (may_throw op) → ThrowsThere s at point route

pub values_conform : {P : Program} {s : RowScope} {heap : Heap} {types : List VType} {values : List Value} → AllConform P s heap types values
    → length values ≡ length types
values_conform no_values = refl
values_conform (and_value here rest) = ap suc (values_conform rest)

module _ (u : Setup) (laws : CarriedLaws u) (measure : ℕ) {one other : Run} {f : MethodState} {rest : List RunFrame} {w : WrittenMethod} {known : Known}
    {at_point : Point} {state : State} {place : ℕ} (h : Halfway u one other f rest w known at_point state place)
    (c : AtCarried u h.virtuals known h.names (length rest) f h.g) (no_jump : IsNoJump c.carried.instr) where
  abbrev P : Program
  P = first u

  abbrev Q : Program
  Q = second u

  abbrev s : PlanScope
  s = scope_in u c.w

  abbrev settle : SettleLaws u
  settle = laws.turns.settle

  abbrev frames : FrameLaws u
  frames = laws.turns.frames

  abbrev before : State
  before = state_written c.route

  pub owned : AllOwned u h.virtuals (Method f ∷ rest)
  owned = all_owned u laws.turns measure h

  pub own : AtOwn u c.w f.place c.point c.route h.g
  own = own_there u (facts_of laws) (instruction_of c) owned h.below

  -- ---- the operation

  abbrev pub at_first : RunPoint
  at_first = run_point u.links (number_at (flat_points u.classes own.host c.w.flat)) (flat_point u.classes own.host c.w.flat (0 + f.place) c.point)

  abbrev pub op : Op
  op = at_first.op

  pub at_first_is : point_at P f.at f.place ≡ Some at_first
  at_first_is =
      first_point_is u c.w own.host f c.point
      (laws.flat_code f.at c.w own.host (ap u.written c.at ∙ c.is_written) (ap (scope_at u.classes) c.at ∙ own.is_host)) c.of_instruction.reached.is_point

  abbrev pub at_second : RunPoint
  at_second = record {
    op = op;
    catches = (written_point s own.host u.constructor c.w.form (blocks_in u c.w) (0 + h.g.place)
        (carried_item f.place c.point c.route c.carried.class c.carried.instr)).catches;
  }

  pub at_second_is : point_at Q h.g.at h.g.place ≡ Some at_second
  at_second_is =
      second_point_is u c.w f.place c.point c.route c.of_instruction.reached c.carried no_jump own
      ∙ ap (λ (o : Op). Some (record { op = o; catches = at_second.catches }))
      (same_operation u c.w f.place c.point c.route c.of_instruction.reached c.carried no_jump own
      (number_at (flat_points u.classes own.host c.w.flat)))

  -- ---- operands

  pub many_stack : length f.stack ≡ length c.point.typed.stack
  many_stack =
      let conforms = laws.conforms one.world f rest c.w c.point h.typed h.stands (ap u.written c.at ∙ c.is_written) c.of_instruction.reached.is_point in
      sym (length-reverse f.stack) ∙ values_conform conforms.stack ∙ length-map c.point.typed.stack (read_type c.w.flat)

  pub many_slots : length (stack_slots c.point before) ≡ length f.stack
  many_slots =
      let all = slots_long u settle c.w h.g.at c.is_written (laws.rows_fit h.g.at c.w c.is_written) c.of_instruction.reached in
      let cut = length-drop (length c.point.typed.locals) before.slots in
      let many = many_stack in
      omega (arith, all, cut, many)

  keep_grown : {more : Names} → NamesMore h.names more → KeepStack more (stack_slots c.point before) (reverse f.stack) (reverse h.g.stack)
  keep_grown grows =
      (keeps_more {virtuals = h.virtuals} {others = h.virtuals} {frame = length rest}
      (record { forth = λ site virtual there. there; back = λ site virtual there. there }) c.w.flat c.point before f h.g grows c.keeps).stack

  pub has_operands : WorksOnOperands op → nat_le (arity op) (length f.stack) ≡ true
  has_operands works = by (nat_le (arity op) (length f.stack)) refl where
    by : (b : Bool) → nat_le (arity op) (length f.stack) ≡ b → nat_le (arity op) (length f.stack) ≡ true
    by true e = e
    by false e =
        let lacks : work_step P (counted one) f rest op ≡ ends_stuck (counted one) = rw (e) refl in
        absurd (not_stuck_here u laws.turns measure h (op_step P (counted one) f rest op) (turned_here u laws.turns measure h at_first at_first_is)
        (ap (λ (world : World). world.halt) (step_works P f rest op works (counted one) ∙ lacks)))

  abbrev pub taken : ℕ
  taken = arity op

  module _ (works : WorksOnOperands op)
      (fits : OperationFits s f.place c.point c.route op f.stack (work P one.world.memory op (operands_of taken f))) where
    enough : taken ≤ length f.stack
    enough = leb-true taken (length f.stack) (has_operands works)

    have : {more : Names} → NamesMore h.names more → HaveOperands more (stack_slots c.point before) taken f.stack h.g.stack
    have {more = more} grows =
        have_operands more (stack_slots c.point before) taken f.stack h.g.stack many_slots enough fits.real (keep_grown grows)

    -- ---- it gives values

    given : (more : Names) (memory : Memory) (ones others : List Value)
        → work P one.world.memory op (operands_of taken f) ≡ gives memory ones
        → NamesMore h.names more
        → SameValues more ones others
        → GoesFewer u h.virtuals known more (Method (resumed (less taken f) ones) ∷ rest) (Method (resumed (less taken h.g) others) ∷ h.rest_also)
    given more memory ones others is grows are =
        goes_along u (facts_of laws) (instruction_of c) owned h.below edge taken so.given so.leaves (resumed (less taken f) ones) (resumed
        (less taken h.g) others) moves refl refl refl
        refl refl block.0 (ap (λ (n : ℕ). n + 1) own.place ∙ sym (next_place u c.w f.place c.point c.route c.of_instruction.reached c.carried no_jump)
        ∙ block.1)
        grows
        (subst (λ (n : ℕ). KeepStack more (take (n - taken) (stack_slots c.point before)) (take (n - taken) (reverse f.stack)) (reverse (drop taken h.g.stack)))
        many_stack (have grows).lower) where
          so : GivesThere s f.place c.point before taken ones
          so = fits.given ones memory is

          edge : EdgeThere s f.place c.point c.route (record { by = edges.Next; to = f.place + 1; guard = (row_of_point s f.place c.point).next })
          edge =
              next_there u settle c.w h.g.at c.is_written (laws.rows_fit h.g.at c.w c.is_written) c.of_instruction.reached so.falls so.opens

          moves : MovesAlong s f.place c.point edge.target before (record { by = edges.Next; to = f.place + 1; guard = (row_of_point s f.place c.point).next })
              more taken so.given f h.g (resumed (less taken f) ones) (resumed (less taken h.g) others)
          moves = record {
            long =
                let many = many_stack in
                let back = length-reverse f.stack in
                length-take-le (length c.point.typed.stack - taken) (reverse f.stack) (omega (arith, many, back));
            locals = refl;
            locals_also = refl;
            ones = ones;
            others = others;
            lower = reverse (drop taken h.g.stack);
            same = are;
            stack =
                reverse-append (reverse ones) (drop taken f.stack)
                ∙ ap (λ (values : List Value). reverse (drop taken f.stack) ++ values) (reverse-reverse ones)
                ∙ ap (λ (values : List Value). values ++ ones) (lowest_left taken f.stack enough)
                ∙ ap (λ (n : ℕ). take (n - taken) (reverse f.stack) ++ ones) many_stack;
            stack_also =
                reverse-append (reverse others) (drop taken h.g.stack)
                ∙ ap (λ (values : List Value). reverse (drop taken h.g.stack) ++ values) (reverse-reverse others);
            usable = usable_along u (facts_of laws) (instruction_of c) owned h.below edge so.leaves.locals;
            uninit = edge.keeps;
            uninit_given = so.uninit_given;
          }

          block : (block : EdgeBlock u c.w (f.place + 1) edge.of_row.edge)
              × (first_item c.w.form (blocks_in u c.w) (suc (own_number s c.w.routes f.place c.route)) ≡ first_item c.w.form (blocks_in u c.w) block.number)
          block =
              next_block_at u settle (resumed (less taken f) ones) (ap u.written c.at ∙ c.is_written) edges.Next c.of_instruction.reached edge.of_row.found
              edge.of_row.is.to edge.is_target refl edge.of_row.is.by

    -- ---- it waits

    abbrev less_then : {more : Names} → NamesMore h.names more → AtCarried u h.virtuals known more (length rest) (less taken f) (less taken h.g)
    less_then grows = carried_less c taken enough grows (have grows)

    awaits : IsAwaiting (work P one.world.memory op (operands_of taken f)) → Awaits u c.w (less taken f) c.point c.route c.carried.instr
    awaits waits = record {
      straight = no_jump;
      at_point = at_first;
      is_point = at_first_is;
      waits = subst (WaitsThere s f.place c.point before) (sym (length-drop taken f.stack)) (fits.waits waits);
      throws = fits.pends waits;
    }

    waiting_stands : {waiting : Bool}
        → IsAwaiting (work P one.world.memory op (operands_of taken f))
        → Stands u h.virtuals known waiting h.names (Method (less taken f) ∷ rest) (Method (less taken h.g) ∷ h.rest_also)
    waiting_stands waits =
        planned_stand (waits_with (less_then (names_themselves h.names)) (awaits waits))
        (λ told. waits_there (less_then (names_themselves h.names)) (awaits waits)) h.below

    less_owned : AllOwned u h.virtuals (Method (less taken f) ∷ rest)
    less_owned = owned_with refl owned

    less_below : OwnedBelow u h.virtuals (Method (less taken f) ∷ rest)
    less_below = record { owner = λ number virtual is low. less_owned.owner number virtual is }

    rest_owned : OwnedBelow u h.virtuals rest
    rest_owned = owned_below (top_owned u laws.turns measure h)

    -- ---- it throws

    unwinds : (more : Names)
        → IsThrowing (work P one.world.memory op (operands_of taken f))
        → NamesMore h.names more
        → Unwinds P Q (GoesFewer u h.virtuals known) (GoesFewer u h.virtuals known) more (Method (less taken f) ∷ rest) (Method (less taken h.g) ∷ h.rest_also)
    unwinds more throwing grows =
        in_both ends (held_more grows h.held)
        (carried_catches u (facts_of laws) (less_then grows) less_owned (names_grown grows h.below) (fits.throws throwing) no_jump)
        (goes_below u frames h.virtuals known rest_owned (names_grown grows h.below))
        (λ plain.
        waiting_unwind u frames h.virtuals known (names_grown grows h.below)
        (waits_below u frames h.virtuals known f h.g ends.method ends.is (sym h.at) plain) rest_owned
        (above_awaited u f ends.method ends.is plain) (below_may_throw u f ends.method ends.is plain rest)
        (typed_below u (typed_here u laws.turns measure h))) where
          ends : EndSame P Q (less taken f) (less taken h.g)
          ends = ends_there frames.same (less taken f) (less taken h.g) at_first at_first_is (sym h.at)

    -- ---- all

    goes : Goes P Q (over_turn u h.virtuals known) h.names (work P one.world.memory op (operands_of taken f)) f (less taken f) h.g (less taken h.g) rest
        h.rest_also
    goes = record {
      given = given;
      begins = λ more class grows.
          goes_above (Beginning class ∷ []) (Beginning class ∷ []) (Method f ∷ rest) (Method h.g ∷ h.rest_also) (top_owned u laws.turns measure h)
          (stands (beginnings_stand (stands_under grows (planned_stand (stays_with c) (λ waiting. absurd (false≢true waiting)) h.below))));
      asks = λ more waits grows.
          goes_above (Library None ∷ []) (Library None ∷ []) (Method (less taken f) ∷ rest) (Method (less taken h.g) ∷ h.rest_also) less_below
          (stands (libraries_stand none_held (stands_under grows (waiting_stands waits))));
      called = λ more at method ones others held held_also waits grows is are same_held.
          goes_above (Method (frame_with P at (units_of_values ones) held) ∷ []) (Method (frame_with Q at (units_of_values others) held_also) ∷ [])
          (Method (less taken f) ∷ rest) (Method (less taken h.g) ∷ h.rest_also) less_below
          (begins_same frames.codes at method is (same_arguments are) same_held
          (none_under (suc (length rest)) h.virtuals (suc (length rest)) (omega arith)) (stands_under grows (waiting_stands waits)));
      unwinds = unwinds;
    }

    at_operation : AtOperation P Q (over_turn u h.virtuals known) h.names one other f h.g rest h.rest_also at_first at_second
    at_operation = record {
      goes = h.goes;
      goes_also = h.goes_also;
      stands = h.stands;
      stands_also = h.stands_also;
      is = at_first_is;
      is_also = at_second_is;
      works = step_works P f rest op works;
      works_also = step_works Q h.g h.rest_also op works;
      enough = has_operands works;
      enough_also = le-leb taken (length h.g.stack) (have (names_themselves h.names)).enough;
      same =
          same_op (laws.in_both f.at c.w own.host f.place c.point c.route (ap u.written c.at ∙ c.is_written) (ap (scope_at u.classes) c.at ∙ own.is_host)
          c.of_instruction.reached c.carried works);
      operands = same_reversed (have (names_themselves h.names)).same;
      memories = h.memories;
      seen = seen_here u laws.turns measure h;
      frames = goes;
    }

    -- An operation on plain operands: both take its turn, behind which the runs are related.
    pub works_turn : KeepsTurn u measure one other
    works_turn =
        keeps_both u laws.turns measure h (operation_kept frames.same laws.turns.alike (compares_here u laws.turns measure h) one at_operation)
