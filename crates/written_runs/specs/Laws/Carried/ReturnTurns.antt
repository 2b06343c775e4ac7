-- A return out of a planned frame: its virtual objects are over with it, and its result, which is plain, goes to the frame below.
use Rattle.std.proofs.Common.{◌≡◌, ◌≤◌, ◌-◌, ℕ, Bool, true, false, List, [], ◌∷◌, drop, length, slice_get, take, Option, Some, None, refl, sym, ap, subst, ◌∙◌, arith}
use Rattle.class_model.specs.Descriptors.{kind_of}
use Rattle.class_model.specs.declared.descriptor.FieldType.{FieldType}
use Rattle.class_model.specs.declared.descriptor.Kind.{Kind}
use Rattle.class_model.specs.declared.instr.Instr.TheVariants.{Return}
use Rattle.flow_code.specs.declared.point.FlatInstr.TheVariants.{Of}
use Rattle.flow_code.specs.declared.point.Point.{Point}
use Rattle.machine_values.specs.Frames.{MethodState}
use Rattle.machine_values.specs.Values.{has_kind}
use Rattle.machine_values.specs.declared.value.Value.{Value}
use Rattle.member_link.specs.Machine.Codes.{return_op, same_kind as same_kinds}
use Rattle.member_link.specs.Machine.Ops.{Op, meaningless, return_nothing, return_value}
use Rattle.member_link.specs.Machine.Performing.{returned_value}
use Rattle.member_link.specs.Machine.Programs.{Program}
use Rattle.member_link.specs.Machine.Runs.{Run}
use Rattle.member_link.specs.Machine.Stepping.{ends_stuck, op_step, return_step}
use Rattle.member_link.specs.Machine.Worlds.{World}
use Rattle.plan_flow.specs.PlanRows.{PlanRow}
use Rattle.plan_flow.specs.PlanScope.{PlanScope}
use Rattle.plan_flow.specs.PlanSlots.{held}
use Rattle.plan_flow.specs.PlanTable.{operand, positions, row_at}
use Rattle.plan_flow.specs.Written.Blocks.{state_written}
use Rattle.plan_flow.specs.Written.WrittenPrograms.{WrittenMethod}
use Rattle.same_runs.specs.Flats.{instr_scope}
use Rattle.same_runs.specs.Laws.BothBegin.{counted}
use Rattle.same_runs.specs.Laws.Moves.{same_kind}
use Rattle.same_runs.specs.Laws.Returned.{returned_same, returned_value_same}
use Rattle.same_runs.specs.Renamings.{SameValues, and_value, no_values}
use Rattle.same_runs.specs.SameFrames.{EndSame}
use Rattle.same_runs.specs.SameWorlds.{Comparison, Returns, SameAfter, SameSeen}
use Rattle.same_runs.specs.Simulations.{at_once}
use Rattle.virtual_state.specs.States.{State}
use Rattle.same_runs.specs.Laws.MethodPoints.{ends_there}
use Rattle.written_runs.specs.Inner.PlannedFrames.{scope_in}
use Rattle.written_runs.specs.Inner.Setup.{Setup, first, second}
use Rattle.written_runs.specs.Laws.Carried.CarriedOps.{OpOf, not_stuck_there}
use Rattle.written_runs.specs.Laws.Carried.Knowing.{CarriedLaws}
use Rattle.written_runs.specs.Laws.Carried.Operands.{AreReal, have_operands}
use Rattle.written_runs.specs.Laws.Carried.Planned.{carried_here, known_here, knowing_here, own_start}
use Rattle.written_runs.specs.Laws.Carried.PlannedEdges.{asks_none, slots_long}
use Rattle.written_runs.specs.Laws.Carried.Rows.{asked_plain, real_operands}
use Rattle.written_runs.specs.Laws.Carried.Turns.{compares_here, keeps_both, seen_here, top_owned, turned_also, turned_here, typed_here}
use Rattle.written_runs.specs.Laws.Carried.Waiting.{AtCarried}
use Rattle.written_runs.specs.Laws.Carried.Works.{at_first, at_first_is, at_second, at_second_is, many_slots, many_stack, op, own}
use Rattle.written_runs.specs.Laws.FewerVirtuals.{OwnedBelow, over_turn, owned_below}
use Rattle.written_runs.specs.Laws.Halfway.{Halfway}
use Rattle.written_runs.specs.Laws.OwnFrames.{FrameLaws, above_awaited, below_same, goes_below, typed_below, waits_below}
use Rattle.written_runs.specs.Laws.PlannedTurns.{AtPlanned}
use Rattle.written_runs.specs.Laws.Settling.{SettleLaws}
use Rattle.written_runs.specs.Laws.Simulation.{KeepsTurn}
use Rattle.written_runs.specs.VirtualObjects.{stack_slots}

module _ (u : Setup) (laws : CarriedLaws u) {measure : ℕ} {one other : Run} (a : AtPlanned u measure one other) (class : ℕ) (kind : Option Kind)
    (is : a.settled.point.instr ≡ Of class (Return kind)) where
  abbrev P : Program
  P = first u

  abbrev Q : Program
  Q = second u

  abbrev settle : SettleLaws u
  settle = laws.turns.settle

  abbrev frames : FrameLaws u
  frames = laws.turns.frames

  abbrev w : WrittenMethod
  w = a.in_planned.one

  abbrev s : PlanScope
  s = scope_in u w

  abbrev point : Point
  point = a.settled.point

  abbrev before : State
  before = state_written a.settled.route

  abbrev f : MethodState
  f = a.f

  abbrev h : Halfway u one other f a.ones w (known_here u settle a) point before (own_start u w f.place a.settled.route)
  h = knowing_here u settle a

  abbrev c : AtCarried u h.virtuals (known_here u settle a) h.names (length a.ones) f h.g
  c = carried_here u settle a class (Return kind) is refl

  abbrev over : Comparison
  over = over_turn u h.virtuals (known_here u settle a)

  abbrev its_op : Op
  its_op = op u laws measure h c tt

  rest_owned : OwnedBelow u h.virtuals a.ones
  rest_owned = owned_below (top_owned u laws.turns measure h)

  ends : EndSame P Q f h.g
  ends =
      ends_there frames.same f h.g (at_first u laws measure h c tt) (at_first_is u laws measure h c tt) (sym h.at)

  -- behind the method's end
  returns : Returns P Q over h.names f h.g a.ones h.rest_also
  returns = record {
    ends = ends;
    held = h.held;
    initialised = λ told. goes_below u frames h.virtuals (known_here u settle a) rest_owned h.below;
    below = λ told.
        below_same u frames h.virtuals (known_here u settle a) h.below
        (waits_below u frames h.virtuals (known_here u settle a) f h.g ends.method ends.is (sym h.at) told) rest_owned
        (above_awaited u f ends.method ends.is told) (typed_below u (typed_here u laws.turns measure h));
  }

  seen : SameSeen over h.names (counted one) (counted other)
  seen = let now = seen_here u laws.turns measure h in record { known = now.known; events = now.events }

  abbrev After : Op → Type 0
  After done = SameAfter P over h.names (op_step P (counted one) f a.ones done) (op_step Q (counted other) h.g h.rest_also done)

  steps : After its_op → KeepsTurn u measure one other
  steps then = keeps_both u laws.turns measure h (record {
    waits = other;
    quietly = at_once;
    first = op_step P (counted one) f a.ones its_op;
    second = op_step Q (counted other) h.g h.rest_also its_op;
    turned = turned_here u laws.turns measure h (at_first u laws measure h c tt) (at_first_is u laws measure h c tt);
    turned_also = turned_also u laws.turns measure h (at_second u laws measure h c tt) (at_second_is u laws measure h c tt);
    after = then;
  })

  -- ---- without a result

  nothing_returned : After return_nothing
  nothing_returned =
      returned_same frames.same (compares_here u laws.turns measure h) (counted one) (counted other) h.memories seen h.goes h.goes_also returns no_values

  -- ---- with a result

  -- it is plain, since the instruction asks for it
  result_real : (one_kind : Kind) → kind ≡ Some one_kind → 1 ≤ length f.stack → AreReal (drop (length f.stack - 1) (stack_slots point before))
  result_real one_kind some enough =
      real_operands point before 1 (length f.stack) (many_stack u laws measure h c tt)
      (slots_long u settle w h.g.at h.is_written (laws.rows_fit h.g.at w h.is_written) a.settled.of_instruction.reached) enough
      (λ number site low virtual.
      let top : number ≡ 0 = omega (arith, low) in
      asked_plain 0 (operand point.typed 0) site
      (asks_none u settle w h.g.at h.is_written (laws.rows_fit h.g.at w h.is_written) a.settled.of_instruction.reached)
      (ap (λ (row : PlanRow). slice_get (positions row) 0)
      (ap (row_at s f.place point.typed) is ∙ ap (λ (k : Option Kind). row_at s f.place point.typed (Of class (Return k))) some))
      (ap (λ (n : ℕ). held before (operand point.typed n)) (sym top) ∙ virtual))

  -- the topmost values
  value_returned : (one_kind : Kind) → kind ≡ Some one_kind → (type : FieldType) → its_op ≡ return_value type → KeepsTurn u measure one other
  value_returned one_kind some type its = by f.stack refl where
    stuck_so : (world : World) → op_step P (counted one) f a.ones (return_value type) ≡ ends_stuck world → KeepsTurn u measure one other
    stuck_so world lacks =
        absurd (not_stuck_there u laws a class (Return kind) is refl tt (ends_stuck world)
        (ap (op_step P (counted one) f a.ones) its ∙ lacks) refl)

    -- both have it
    of_both : (value : Value) (below : List Value) → f.stack ≡ value ∷ below → (all : List Value) → h.g.stack ≡ all
        → SameValues h.names (value ∷ []) (take 1 all)
        → (has : Bool) → has_kind (kind_of type) value ≡ has
        → KeepsTurn u measure one other
    of_both value below on_top [] on_top_also are has is_has = elim are [ ]
    of_both value below on_top (also ∷ more) on_top_also (and_value same rest) false is_has =
        stuck_so (counted one) (ap (return_step P (counted one) f a.ones type) on_top ∙ rw (is_has) refl)
    of_both value below on_top (also ∷ more) on_top_also (and_value same rest) true is_has =
        let has_also : has_kind (kind_of type) also ≡ true = same_kind (kind_of type) same ∙ is_has in
        let first_is : op_step P (counted one) f a.ones (return_value type) ≡ returned_value P (counted one) f a.ones type value =
        ap (return_step P (counted one) f a.ones type) on_top ∙ rw (is_has) refl in
        let second_is : op_step Q (counted other) h.g h.rest_also (return_value type) ≡ returned_value Q (counted other) h.g h.rest_also type also =
        ap (return_step Q (counted other) h.g h.rest_also type) on_top_also ∙ rw (has_also) refl in
        steps (subst After (sym its)
        (subst (λ (now : World). SameAfter P over h.names now (op_step Q (counted other) h.g h.rest_also (return_value type))) (sym first_is)
        (subst (SameAfter P over h.names (returned_value P (counted one) f a.ones type value)) (sym second_is)
        (returned_value_same frames.same (compares_here u laws.turns measure h) (counted one) (counted other) h.memories seen h.goes h.goes_also type returns
        same))))

    by : (all : List Value) → f.stack ≡ all → KeepsTurn u measure one other
    by [] none = stuck_so (counted one) (ap (return_step P (counted one) f a.ones type) none)
    by (value ∷ below) on_top =
        let count = ap length on_top in
        let enough : 1 ≤ length f.stack = omega (arith, count) in
        of_both value below on_top h.g.stack refl
        (subst (λ (all : List Value). SameValues h.names (take 1 all) (take 1 h.g.stack)) on_top
        (have_operands h.names (stack_slots point before) 1 f.stack h.g.stack (many_slots u laws measure h c tt) enough (result_real one_kind some enough)
        c.keeps.stack).same) (has_kind (kind_of type) value) refl

  -- ---- by the method's result

  no_meaning : its_op ≡ meaningless → KeepsTurn u measure one other
  no_meaning its =
      absurd (not_stuck_there u laws a class (Return kind) is refl tt (ends_stuck (counted one)) (ap (op_step P (counted one) f a.ones) its) refl)

  abbrev result : Option FieldType
  result = (instr_scope u.classes (own u laws measure h c tt).host w.flat (Of class (Return kind))).result

  its_return : its_op ≡ return_op result kind
  its_return = ap (OpOf u laws a class (Return kind) is refl tt) is

  pub return_turn : KeepsTurn u measure one other
  return_turn = by result kind its_return refl where
    of_kinds : (type : FieldType) (one_kind : Kind) → kind ≡ Some one_kind → (same : Bool) → same_kinds (kind_of type) one_kind ≡ same
        → its_op ≡ return_op (Some type) (Some one_kind)
        → KeepsTurn u measure one other
    of_kinds type one_kind some true told its = value_returned one_kind some type (its ∙ rw (told) refl)
    of_kinds type one_kind some false told its = no_meaning (its ∙ rw (told) refl)

    by : (of : Option FieldType) (one_kind : Option Kind) → its_op ≡ return_op of one_kind → kind ≡ one_kind → KeepsTurn u measure one other
    by None None its some = steps (subst After (sym its) nothing_returned)
    by (Some type) (Some one_kind) its some = of_kinds type one_kind some (same_kinds (kind_of type) one_kind) refl its
    by None (Some one_kind) its some = no_meaning its
    by (Some type) None its some = no_meaning its
