-- A store into a local of an operand that is plain.
use Rattle.std.proofs.Common.{◌≡◌, ◌≤◌, ◌<◌, ◌+◌, ◌-◌, ◌++◌, ℕ, Bool, true, false, List, [], ◌∷◌, drop, length, slice_get, Option, Some, None, IsTrue, option_map, refl, sym, ap, subst, ◌∙◌, arith}
use Rattle.std.proofs.lemmas.Bool.{false≢true}
use Rattle.std.proofs.lemmas.Option.{same_Some, slice_get-map}
use Rattle.class_model.specs.declared.descriptor.Kind.{Kind}
use Rattle.class_model.specs.declared.descriptor.Kind.TheVariants as kinds
use Rattle.class_model.specs.declared.frame.VType.{VType}
use Rattle.class_model.specs.Frames.{is_top}
use Rattle.flow_code.specs.ReadTypes.{is_site_object}
use Rattle.flow_code.specs.declared.point.FlatInstr.{FlatInstr}
use Rattle.flow_code.specs.declared.point.FlatInstr.TheVariants.{Of}
use Rattle.flow_code.specs.declared.point.Point.{Point}
use Rattle.machine_values.specs.Frames.{MethodState}
use Rattle.machine_values.specs.Values.{has_kind}
use Rattle.machine_values.specs.declared.value.Value.{Value}
use Rattle.machine_values.specs.declared.value.Value.TheVariants.{Ref}
use Rattle.member_link.specs.Machine.Programs.{Program}
use Rattle.member_link.specs.Machine.Runs.{Run}
use Rattle.member_link.specs.Machine.Stepping.{ends_stuck, op_step, with_top}
use Rattle.member_link.specs.Machine.Worlds.{World}
use Rattle.plan_flow.specs.PlanRows.{PlanRow, Source, from_place}
use Rattle.plan_flow.specs.PlanScope.{PlanScope}
use Rattle.plan_flow.specs.PlanSlots.{held}
use Rattle.plan_flow.specs.PlanTable.{falls_on, row_at}
use Rattle.plan_flow.specs.ReadyForPlans.{KeepsType, from_its_new, from_its_type, place_types}
use Rattle.plan_flow.specs.Written.Blocks.{state_written}
use Rattle.plan_flow.specs.Written.WrittenPrograms.{WrittenMethod}
use Rattle.same_runs.specs.Laws.BothBegin.{counted}
use Rattle.same_runs.specs.Laws.Moves.{same_kind}
use Rattle.same_runs.specs.QuietMoves.{moved_by}
use Rattle.same_runs.specs.Renamings.{SameValue, and_value}
use Rattle.virtual_state.specs.States.{State}
use Rattle.virtual_state.specs.declared.slot.Slot.{Slot}
use Rattle.virtual_state.specs.declared.slot.Slot.TheVariants.{Plain, Virt}
use Rattle.written_runs.specs.Inner.PlannedFrames.{scope_in}
use Rattle.written_runs.specs.Inner.Setup.{Setup, first}
use Rattle.written_runs.specs.Laws.Carried.Knowing.{CarriedLaws}
use Rattle.written_runs.specs.Laws.Carried.OperandFits.{nothing_plain, plain_read}
use Rattle.written_runs.specs.Laws.Carried.Operands.{AreReal}
use Rattle.written_runs.specs.Laws.Carried.Planned.{carried_here, known_here, knowing_here, own_start}
use Rattle.written_runs.specs.Laws.Carried.PlannedEdges.{slots_long}
use Rattle.written_runs.specs.Laws.Carried.Waiting.{AtCarried}
use Rattle.written_runs.specs.Laws.Carried.Works.{many_slots}
use Rattle.written_runs.specs.Laws.Halfway.{Halfway}
use Rattle.written_runs.specs.Laws.PlannedTurns.{AtPlanned, written_at}
use Rattle.written_runs.specs.Laws.Settling.{SettleLaws}
use Rattle.written_runs.specs.Laws.Simulation.{KeepsTurn}
use Rattle.written_runs.specs.VirtualObjects.{stack_slots}
use Rattle.written_runs.specs.Laws.Carried.CarriedOps.{OpOf, not_stuck_there}
use Rattle.std.proofs.Common.{◌≢◌, reverse, slice_set, take}
use Rattle.class_model.specs.declared.instr.Instr.TheVariants.{Store}
use Rattle.machine_values.specs.Values.{blank_of_kind, is_wide_value}
use Rattle.machine_values.specs.declared.value.Value.TheVariants.{Double, Float, Int, Long, Null}
use Rattle.member_link.specs.Machine.Locals.{stored}
use Rattle.member_link.specs.Machine.Stepping.{next_with, store_step}
use Rattle.plan_flow.specs.Must.{row_of_point}
use Rattle.plan_flow.specs.PlanSlots.{is_open, slot_from}
use Rattle.plan_flow.specs.PlanTable.{held_locals, operand, store_row}
use Rattle.same_runs.specs.Laws.Moves.{same_width}
use Rattle.same_runs.specs.Laws.Objects.{set_other}
use Rattle.same_runs.specs.Laws.Stored.{set_count, set_in, stored_is, stores}
use Rattle.same_runs.specs.QuietMoves.{popped}
use Rattle.same_runs.specs.Renamings.{SameValues}
use Rattle.written_runs.specs.Laws.Carried.Operands.{have_operands}
use Rattle.written_runs.specs.Laws.Carried.PlannedEdges.{EdgeThere}
use Rattle.written_runs.specs.Laws.Carried.Rows.{real_operands, reverse_get}
use Rattle.written_runs.specs.Laws.Carried.Slots.{LeavesStack, edge_slots, got_right}
use Rattle.written_runs.specs.Laws.Carried.StoreTurns.{many_flat, many_locals, next_edge, next_row, sources, stores_next}
use Rattle.written_runs.specs.Laws.Carried.Works.{many_stack}
use Rattle.written_runs.specs.Laws.Templates.Stacks.{held_at, held_length}
use Rattle.plan_flow.specs.PlanScope.{local_types}
use Rattle.plan_flow.specs.PlanSlots.{changed}
use Rattle.same_runs.specs.Laws.Stored.{width_low}

module _ (u : Setup) (laws : CarriedLaws u) {measure : ℕ} {one other : Run} (a : AtPlanned u measure one other) (class : ℕ) (kind : Kind) (local : ℕ)
    (is : a.settled.point.instr ≡ Of class (Store kind local)) (none : written_at a class (Store kind local) ≡ None) where
  abbrev P : Program
  P = first u

  abbrev settle : SettleLaws u
  settle = laws.turns.settle

  abbrev w : WrittenMethod
  w = a.in_planned.one

  abbrev s : PlanScope
  s = scope_in u w

  abbrev point : Point
  point = a.settled.point

  abbrev before : State
  before = state_written a.settled.route

  abbrev f : MethodState
  f = a.f

  abbrev h : Halfway u one other f a.ones w (known_here u settle a) point before (own_start u w f.place a.settled.route)
  h = knowing_here u settle a

  abbrev c : AtCarried u h.virtuals (known_here u settle a) h.names (length a.ones) f h.g
  c = carried_here u settle a class (Store kind local) is none

  slots : length before.slots ≡ length point.typed.locals + length point.typed.stack
  slots = slots_long u settle w h.g.at h.is_written (laws.rows_fit h.g.at w h.is_written) a.settled.of_instruction.reached

  -- the second has room for it
  room_also : (local : ℕ) (value also : Value) (units : List (Option Value)) → stored local value f.locals ≡ Some units → SameValue h.names value also
      → (found : List (Option Value)) × (stored local also h.g.locals ≡ Some found)
  room_also at value also units some same =
      let room = (stored_is at value f.locals units some).room in
      let as_many = many_locals u laws measure h c tt in
      let flat = many_flat u laws measure h c tt in
      let width = same_width same in
      let room_there = h.keeps.room in
      stores at also h.g.locals (omega (arith, room, as_many, flat, width, room_there))

  row_is : row_of_point s f.place point ≡ store_row point.typed local
  row_is = ap (row_at s f.place point.typed) is

  never : (site : ℕ) → held before (operand point.typed 0) ≡ Virt site → ⊥
  never site virtual = nothing_plain _ site none virtual

  falls : falls_on point.instr ≡ true
  falls = ap falls_on is

  opens : is_open before (row_of_point s f.place point).next ≡ true
  opens = ap (λ (r : PlanRow). is_open before r.next) row_is

  abbrev edge : EdgeThere s f.place point a.settled.route (next_row u laws measure h c tt)
  edge = next_edge u laws measure h c tt falls opens

  abbrev all_sources : List Source
  all_sources = sources u laws measure h c tt

  sources_are : all_sources ≡ slice_set (held_locals point.typed) local (from_place (operand point.typed 0))
  sources_are = ap (λ (r : PlanRow). r.locals) row_is

  many_sources : length all_sources ≡ length point.typed.locals
  many_sources =
      ap length sources_are ∙ set_count (held_locals point.typed) local (from_place (operand point.typed 0)) ∙ held_length 0 (length point.typed.locals)

  source_was : (unit : ℕ) → local ≢ unit → unit < length point.typed.locals → slice_get all_sources unit ≡ Some (from_place unit)
  source_was unit apart low =
      let zeroth : 0 + unit ≡ unit = omega arith in
      ap (λ (all : List Source). slice_get all unit) sources_are
      ∙ set_other (held_locals point.typed) local unit (from_place (operand point.typed 0)) apart
      ∙ held_at 0 (length point.typed.locals) unit low ∙ ap (λ (n : ℕ). Some (from_place n)) zeroth

  source_here : local < length point.typed.locals → slice_get all_sources local ≡ Some (from_place (operand point.typed 0))
  source_here low =
      ap (λ (all : List Source). slice_get all local) sources_are
      ∙ set_in (held_locals point.typed) local (from_place (operand point.typed 0))
      (let many = held_length 0 (length point.typed.locals) in omega (arith, many, low))

  slot_here : local < length point.typed.locals → (slot : Slot) → slice_get (edge_slots s f.place point before (next_row u laws measure h c tt)) local
      ≡ Some slot
      → slot ≡ Plain
  slot_here low slot there =
      same_Some slot Plain
      (sym there ∙ slice_get-map (slot_from s before (row_of_point s f.place point).change) all_sources local
      ∙ ap (option_map (slot_from s before (row_of_point s f.place point).change)) (source_here low)
      ∙ ap Some (plain_read _ never))

  leaves : 1 ≤ length point.typed.stack → LeavesStack s f.place point before (next_row u laws measure h c tt) 1 []
  leaves enough = record {
    enough = enough;
    stack = ap (λ (r : PlanRow). r.stack) row_is;
    plain = refl;
    objects = ap (λ (r : PlanRow). changed s before r.change ++ before.objects) row_is;
  }

  -- a value of the kind is as wide as the kind
  wide_kind : (one_kind : Kind) (value : Value) → has_kind one_kind value ≡ true → is_wide_value value ≡ true → is_wide_value (blank_of_kind one_kind) ≡ true
  wide_kind kinds.Int value has wide = absurd (narrow value has wide) where
    narrow : (one_value : Value) → has_kind kinds.Int one_value ≡ true → is_wide_value one_value ≡ true → ⊥
    narrow (Int n) told is_wide = false≢true is_wide
    narrow (Long n) told is_wide = false≢true told
    narrow (Float n) told is_wide = false≢true told
    narrow (Double n) told is_wide = false≢true told
    narrow Null told is_wide = false≢true told
    narrow (Ref n) told is_wide = false≢true told
  wide_kind kinds.Float value has wide = absurd (narrow value has wide) where
    narrow : (one_value : Value) → has_kind kinds.Float one_value ≡ true → is_wide_value one_value ≡ true → ⊥
    narrow (Int n) told is_wide = false≢true told
    narrow (Long n) told is_wide = false≢true told
    narrow (Float n) told is_wide = false≢true is_wide
    narrow (Double n) told is_wide = false≢true told
    narrow Null told is_wide = false≢true told
    narrow (Ref n) told is_wide = false≢true told
  wide_kind kinds.Ref value has wide = absurd (narrow value has wide) where
    narrow : (one_value : Value) → has_kind kinds.Ref one_value ≡ true → is_wide_value one_value ≡ true → ⊥
    narrow (Int n) told is_wide = false≢true told
    narrow (Long n) told is_wide = false≢true told
    narrow (Float n) told is_wide = false≢true told
    narrow (Double n) told is_wide = false≢true told
    narrow Null told is_wide = false≢true is_wide
    narrow (Ref n) told is_wide = false≢true is_wide
  wide_kind kinds.Long value has wide = refl
  wide_kind kinds.Double value has wide = refl

  of_target : (unit : ℕ) (type : VType) → slice_get edge.target.typed.locals unit ≡ Some type → slice_get (local_types s.flat (f.place + 1)) unit ≡ Some type
  of_target unit type is_type = rw (edge.is_target) is_type

  second : (value : Value) → has_kind kind value ≡ true → (type : VType) → is_wide_value value ≡ true
      → slice_get edge.target.typed.locals (local + 1) ≡ Some type
      → is_top type ≡ true
  second value has type wide is_type =
      (laws.rows_fit h.g.at w h.is_written).second f.place point class kind local type a.settled.of_instruction.reached.is_point is
      (wide_kind kind value has wide) (of_target (local + 1) type is_type)

  -- an uninitialised object of a site is a reference
  uninit_here : (value : Value) (below : List Value) → f.stack ≡ value ∷ below → local < length point.typed.locals → (type : VType)
      → slice_get edge.target.typed.locals local ≡ Some type
      → IsTrue (is_site_object s.flat type)
      → (reference : ℕ) × (value ≡ Ref reference)
  uninit_here value below on_top low type is_type is_site =
      let kept = edge.keeps.locals local type (of_target local type is_type) is_site in
      of_source kept.0 kept.2 (same_Some kept.0 (from_place (operand point.typed 0)) (sym kept.1 ∙ source_here low)) where
        many : length f.stack ≡ length point.typed.stack
        many = many_stack u laws measure h c tt

        place_of : Source → ℕ
        place_of (from_place place) = place
        place_of others = 0

        at_top : slice_get (reverse f.stack) (length point.typed.stack - (0 + 1)) ≡ Some value
        at_top =
            ap (λ (n : ℕ). slice_get (reverse f.stack) (n - (0 + 1))) (sym many)
            ∙ reverse_get f.stack 0 value (ap (λ (all : List Value). slice_get all 0) on_top)

        of_source : (source : Source) → KeepsType f.place (place_types point.typed) type source → source ≡ from_place (operand point.typed 0)
            → (reference : ℕ) × (value ≡ Ref reference)
        of_source _ (from_its_type place there) same =
            let at_operand : place ≡ operand point.typed 0 = ap place_of same in
            let count = ap length on_top in
            let all = many in
            let is_place : length point.typed.locals + (length point.typed.stack - (0 + 1)) ≡ operand point.typed 0 = omega (arith, count, all) in
            h.tells.uninit_stack (length point.typed.stack - (0 + 1)) type value
            (sym (got_right point.typed.locals point.typed.stack (length point.typed.stack - (0 + 1)))
            ∙ ap (slice_get (place_types point.typed)) (is_place ∙ sym at_operand) ∙ there) at_top is_site
        of_source _ (from_its_new new) same = absurd (cc same)

  step_is : op_step P (counted one) f a.ones (OpOf u laws a class (Store kind local) is none tt point.instr)
      ≡ store_step (counted one) f a.ones kind local f.stack
  step_is = ap (λ (i : FlatInstr). op_step P (counted one) f a.ones (OpOf u laws a class (Store kind local) is none tt i)) is

  stuck_so : (world : World) → store_step (counted one) f a.ones kind local f.stack ≡ ends_stuck world → KeepsTurn u measure one other
  stuck_so world lacks = absurd (not_stuck_there u laws a class (Store kind local) is none tt (ends_stuck world) (step_is ∙ lacks) refl)

  pub store_turn : KeepsTurn u measure one other
  store_turn = by f.stack refl where
    of_both : (value : Value) (below : List Value) → f.stack ≡ value ∷ below → has_kind kind value ≡ true → (units : List (Option Value))
        → stored local value f.locals ≡ Some units
        → 1 ≤ length f.stack
        → AreReal (drop (length f.stack - 1) (stack_slots point before))
        → (all : List Value) → h.g.stack ≡ all
        → SameValues h.names (value ∷ []) (take 1 all)
        → KeepsTurn u measure one other
    of_both value below on_top has units some enough real [] on_top_also are = elim are [ ]
    of_both value below on_top has units some enough real (also ∷ more) on_top_also (and_value same rest) =
        stores_next u laws measure h c tt 1 local value also units units_also.0 some units_also.1 same enough real falls opens
        (leaves (let many = many_stack u laws measure h c tt in let few = enough in omega (arith, many, few))) many_sources source_was (slot_here low)
        (second value has) (uninit_here value below on_top low)
        (step_is ∙ ap (store_step (counted one) f a.ones kind local) on_top ∙ rw (has, some) refl
        ∙ ap (λ (stack : List Value). with_top (counted one) a.ones (record (next_with f (drop 1 stack)) { locals = units })) (sym on_top))
        (ap (λ (i : FlatInstr). moved_by h.g (OpOf u laws a class (Store kind local) is none tt i)) is
        ∙ ap (popped h.g kind local) on_top_also ∙ rw (has_also, units_also.1) refl
        ∙ ap (λ (stack : List Value). Some (record (next_with h.g (drop 1 stack)) { locals = units_also.0 })) (sym on_top_also)) where
          units_also : (found : List (Option Value)) × (stored local also h.g.locals ≡ Some found)
          units_also = room_also local value also units some same

          has_also : has_kind kind also ≡ true
          has_also = same_kind kind same ∙ has

          low : local < length point.typed.locals
          low =
              let room = (stored_is local value f.locals units some).room in
              let as_many = many_locals u laws measure h c tt in
              let width = width_low value in
              omega (arith, room, as_many, width)

    of_units : (value : Value) (below : List Value) → f.stack ≡ value ∷ below → has_kind kind value ≡ true → (units : Option (List (Option Value)))
        → stored local value f.locals ≡ units
        → KeepsTurn u measure one other
    of_units value below on_top has None lacks =
        stuck_so (counted one) (ap (store_step (counted one) f a.ones kind local) on_top ∙ rw (has, lacks) refl)
    of_units value below on_top has (Some units) some =
        of_both value below on_top has units some enough real h.g.stack refl
        (subst (λ (all : List Value). SameValues h.names (take 1 all) (take 1 h.g.stack)) on_top
        (have_operands h.names (stack_slots point before) 1 f.stack h.g.stack (many_slots u laws measure h c tt) enough real c.keeps.stack).same) where
          enough : 1 ≤ length f.stack
          enough = let count = ap length on_top in omega (arith, count)

          real : AreReal (drop (length f.stack - 1) (stack_slots point before))
          real =
              real_operands point before 1 (length f.stack) (many_stack u laws measure h c tt) slots enough
              (λ number site low virtual.
              let top : number ≡ 0 = omega (arith, low) in
              never site (ap (λ (n : ℕ). held before (operand point.typed n)) (sym top) ∙ virtual))

    of_kind : (value : Value) (below : List Value) → f.stack ≡ value ∷ below → (has : Bool) → has_kind kind value ≡ has → KeepsTurn u measure one other
    of_kind value below on_top false has = stuck_so (counted one) (ap (store_step (counted one) f a.ones kind local) on_top ∙ rw (has) refl)
    of_kind value below on_top true has = of_units value below on_top has (stored local value f.locals) refl

    by : (all : List Value) → f.stack ≡ all → KeepsTurn u measure one other
    by [] on_top = stuck_so (counted one) (ap (store_step (counted one) f a.ones kind local) on_top)
    by (value ∷ below) on_top = of_kind value below on_top (has_kind kind value) refl
