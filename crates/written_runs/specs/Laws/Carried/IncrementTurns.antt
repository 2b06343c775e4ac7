-- iinc: its local is plain, since it is a number.
use Rattle.std.proofs.Common.{◌≡◌, ◌<◌, ◌+◌, ◌-◌, ◌++◌, ℕ, true, false, List, [], length, slice_get, Option, Some, None, IsTrue, option_and_then, option_map, refl, sym, ap, ◌∙◌, arith}
use Rattle.std.proofs.lemmas.Bool.{false≢true}
use Rattle.std.proofs.lemmas.Option.{same_Some, slice_get-map, slice_get_within}
use Rattle.class_model.specs.declared.descriptor.Kind.TheVariants as kinds
use Rattle.class_model.specs.declared.frame.VType.{VType}
use Rattle.class_model.specs.Frames.{is_top}
use Rattle.flow_code.specs.ReadTypes.{is_site_object}
use Rattle.flow_code.specs.declared.point.FlatInstr.{FlatInstr}
use Rattle.flow_code.specs.declared.point.FlatInstr.TheVariants.{Of}
use Rattle.flow_code.specs.declared.point.Point.{Point}
use Rattle.machine_values.specs.Frames.{MethodState}
use Rattle.machine_values.specs.Values.{has_kind}
use Rattle.machine_values.specs.declared.value.Value.{Value}
use Rattle.machine_values.specs.declared.value.Value.TheVariants.{Ref}
use Rattle.member_link.specs.Machine.Locals.{local_value}
use Rattle.member_link.specs.Machine.Programs.{Program}
use Rattle.member_link.specs.Machine.Runs.{Run}
use Rattle.member_link.specs.Machine.Stepping.{ends_stuck, op_step}
use Rattle.member_link.specs.Machine.Worlds.{World}
use Rattle.plan_flow.specs.PlanRows.{PlanRow, Source, from_place}
use Rattle.plan_flow.specs.PlanScope.{PlanScope}
use Rattle.plan_flow.specs.PlanSlots.{readable}
use Rattle.plan_flow.specs.PlanTable.{falls_on, moving, row_at}
use Rattle.plan_flow.specs.ReadyForPlans.{KeepsType, from_its_new, from_its_type, place_types}
use Rattle.plan_flow.specs.Written.Blocks.{state_written}
use Rattle.plan_flow.specs.Written.WrittenPrograms.{WrittenMethod}
use Rattle.same_runs.specs.Laws.BothBegin.{counted}
use Rattle.same_runs.specs.QuietMoves.{moved_by}
use Rattle.same_runs.specs.Renamings.{SameValue}
use Rattle.virtual_state.specs.States.{State}
use Rattle.virtual_state.specs.declared.slot.Slot.{Slot}
use Rattle.virtual_state.specs.declared.slot.Slot.TheVariants.{Plain, Virt, Unusable}
use Rattle.written_runs.specs.Inner.PlannedFrames.{scope_in}
use Rattle.written_runs.specs.Inner.Setup.{Setup, first}
use Rattle.written_runs.specs.Laws.Carried.Knowing.{CarriedLaws}
use Rattle.written_runs.specs.Laws.Carried.NullTests.{no_top}
use Rattle.written_runs.specs.Laws.Carried.Planned.{carried_here, known_here, knowing_here, own_start}
use Rattle.written_runs.specs.Laws.Carried.PlannedEdges.{slots_long, unusable_is_top}
use Rattle.written_runs.specs.Laws.Carried.Slots.{got_left}
use Rattle.written_runs.specs.Laws.Carried.Waiting.{AtCarried}
use Rattle.written_runs.specs.Laws.Carried.Works.{many_slots}
use Rattle.written_runs.specs.Laws.Halfway.{Halfway}
use Rattle.written_runs.specs.Laws.PlannedTurns.{AtPlanned}
use Rattle.written_runs.specs.Laws.Settling.{SettleLaws}
use Rattle.written_runs.specs.Laws.Simulation.{KeepsTurn}
use Rattle.written_runs.specs.Laws.Templates.Stacks.{drop_at, get_in_take}
use Rattle.written_runs.specs.VirtualObjects.{local_slots, stack_slots}
use Rattle.written_runs.specs.Laws.Carried.CarriedOps.{OpOf, kind_is_no_top, no_real, not_stuck_there, typed_row, value_there}
use Rattle.std.proofs.Common.{ℤ}
use Rattle.class_model.specs.declared.instr.Instr.TheVariants.{Iinc}
use Rattle.machine_values.specs.declared.value.Value.TheVariants.{Double, Float, Int, Long, Null}
use Rattle.member_link.specs.Machine.Locals.{incremented, stored}
use Rattle.member_link.specs.Machine.Stepping.{increment_step}
use Rattle.plan_flow.specs.Must.{row_of_point}
use Rattle.plan_flow.specs.PlanSlots.{is_open, slot_from}
use Rattle.plan_flow.specs.PlanTable.{held_locals}
use Rattle.same_runs.specs.Laws.Moves.{same_width}
use Rattle.same_runs.specs.Laws.Stored.{stored_is, stores}
use Rattle.same_runs.specs.QuietMoves.{kept as kept_by}
use Rattle.same_runs.specs.Renamings.{same_int}
use Rattle.written_runs.specs.Laws.Carried.PlannedEdges.{EdgeThere}
use Rattle.written_runs.specs.Laws.Carried.Slots.{LeavesStack, edge_slots}
use Rattle.written_runs.specs.Laws.Carried.StoreTurns.{many_flat, many_locals, next_edge, next_row, sources, stores_next}
use Rattle.written_runs.specs.Laws.Templates.Stacks.{held_at, held_length}
use Rattle.plan_flow.specs.PlanScope.{local_types}
use Rattle.plan_flow.specs.PlanSlots.{changed}
use Rattle.std.specs.Int.{int_wrapping_add, w32}

module _ (u : Setup) (laws : CarriedLaws u) {measure : ℕ} {one other : Run} (a : AtPlanned u measure one other) (class : ℕ) (local : ℕ) (amount : ℤ)
    (is : a.settled.point.instr ≡ Of class (Iinc local amount)) where
  abbrev P : Program
  P = first u

  abbrev settle : SettleLaws u
  settle = laws.turns.settle

  abbrev w : WrittenMethod
  w = a.in_planned.one

  abbrev s : PlanScope
  s = scope_in u w

  abbrev point : Point
  point = a.settled.point

  abbrev before : State
  before = state_written a.settled.route

  abbrev f : MethodState
  f = a.f

  abbrev h : Halfway u one other f a.ones w (known_here u settle a) point before (own_start u w f.place a.settled.route)
  h = knowing_here u settle a

  abbrev c : AtCarried u h.virtuals (known_here u settle a) h.names (length a.ones) f h.g
  c = carried_here u settle a class (Iinc local amount) is refl

  slots : length before.slots ≡ length point.typed.locals + length point.typed.stack
  slots = slots_long u settle w h.g.at h.is_written (laws.rows_fit h.g.at w h.is_written) a.settled.of_instruction.reached

  -- the second has room for it
  room_also : (local : ℕ) (value also : Value) (units : List (Option Value)) → stored local value f.locals ≡ Some units → SameValue h.names value also
      → (found : List (Option Value)) × (stored local also h.g.locals ≡ Some found)
  room_also at value also units some same =
      let room = (stored_is at value f.locals units some).room in
      let as_many = many_locals u laws measure h c tt in
      let flat = many_flat u laws measure h c tt in
      let width = same_width same in
      let room_there = h.keeps.room in
      stores at also h.g.locals (omega (arith, room, as_many, flat, width, room_there))

  row_is : row_of_point s f.place point ≡ moving point.typed 0 []
  row_is = ap (row_at s f.place point.typed) is

  falls : falls_on point.instr ≡ true
  falls = ap falls_on is

  opens : is_open before (row_of_point s f.place point).next ≡ true
  opens = ap (λ (r : PlanRow). is_open before r.next) row_is

  abbrev edge : EdgeThere s f.place point a.settled.route (next_row u laws measure h c tt)
  edge = next_edge u laws measure h c tt falls opens

  abbrev all_sources : List Source
  all_sources = sources u laws measure h c tt

  sources_are : all_sources ≡ held_locals point.typed
  sources_are = ap (λ (r : PlanRow). r.locals) row_is

  source_is : (unit : ℕ) → unit < length point.typed.locals → slice_get all_sources unit ≡ Some (from_place unit)
  source_is unit low =
      let zeroth : 0 + unit ≡ unit = omega arith in
      ap (λ (all : List Source). slice_get all unit) sources_are
      ∙ held_at 0 (length point.typed.locals) unit low ∙ ap (λ (n : ℕ). Some (from_place n)) zeroth

  -- the local
  typed : (type : VType) × (slice_get point.typed.locals local ≡ Some type) × (is_top type ≡ false)
  typed =
      let holds = (typed_row u laws a class (Iinc local amount) is refl).local in
      no_top w.flat point.typed.locals local holds.0 holds.1 (kind_is_no_top kinds.Int holds.0 holds.2)

  low : local < length point.typed.locals
  low = slice_get_within point.typed.locals local typed.0 typed.1

  module _ (n : ℤ) (there : slice_get f.locals local ≡ Some (Some (Int n))) where
    plain_slot : (slice_get before.slots local ≡ Some Plain) × (slice_get (local_slots point before) local ≡ Some Plain)
    plain_slot = by found.0 found.1 where
      found : (slot : Slot) × (slice_get before.slots local ≡ Some slot)
      found = let all = slots in let within = low in let got = drop_at local before.slots (omega (arith, all, within)) in (got.0, got.1)

      in_locals : (slot : Slot) → slice_get before.slots local ≡ Some slot → slice_get (local_slots point before) local ≡ Some slot
      in_locals slot is_slot = get_in_take (length point.typed.locals) before.slots local slot low is_slot

      by : (slot : Slot) → slice_get before.slots local ≡ Some slot
          → (slice_get before.slots local ≡ Some Plain) × (slice_get (local_slots point before) local ≡ Some Plain)
      by Plain is_slot = (is_slot, in_locals Plain is_slot)
      by (Virt site) is_slot =
          let told = h.tells.locals local site (in_locals (Virt site) is_slot) in
          absurd (cc (same_Some (Int n) told.0 (same_Some (Some (Int n)) (Some told.0) (sym there ∙ told.1)) ∙ told.2.is))
      by Unusable is_slot =
          absurd (false≢true (sym typed.2
          ∙ unusable_is_top u settle w h.g.at h.is_written (laws.rows_fit h.g.at w h.is_written) a.settled.of_instruction.reached local typed.0
          (in_locals Unusable is_slot) typed.1))

    slot_here : (slot : Slot) → slice_get (edge_slots s f.place point before (next_row u laws measure h c tt)) local ≡ Some slot → slot ≡ Plain
    slot_here slot is_slot =
        same_Some slot Plain
        (sym is_slot ∙ slice_get-map (slot_from s before (row_of_point s f.place point).change) all_sources local
        ∙ ap (option_map (slot_from s before (row_of_point s f.place point).change)) (source_is local low)
        ∙ ap (λ (slot : Option Slot). Some (readable slot)) plain_slot.0)

    leaves : LeavesStack s f.place point before (next_row u laws measure h c tt) 0 []
    leaves = record {
      enough = omega arith;
      stack = ap (λ (r : PlanRow). r.stack) row_is;
      plain = refl;
      objects = ap (λ (r : PlanRow). changed s before r.change ++ before.objects) row_is;
    }

    uninit_here : (type : VType) → slice_get edge.target.typed.locals local ≡ Some type → IsTrue (is_site_object s.flat type)
        → (reference : ℕ) × (Int (int_wrapping_add w32 n amount) ≡ Ref reference)
    uninit_here type is_type is_site =
        let of_target : slice_get (local_types s.flat (f.place + 1)) local ≡ Some type = rw (edge.is_target) is_type in
        let kept = edge.keeps.locals local type of_target is_site in
        of_source kept.0 kept.2 (same_Some kept.0 (from_place local) (sym kept.1 ∙ source_is local low)) where
          place_of : Source → ℕ
          place_of (from_place place) = place
          place_of others = 0

          of_source : (source : Source) → KeepsType f.place (place_types point.typed) type source → source ≡ from_place local
              → (reference : ℕ) × (Int (int_wrapping_add w32 n amount) ≡ Ref reference)
          of_source _ (from_its_type place at_place) same =
              let at_local : place ≡ local = ap place_of same in
              let of_local : slice_get point.typed.locals local ≡ Some type =
              sym (got_left point.typed.locals point.typed.stack local low) ∙ ap (slice_get (place_types point.typed)) (sym at_local) ∙ at_place in
              let told = h.tells.uninit_locals local type of_local is_site in
              absurd (cc (same_Some (Int n) (Ref told.0) (same_Some (Some (Int n)) (Some (Ref told.0)) (sym there ∙ told.1))))
          of_source _ (from_its_new new) same = absurd (cc same)

  step_is : op_step P (counted one) f a.ones (OpOf u laws a class (Iinc local amount) is refl tt point.instr)
      ≡ increment_step (counted one) f a.ones local amount (local_value kinds.Int f.locals local)
  step_is = ap (λ (i : FlatInstr). op_step P (counted one) f a.ones (OpOf u laws a class (Iinc local amount) is refl tt i)) is

  stuck_so : (world : World) → increment_step (counted one) f a.ones local amount (local_value kinds.Int f.locals local) ≡ ends_stuck world
      → KeepsTurn u measure one other
  stuck_so world lacks = absurd (not_stuck_there u laws a class (Iinc local amount) is refl tt (ends_stuck world) (step_is ∙ lacks) refl)

  pub increment_turn : KeepsTurn u measure one other
  increment_turn = by (local_value kinds.Int f.locals local) refl where
    of_units : (n : ℤ) → local_value kinds.Int f.locals local ≡ Some (Int n) → slice_get f.locals local ≡ Some (Some (Int n))
        → slice_get h.g.locals local ≡ Some (Some (Int n))
        → (units : Option (List (Option Value)))
        → stored local (Int (int_wrapping_add w32 n amount)) f.locals ≡ units
        → KeepsTurn u measure one other
    of_units n value there there_also None lacks =
        stuck_so (counted one) (ap (increment_step (counted one) f a.ones local amount) value ∙ rw (lacks) refl)
    of_units n value there there_also (Some units) some =
        stores_next u laws measure h c tt 0 local (Int (int_wrapping_add w32 n amount)) (Int (int_wrapping_add w32 n amount)) units units_also.0 some
        units_also.1 same_int (omega arith)
        (no_real (stack_slots point before) (length f.stack - 0) (let all = many_slots u laws measure h c tt in omega (arith, all)))
        falls opens (leaves n there) (ap length sources_are ∙ held_length 0 (length point.typed.locals)) (λ unit apart within. source_is unit within)
        (slot_here n there) (λ type wide is_type. absurd (false≢true wide)) (uninit_here n there)
        (step_is ∙ ap (increment_step (counted one) f a.ones local amount) value ∙ rw (some) refl)
        (ap (λ (i : FlatInstr). moved_by h.g (OpOf u laws a class (Iinc local amount) is refl tt i)) is
        ∙ ap (option_and_then (λ (v : Value). kept_by h.g h.g.stack local (incremented amount v))) value_also ∙ rw (units_also.1) refl) where
          units_also : (found : List (Option Value)) × (stored local (Int (int_wrapping_add w32 n amount)) h.g.locals ≡ Some found)
          units_also = room_also local (Int (int_wrapping_add w32 n amount)) (Int (int_wrapping_add w32 n amount)) units some same_int

          value_also : local_value kinds.Int h.g.locals local ≡ Some (Int n)
          value_also = rw (there_also) refl

    of_kept : (n : ℤ) → local_value kinds.Int f.locals local ≡ Some (Int n) → slice_get f.locals local ≡ Some (Some (Int n))
        → (also : Value) → slice_get h.g.locals local ≡ Some (Some also) → SameValue h.names (Int n) also
        → KeepsTurn u measure one other
    of_kept n value there _ there_also same_int =
        of_units n value there there_also (stored local (Int (int_wrapping_add w32 n amount)) f.locals) refl

    of_value : (value : Value) → local_value kinds.Int f.locals local ≡ Some value → has_kind kinds.Int value ≡ true → KeepsTurn u measure one other
    of_value (Int n) some has =
        let there = (value_there kinds.Int f.locals local (Int n) some).0 in
        let kept = h.keeps.locals local (Int n) (plain_slot n there).1 there in
        of_kept n some there kept.also kept.is kept.same
    of_value (Long n) some has = absurd (false≢true has)
    of_value (Float n) some has = absurd (false≢true has)
    of_value (Double n) some has = absurd (false≢true has)
    of_value Null some has = absurd (false≢true has)
    of_value (Ref n) some has = absurd (false≢true has)

    by : (found : Option Value) → local_value kinds.Int f.locals local ≡ found → KeepsTurn u measure one other
    by None lacks = stuck_so (counted one) (ap (increment_step (counted one) f a.ones local amount) lacks)
    by (Some value) some = of_value value some (value_there kinds.Int f.locals local value some).1
