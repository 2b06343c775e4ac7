-- A store of a virtual object into a local: nothing is written.
use Rattle.std.proofs.Common.{◌≡◌, ◌≢◌, ◌⊎◌, ◌<◌, ◌+◌, ◌++◌, ℕ, zero, suc, Bool, true, false, List, [], ◌∷◌, length, map, slice_get, slice_set, take, Some, None, Option, option_map, IsTrue, refl, sym, ap, subst, ◌∙◌, arith, inl, inr}
use Rattle.std.proofs.lemmas.Bool.{false≢true}
use Rattle.std.proofs.lemmas.Option.{none-some, same_Some, slice_get-map, slice_get_within}
use Rattle.class_model.specs.Frames.{is_top}
use Rattle.class_model.specs.declared.descriptor.Kind.{Kind}
use Rattle.class_model.specs.declared.frame.VType.{VType}
use Rattle.class_model.specs.declared.instr.Instr.TheVariants.{Store}
use Rattle.flow_code.specs.ReadTypes.{is_site_object}
use Rattle.flow_code.specs.declared.point.FlatInstr.TheVariants.{Of}
use Rattle.flow_code.specs.declared.point.Point.{Point}
use Rattle.machine_values.specs.Frames.{MethodState}
use Rattle.machine_values.specs.Values.{has_kind}
use Rattle.machine_values.specs.declared.value.Value.{Value}
use Rattle.machine_values.specs.declared.value.Value.TheVariants.{Ref}
use Rattle.making_code.specs.Items.{WInstr}
use Rattle.member_link.specs.Machine.Locals.{stored, width_of}
use Rattle.member_link.specs.Machine.Ops.{store_local}
use Rattle.member_link.specs.Machine.Runs.{Run}
use Rattle.member_link.specs.Machine.Stepping.{next_with, op_step, store_step, with_top}
use Rattle.plan_flow.specs.Must.{row_of_point}
use Rattle.plan_flow.specs.PlanRows.{PlanRow, RowEdge, Source, from_place}
use Rattle.plan_flow.specs.PlanSlots.{edge_objects, held, is_open, slot_from}
use Rattle.plan_flow.specs.PlanTable.{edges_of, falls_on, held_from, held_locals, operand}
use Rattle.plan_flow.specs.ReadyForPlans.{KeepsType, from_its_new, from_its_type, place_types}
use Rattle.plan_flow.specs.Written.Blocks.{leaves_to, state_written}
use Rattle.plan_flow.specs.Written.Templates.{nothing_of}
use Rattle.plan_flow.specs.declared.edge.EdgeKind.TheVariants as edges
use Rattle.same_runs.specs.Laws.BothBegin.{counted}
use Rattle.same_runs.specs.Laws.Objects.{set_other}
use Rattle.same_runs.specs.Laws.Stored.{IsClear, IsStored, set_count, set_in, stored_is}
use Rattle.same_runs.specs.Renamings.{no_values}
use Rattle.virtual_state.specs.Laws.Objects.{same_or_not}
use Rattle.virtual_state.specs.States.{State, object_of}
use Rattle.virtual_state.specs.declared.slot.Slot.{Slot}
use Rattle.virtual_state.specs.declared.slot.Slot.TheVariants.{Plain, Virt, Unusable}
use Rattle.virtual_state.specs.declared.slot.VObject.{VObject}
use Rattle.written_runs.specs.Inner.PlannedFrames.{KeptIn, scope_in}
use Rattle.written_runs.specs.Inner.Setup.{Setup, first}
use Rattle.written_runs.specs.Laws.PlannedTurns.{AtPlanned, written_at}
use Rattle.written_runs.specs.Laws.Simulation.{KeepsTurn}
use Rattle.written_runs.specs.Laws.Templates.Edges.{locals_from}
use Rattle.written_runs.specs.Laws.Templates.Instrs.{first_is, here_not_stuck, items_are, next_edge_there, row_here, row_is}
use Rattle.written_runs.specs.Laws.Templates.Known.{TemplateLaws, keeps, many_locals, many_mapped, many_slots, many_stack, operand_refers, reached, tells, top_unit, written}
use Rattle.written_runs.specs.Laws.Templates.Moving.{LocalsOver, along, many_next, next_locals}
use Rattle.written_runs.specs.Laws.Templates.Operands.{virtual_gone}
use Rattle.written_runs.specs.Laws.Templates.Stacks.{IsReadPlain, as_read, get_left, held_at, held_length, held_slots, is_plain_there, is_unusable_there, read_plain, read_virtual, split_place}
use Rattle.written_runs.specs.Laws.Templates.Turns.{goes_next, still_turn}
use Rattle.written_runs.specs.VirtualObjects.{RefersTo}

module _ (u : Setup) (laws : TemplateLaws u) {measure : ℕ} {one other : Run} (a : AtPlanned u measure one other) (class : ℕ) (kind : Kind)
    (local : ℕ) (is : a.settled.point.instr ≡ Of class (Store kind local)) (site : ℕ)
    (virtual : held (state_written a.settled.route) (operand a.settled.point.typed 0) ≡ Virt site) (value : Value) (below : List Value)
    (stack : a.f.stack ≡ value ∷ below) (units : List (Option Value)) (is_stored : IsStored local value a.f.locals units) where
  abbrev here : Point
  here = a.settled.point

  abbrev now : State
  now = state_written a.settled.route

  abbrev later : MethodState
  later = record (next_with a.f below) { locals = units }

  abbrev row : PlanRow
  row = row_of_point (scope_in u a.in_planned.one) a.f.place here

  abbrev edge : RowEdge
  edge = record { by = edges.Next; to = a.f.place + 1; guard = (row_of_point (scope_in u a.in_planned.one) a.f.place a.settled.point).next }

  abbrev refers : RefersTo a.t.along.virtuals (length a.ones) site value
  refers = operand_refers u laws a [] below value site stack virtual

  width_is : width_of value ≡ 1
  width_is = ap width_of refers.is

  low : local < length here.typed.locals
  low =
      let room = is_stored.room in
      let width = width_is in
      let many = many_locals u laws a in
      omega (arith, room, width, many)

  row_locals : row.locals ≡ slice_set (held_locals here.typed) local (from_place (operand here.typed 0))
  row_locals = ap (λ (r : PlanRow). r.locals) (row_is u laws a class (Store kind local) is)

  -- what each unit comes from
  source_here : slice_get row.locals local ≡ Some (from_place (operand here.typed 0))
  source_here =
      ap (λ (sources : List Source). slice_get sources local) row_locals
      ∙ set_in (held_locals here.typed) local (from_place (operand here.typed 0))
      (let many = held_length 0 (length here.typed.locals) in let l = low in omega (arith, many, l))

  source_other : (unit : ℕ) → local ≢ unit → unit < length here.typed.locals → slice_get row.locals unit ≡ Some (from_place unit)
  source_other unit apart_from within =
      let zeroth : 0 + unit ≡ unit = omega arith in
      ap (λ (sources : List Source). slice_get sources unit) row_locals
      ∙ set_other (held_locals here.typed) local unit (from_place (operand here.typed 0)) apart_from
      ∙ held_at 0 (length here.typed.locals) unit within ∙ ap (λ (n : ℕ). Some (from_place n)) zeroth

  many_sources : length row.locals ≡ length here.typed.locals
  many_sources =
      ap length row_locals ∙ set_count (held_locals here.typed) local (from_place (operand here.typed 0))
      ∙ held_length 0 (length here.typed.locals)

  -- the slot of a unit
  slot_is : (unit : ℕ) (source : Source) → slice_get row.locals unit ≡ Some source
      → slice_get (locals_from (scope_in u a.in_planned.one) here a.f.place now edge) unit
      ≡ Some (slot_from (scope_in u a.in_planned.one) now row.change source)
  slot_is unit source from =
      slice_get-map (slot_from (scope_in u a.in_planned.one) now row.change) row.locals unit
      ∙ ap (option_map (slot_from (scope_in u a.in_planned.one) now row.change)) from

  within_of : (unit : ℕ) (slot : Slot) → slice_get (locals_from (scope_in u a.in_planned.one) here a.f.place now edge) unit ≡ Some slot
      → unit < length here.typed.locals
  within_of unit slot found =
      let within = slice_get_within (locals_from (scope_in u a.in_planned.one) here a.f.place now edge) unit slot found in
      let mapped = many_mapped (slot_from (scope_in u a.in_planned.one) now row.change) row.locals in
      let many = many_sources in
      omega (arith, within, mapped, many)

  -- of another unit the slot is as it was
  slot_was : (unit : ℕ) (slot : Slot) → local ≢ unit
      → slice_get (locals_from (scope_in u a.in_planned.one) here a.f.place now edge) unit ≡ Some slot
      → slice_get (map as_read (take (length here.typed.locals) now.slots)) unit ≡ Some slot
  slot_was unit slot apart_from found =
      let within = within_of unit slot found in
      let zeroth : 0 + unit ≡ unit = omega arith in
      ap (λ (slots : List Slot). slice_get slots unit)
      (sym (held_slots (scope_in u a.in_planned.one) now row.change 0 (length here.typed.locals) (let all = many_slots u laws a in omega (arith, all))))
      ∙ slice_get-map (slot_from (scope_in u a.in_planned.one) now row.change) (held_locals here.typed) unit
      ∙ ap (option_map (slot_from (scope_in u a.in_planned.one) now row.change))
      (held_at 0 (length here.typed.locals) unit within ∙ ap (λ (n : ℕ). Some (from_place n)) zeroth)
      ∙ sym (slot_is unit (from_place unit) (source_other unit apart_from within)) ∙ found

  -- a reference in another unit stays
  still_there : (unit reference : ℕ) → local ≢ unit → slice_get a.f.locals unit ≡ Some (Some (Ref reference))
      → slice_get units unit ≡ Some (Some (Ref reference))
  still_there unit reference apart_from there = is_stored.stays unit (Ref reference) (by (split_place unit local)) there where
    by : (unit < local) ⊎ ((more : ℕ) × (unit ≡ local + more)) → IsClear unit (Ref reference) local (local + width_of value)
    by (inl below_it) = inl (omega (arith, below_it))
    by (inr (zero, is_more)) = absurd (apart_from (omega (arith, is_more)))
    by (inr (suc more, is_more)) = let width = width_is in inr (omega (arith, is_more, width))

  module _ (next : Point) (is_next : slice_get a.in_planned.one.flat.points (a.f.place + 1) ≡ Some next) where
    falls : falls_on here.instr ≡ true
    falls = ap falls_on is

    is_edge : slice_get (edges_of a.f.place here row) 0 ≡ Some edge
    is_edge = next_edge_there (scope_in u a.in_planned.one) a.f.place here falls

    locals_over : LocalsOver u laws a edge next a.t.along.virtuals later a.g
    locals_over = record {
      many_locals =
          many_mapped (slot_from (scope_in u a.in_planned.one) now row.change) row.locals ∙ many_sources ∙ many_next u laws a 0 is_edge is_next;
      locals_refer = refer;
      locals_keep = keep;
      locals_uninit = uninit;
    } where
      refer : (unit other_site : ℕ)
          → slice_get (locals_from (scope_in u a.in_planned.one) here a.f.place now edge) unit ≡ Some (Virt other_site)
          → (found : Value)
          × (slice_get units unit ≡ Some (Some found))
          × RefersTo a.t.along.virtuals (length a.ones) other_site found
      refer unit other_site slot = by (same_or_not local unit) where
        by : (local ≡ unit) ⊎ (local ≢ unit)
            → (found : Value)
            × (slice_get units unit ≡ Some (Some found))
            × RefersTo a.t.along.virtuals (length a.ones) other_site found
        by (inl same) = (
          value,
          ap (slice_get units) (sym same) ∙ is_stored.here,
          operand_refers u laws a [] below value other_site stack
              (same_Some (held now (operand here.typed 0)) (Virt other_site)
              (sym (slot_is local (from_place (operand here.typed 0)) source_here)
              ∙ ap (slice_get (locals_from (scope_in u a.in_planned.one) here a.f.place now edge)) same ∙ slot)),
        )
        by (inr apart_from) =
            let found = (tells u laws a).locals unit other_site
            (read_virtual (take (length here.typed.locals) now.slots) unit other_site (slot_was unit (Virt other_site) apart_from slot)) in (
              found.0,
              subst (λ (v : Value). slice_get units unit ≡ Some (Some v)) (sym found.2.is)
                  (still_there unit found.2.virtual.reference apart_from (found.1 ∙ ap (λ (v : Value). Some (Some v)) found.2.is)),
              found.2,
            )

      keep : (unit : ℕ) (type : VType) (found : Value)
          → slice_get next.typed.locals unit ≡ Some type
          → is_top type ≡ false
          → slice_get (locals_from (scope_in u a.in_planned.one) here a.f.place now edge) unit ≡ Some Plain
          → slice_get units unit ≡ Some (Some found)
          → KeptIn a.t.along.names a.g unit found
      keep unit type found is_type not_top slot there = by (same_or_not local unit) where
        low_unit : unit < length here.typed.locals
        low_unit = within_of unit Plain slot

        by : (local ≡ unit) ⊎ (local ≢ unit) → KeptIn a.t.along.names a.g unit found
        by (inl same) =
            let plain : held now (operand here.typed 0) ≡ Plain =
            same_Some (held now (operand here.typed 0)) Plain
            (sym (slot_is local (from_place (operand here.typed 0)) source_here)
            ∙ ap (slice_get (locals_from (scope_in u a.in_planned.one) here a.f.place now edge)) same ∙ slot) in
            absurd (cc (sym virtual ∙ plain))
        by (inr apart_from) =
            of_slot (read_plain (take (length here.typed.locals) now.slots) unit (slot_was unit Plain apart_from slot)) where
              of_slot : IsReadPlain (take (length here.typed.locals) now.slots) unit → KeptIn a.t.along.names a.g unit found
              of_slot (is_plain_there plain) =
                  (keeps u laws a).locals unit found plain (is_stored.was unit found (λ same. absurd (apart_from (sym same))) there)
              of_slot (is_unusable_there unusable) =
                  absurd (false≢true (sym not_top ∙ ap is_top
                  (laws.stays_top a.f.at a.in_planned.one a.f.place here 0 edge unit type (written u laws a) (reached u laws a).is_point is_edge
                  (top_unit u laws a unit unusable) (source_other unit apart_from low_unit)
                  (ap (λ (types : List VType). slice_get types unit) (next_locals u laws a 0 is_edge is_next) ∙ is_type))))

      uninit : (unit : ℕ) (type : VType)
          → slice_get next.typed.locals unit ≡ Some type
          → IsTrue (is_site_object a.in_planned.one.flat type)
          → (reference : ℕ) × (slice_get units unit ≡ Some (Some (Ref reference)))
      uninit unit type is_type site_object = by (same_or_not local unit) where
        low_unit : unit < length here.typed.locals
        low_unit =
            let within = slice_get_within next.typed.locals unit type is_type in
            let many = many_next u laws a 0 is_edge is_next in
            omega (arith, within, many)

        kept : (source : Source)
            × (slice_get row.locals unit ≡ Some source)
            × KeepsType a.f.place (place_types here.typed) type source
        kept =
            (along u laws a 0 is_edge is_next).locals unit type
            (ap (λ (types : List VType). slice_get types unit) (next_locals u laws a 0 is_edge is_next) ∙ is_type) site_object

        of_source : local ≢ unit → (found : Source)
            → KeepsType a.f.place (place_types here.typed) type found
            → Some found ≡ Some (from_place unit)
            → (reference : ℕ) × (slice_get units unit ≡ Some (Some (Ref reference)))
        of_source apart_from (from_place place) (from_its_type other is_type_there) same =
            let at_unit : place ≡ unit = cc (same_Some (from_place place) (from_place unit) same) in
            let was = (tells u laws a).uninit_locals unit type
            (sym (get_left here.typed.locals here.typed.stack unit low_unit)
            ∙ ap (slice_get (place_types here.typed)) (sym at_unit) ∙ is_type_there) site_object in
            (was.0, still_there unit was.0 apart_from was.1)
        of_source apart_from found (from_its_new of_new) same = absurd (cc (same_Some found (from_place unit) same))

        by : (local ≡ unit) ⊎ (local ≢ unit) → (reference : ℕ) × (slice_get units unit ≡ Some (Some (Ref reference)))
        by (inl same) = (
          refers.virtual.reference,
          ap (slice_get units) (sym same) ∙ is_stored.here ∙ ap (λ (v : Value). Some (Some v)) refers.is,
        )
        by (inr apart_from) = of_source apart_from kept.0 kept.2 (sym kept.1 ∙ source_other unit apart_from low_unit)

  stored_goes : op_step (first u) (counted one) a.f a.ones (store_local kind local) ≡ with_top (counted one) a.ones later → KeepsTurn u measure one other
  stored_goes turned =
      goes_next u laws a
      (still_turn u laws a (record (next_with a.f below) { locals = units })
      (ap (op_step (first u) (counted one) a.f a.ones) (first_is u laws a class (Store kind local) is) ∙ turned) refl refl)
      (record {
        falls = ap falls_on is;
        opens = ap (λ (r : PlanRow). is_open now r.next) row_here_is;
        place = refl;
        leaves = leaves_none;
        instrs = [];
        items = items_are u laws a class (Store kind local) [] is (ap nothing_of virtual);
        own = tt;
        middle = a.g;
        straight = λ there. tt;
        moved = λ there. refl;
        gives = [];
        over = λ next is_next many. record {
          number = 0;
          is_edge = next_edge_there (scope_in u a.in_planned.one) a.f.place here (ap falls_on is);
          is_next = is_next;
          top = value ∷ [];
          below = below;
          is_stack = stack;
          given = [];
          many_given = refl;
          then_stack = refl;
          many_then = many;
          below_also = a.g.stack;
          given_also = [];
          then_also = refl;
          keep_below = virtual_gone u laws a value below site stack virtual;
          keep_given = no_values;
          row_stack =
              ap (λ (r : PlanRow). r.stack) row_here_is
              ∙ ap (λ (count : ℕ). held_from (length here.typed.locals) count ++ [])
              (let all = sym (many_stack u laws a) ∙ ap length stack in omega (arith, all));
          refers = λ other_site now_value refers_to. refers_to;
          given_refers = λ place other_site now_value slot there. absurd (none-some now_value there);
          given_uninit = λ place source type now_value from there kept site_object. absurd (none-some now_value there);
          objects = λ other_site told told_is.
              (tells u laws a).objects other_site told (ap (λ (objects : List VObject). object_of objects other_site) (sym objects_are) ∙ told_is);
          fields = λ other_site number told found field_value told_is there plain value_is.
              (keeps u laws a).fields other_site number told found field_value
              (ap (λ (objects : List VObject). object_of objects other_site) (sym objects_are) ∙ told_is) there plain value_is;
          locals = locals_over next is_next;
          room = (keeps u laws a).room;
        };
      }) where
        leaves_none : leaves_to a.settled.point a.settled.route ≡ None
        leaves_none = rw (is) refl

        row_here_is : row ≡ row_here u laws a class (Store kind local)
        row_here_is = row_is u laws a class (Store kind local) is

        objects_are : edge_objects (scope_in u a.in_planned.one) now row edges.Next ≡ now.objects
        objects_are = ap (λ (r : PlanRow). edge_objects (scope_in u a.in_planned.one) now r edges.Next) row_here_is

module _ (u : Setup) (laws : TemplateLaws u) {measure : ℕ} {one other : Run} (a : AtPlanned u measure one other) (class : ℕ) (kind : Kind)
    (local : ℕ) (is : a.settled.point.instr ≡ Of class (Store kind local)) where
  store_virtual : (site : ℕ) → held (state_written a.settled.route) (operand a.settled.point.typed 0) ≡ Virt site → KeepsTurn u measure one other
  store_virtual site virtual = by a.f.stack refl where
    of_units : (value : Value) (below : List Value) → a.f.stack ≡ value ∷ below → has_kind kind value ≡ true
        → (units : Option (List (Option Value)))
        → stored local value a.f.locals ≡ units
        → KeepsTurn u measure one other
    of_units value below stack fits None none =
        absurd (here_not_stuck u laws a class (Store kind local) is
        (ap (λ (found : List Value). (store_step (counted one) a.f a.ones kind local found).halt) stack
        ∙ rw (fits, none) refl))
    of_units value below stack fits (Some units) some =
        stored_goes u laws a class kind local is site virtual value below stack units (stored_is local value a.f.locals units some)
        (ap (store_step (counted one) a.f a.ones kind local) stack ∙ rw (fits, some) refl)

    of_kind : (value : Value) (below : List Value) → a.f.stack ≡ value ∷ below → (fits : Bool) → has_kind kind value ≡ fits
        → KeepsTurn u measure one other
    of_kind value below stack false fits =
        absurd (here_not_stuck u laws a class (Store kind local) is
        (ap (λ (found : List Value). (store_step (counted one) a.f a.ones kind local found).halt) stack ∙ rw (fits) refl))
    of_kind value below stack true fits = of_units value below stack fits (stored local value a.f.locals) refl

    by : (stack : List Value) → a.f.stack ≡ stack → KeepsTurn u measure one other
    by [] empty =
        absurd (here_not_stuck u laws a class (Store kind local) is
        (ap (λ (found : List Value). (store_step (counted one) a.f a.ones kind local found).halt) empty))
    by (value ∷ below) stack = of_kind value below stack (has_kind kind value) refl

  pub store_turns : (instrs : List WInstr) → written_at a class (Store kind local) ≡ Some instrs → KeepsTurn u measure one other
  store_turns instrs told = by (held (state_written a.settled.route) (operand a.settled.point.typed 0)) refl told where
    by : (slot : Slot)
        → held (state_written a.settled.route) (operand a.settled.point.typed 0) ≡ slot
        → nothing_of slot ≡ Some instrs
        → KeepsTurn u measure one other
    by Plain is_slot written_it = absurd (none-some instrs written_it)
    by Unusable is_slot written_it = absurd (none-some instrs written_it)
    by (Virt site) is_slot written_it = store_virtual site is_slot
