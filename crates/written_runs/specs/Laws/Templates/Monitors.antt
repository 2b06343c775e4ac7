-- A monitor of a virtual object is entered or left: nothing is written, and the object is locked once more, or once less.
use Rattle.std.proofs.Common.{◌≡◌, ◌≢◌, ◌⊎◌, ◌≤◌, ◌==◌, ◌+◌, ◌-◌, ◌++◌, ℕ, Bool, true, false, List, [], ◌∷◌, length, slice_get, Some, None, Option, option_map, refl, sym, ap, subst, ◌∙◌, arith, inl, inr}
use Rattle.std.proofs.lemmas.Bool.{eqb-true}
use Rattle.std.proofs.lemmas.Option.{none-some, same_Some}
use Rattle.class_model.specs.declared.instr.Instr.{Instr}
use Rattle.class_model.specs.declared.instr.Instr.TheVariants.{Enter, Leave}
use Rattle.flow_code.specs.declared.point.FlatInstr.TheVariants.{Of}
use Rattle.machine_values.specs.Heaps.{with_object}
use Rattle.machine_values.specs.declared.frame.RunFrame.TheVariants.{Method}
use Rattle.machine_values.specs.declared.object.Object.{Object}
use Rattle.machine_values.specs.declared.value.Value.{Value}
use Rattle.making_code.specs.Items.{WInstr}
use Rattle.making_code.specs.Units.{field_unit, unit_number}
use Rattle.member_link.specs.Bodies.{falls_through}
use Rattle.member_link.specs.Machine.Completions.{gives}
use Rattle.member_link.specs.Machine.Ops.{enter_monitor, leave_monitor}
use Rattle.member_link.specs.Machine.Performing.{perform}
use Rattle.member_link.specs.Machine.Runs.{Run}
use Rattle.member_link.specs.Machine.Stepping.{next_with, op_step}
use Rattle.member_link.specs.Machine.Work.{work}
use Rattle.plan_flow.specs.PlanRows.{PlanRow, object_at_depth}
use Rattle.plan_flow.specs.PlanSlots.{at_depth, changed, held, is_open, with_depth_of}
use Rattle.plan_flow.specs.PlanTable.{held_from, held_locals, operand, positions}
use Rattle.plan_flow.specs.Written.Blocks.{leaves_to, state_written}
use Rattle.plan_flow.specs.Written.Templates.{nothing_of}
use Rattle.same_runs.specs.Laws.BothBegin.{counted}
use Rattle.same_runs.specs.Renamings.{no_values}
use Rattle.virtual_state.specs.Laws.Objects.{found_site, object_behind, object_first, same_or_not}
use Rattle.virtual_state.specs.States.{object_of}
use Rattle.virtual_state.specs.declared.slot.Slot.{Slot}
use Rattle.virtual_state.specs.declared.slot.Slot.TheVariants.{Plain, Virt, Unusable}
use Rattle.virtual_state.specs.declared.slot.VObject.{VObject}
use Rattle.written_runs.specs.Inner.PlannedFrames.{KeptIn, scope_in}
use Rattle.written_runs.specs.Inner.Setup.{Setup, first}
use Rattle.written_runs.specs.Inner.Standing.{entered}
use Rattle.written_runs.specs.Laws.PlannedTurns.{AtPlanned, written_at}
use Rattle.written_runs.specs.Laws.LessVirtual.{one_owner}
use Rattle.written_runs.specs.Laws.Simulation.{KeepsTurn}
use Rattle.written_runs.specs.Laws.Templates.Changed.{changed_here, entered_as, fields_changed, had, has_changed, one_reference, refers_changed, tells_other, unchanged, with_changed, change_one}
use Rattle.written_runs.specs.Laws.Templates.ChangedTurns.{changed_turn}
use Rattle.written_runs.specs.Laws.Templates.Known.{TemplateLaws, keeps, operand_refers, tells}
use Rattle.written_runs.specs.Laws.Templates.Operands.{IsObjectOf, asks_none, object_is, virtual_gone}
use Rattle.written_runs.specs.Laws.Templates.Instrs.{first_is, here_not_stuck, instr_goes_next, op_here, row_here, row_is}
use Rattle.written_runs.specs.Laws.Templates.Turns.{memories_here}
use Rattle.written_runs.specs.Laws.Templates.Working.{no_operands, one_operand}
use Rattle.written_runs.specs.VirtualObjects.{HasVirtual, RefersTo, TellFields, TellsObject, Virtual, Virtuals}

-- ---- one object of the state becomes another one

module _ (u : Setup) (laws : TemplateLaws u) {measure : ℕ} {one other : Run} (a : AtPlanned u measure one other) (site : ℕ) (told : VObject)
    (is_told : object_of (state_written a.settled.route).objects site ≡ Some told)
    (target : Virtual) (has_target : HasVirtual a.t.along.virtuals (length a.ones) site target)
    (new : Object) (told_now : VObject) (same_site : told_now.site ≡ told.site) where
  abbrev now_virtuals : Virtuals
  now_virtuals = with_changed target.reference new a.t.along.virtuals

  site_is : told.site ≡ site
  site_is = found_site (state_written a.settled.route).objects site told is_told

  -- an object of another site is another one
  pub other_reference : (other_site : ℕ) (virtual : Virtual)
      → HasVirtual a.t.along.virtuals (length a.ones) other_site virtual
      → site ≢ other_site
      → virtual.reference ≢ target.reference
  other_reference other_site virtual there differ same =
      absurd (differ (sym has_target.of_site
      ∙ ap (λ (v : Virtual). v.site) (sym (one_reference a.t.along.virtuals there.number has_target.number virtual target a.t.along.are_apart
      there.is_there has_target.is_there same)) ∙ there.of_site))

  -- what is found behind the change: the new one, or one as it was
  pub found_now : (other_site : ℕ) (found : VObject)
      → object_of (told_now ∷ (state_written a.settled.route).objects) other_site ≡ Some found
      → ((site ≡ other_site) × (told_now ≡ found))
      ⊎ ((site ≢ other_site) × (object_of (state_written a.settled.route).objects other_site ≡ Some found))
  found_now other_site found is = by (same_or_not told_now.site other_site) where
    by : (told_now.site ≡ other_site) ⊎ (told_now.site ≢ other_site)
        → ((site ≡ other_site) × (told_now ≡ found))
        ⊎ ((site ≢ other_site) × (object_of (state_written a.settled.route).objects other_site ≡ Some found))
    by (inl here) =
        inl (
          sym site_is ∙ sym same_site ∙ here,
          same_Some told_now found (sym (object_first told_now (state_written a.settled.route).objects other_site here) ∙ is),
        )
    by (inr differ) =
        inr (
          (λ same. absurd (differ (same_site ∙ site_is ∙ same))),
          sym (object_behind told_now (state_written a.settled.route).objects other_site differ) ∙ is,
        )

  pub objects_now : TellsObject (first u) (scope_in u a.in_planned.one) now_virtuals (length a.ones) told_now
      → (other_site : ℕ) (found : VObject)
      → object_of (told_now ∷ (state_written a.settled.route).objects) other_site ≡ Some found
      → TellsObject (first u) (scope_in u a.in_planned.one) now_virtuals (length a.ones) found
  objects_now tells_now other_site found is = by (found_now other_site found is) where
    by : ((site ≡ other_site) × (told_now ≡ found))
        ⊎ ((site ≢ other_site) × (object_of (state_written a.settled.route).objects other_site ≡ Some found))
        → TellsObject (first u) (scope_in u a.in_planned.one) now_virtuals (length a.ones) found
    by (inl (same, here)) = subst (TellsObject (first u) (scope_in u a.in_planned.one) now_virtuals (length a.ones)) here tells_now
    by (inr (differ, there)) =
        let tells_it = (tells u laws a).objects other_site found there in
        tells_other target.reference new found tells_it
        (other_reference other_site tells_it.virtual
        (subst (λ (n : ℕ). HasVirtual a.t.along.virtuals (length a.ones) n tells_it.virtual)
        (found_site (state_written a.settled.route).objects other_site found there) tells_it.has) differ)

-- ---- the monitor

module _ (u : Setup) (laws : TemplateLaws u) {measure : ℕ} {one other : Run} (a : AtPlanned u measure one other) (class : ℕ) (instr : Instr)
    (is : a.settled.point.instr ≡ Of class instr) (site : ℕ)
    (virtual : held (state_written a.settled.route) (operand a.settled.point.typed 0) ≡ Virt site) (value : Value) (below : List Value)
    (stack : a.f.stack ≡ value ∷ below) where
  abbrev refers : RefersTo a.t.along.virtuals (length a.ones) site value
  refers = operand_refers u laws a [] below value site stack virtual

  abbrev target : Virtual
  target = (operand_refers u laws a [] below value site stack virtual).virtual

  abbrev pub there : IsObjectOf u (scope_in u a.in_planned.one) one.world.memory.heap (state_written a.settled.route) site value target
  there = object_is u laws a (operand a.settled.point.typed 0) site value virtual refers

  -- the object, entered so often
  abbrev pub entered_times : ℕ → Object
  entered_times count = record target.object { monitor = count }

  abbrev pub told_times : ℕ → VObject
  told_times count = record there.told { depth = count }

  values_same : (count : ℕ) (found : Virtual) (number : ℕ) → slice_get a.t.along.virtuals number ≡ Some found
      → (change_one target.reference (entered_times count) found).object.values ≡ found.object.values
  values_same count found number is_there = by (same_or_not found.reference target.reference) where
    by : (found.reference ≡ target.reference) ⊎ (found.reference ≢ target.reference)
        → (change_one target.reference (entered_times count) found).object.values ≡ found.object.values
    by (inl here) =
        ap (λ (v : Virtual). v.object.values) (changed_here target.reference (entered_times count) found here)
        ∙ ap (λ (v : Virtual). v.object.values) (sym (one_reference a.t.along.virtuals number refers.has.number found target a.t.along.are_apart
        is_there refers.has.is_there here))
    by (inr apart_from) = ap (λ (v : Virtual). v.object.values) (unchanged target.reference (entered_times count) found apart_from)

  same_target : ((tells u laws a).objects site there.told there.is_told).virtual ≡ target
  same_target =
      one_owner a.t.along.virtuals (length a.ones) site ((tells u laws a).objects site there.told there.is_told).virtual target
      a.t.along.are_apart
      (subst (λ (n : ℕ). HasVirtual a.t.along.virtuals (length a.ones) n ((tells u laws a).objects site there.told there.is_told).virtual)
      (found_site (state_written a.settled.route).objects site there.told there.is_told)
      ((tells u laws a).objects site there.told there.is_told).has) refers.has

  tells_now : (count : ℕ)
      → TellsObject (first u) (scope_in u a.in_planned.one) (with_changed target.reference (entered_times count) a.t.along.virtuals) (length a.ones)
      (told_times count)
  tells_now count =
      let tells_it = (tells u laws a).objects site there.told there.is_told in
      record {
        site = tells_it.site;
        is_site = tells_it.is_site;
        virtual = record target { object = entered_times count };
        has =
            subst (HasVirtual (with_changed target.reference (entered_times count) a.t.along.virtuals) (length a.ones) there.told.site)
            (changed_here target.reference (entered_times count) target refl)
            (has_changed target.reference (entered_times count)
            (subst (λ (n : ℕ). HasVirtual a.t.along.virtuals (length a.ones) n target)
            (sym (found_site (state_written a.settled.route).objects site there.told there.is_told)) refers.has));
        class = tells_it.class;
        of_folder = tells_it.of_folder;
        shape = ap (λ (v : Virtual). v.object.shape) (sym same_target) ∙ tells_it.shape;
        monitor = refl;
        fields =
            fields_changed target.reference (entered_times count) a.t.along.virtuals (length a.ones) tells_it.site.fields target.object.values
            there.told.fields
            (subst (λ (v : Virtual). TellFields a.t.along.virtuals (length a.ones) tells_it.site.fields v.object.values there.told.fields)
            same_target tells_it.fields);
      }

  -- an instruction that does nothing but this goes on
  pub monitor_goes : (count entries : ℕ)
      → written_at a class instr ≡ Some []
      → (row_here u laws a class instr).locals ≡ held_locals a.settled.point.typed
      → (row_here u laws a class instr).stack
      ≡ held_from (length a.settled.point.typed.locals) (length a.settled.point.typed.stack - 1) ++ []
      → changed (scope_in u a.in_planned.one) (state_written a.settled.route) (row_here u laws a class instr).change ≡ told_times count ∷ []
      → is_open (state_written a.settled.route) (row_here u laws a class instr).next ≡ true
      → falls_through instr ≡ true
      → leaves_to a.settled.point a.settled.route ≡ None
      → op_step (first u) (counted one) a.f a.ones (op_here u laws a class instr)
      ≡ record (counted one) {
        memory = record one.world.memory {
          heap = with_object one.world.memory.heap target.reference (entered_times count);
          entries = entries;
        };
        frames = Method (next_with a.f below) ∷ a.ones;
      }
      → other.world.memory.entries + entered (with_changed target.reference (entered_times count) a.t.along.virtuals) ≤ entries
      → KeepsTurn u measure one other
  monitor_goes count entries told row_locals row_stack row_changed opens falls leaves turned few =
      instr_goes_next u laws a class instr (record {
        is = is;
        instrs = [];
        told = told;
        own = tt;
        gives = [];
        row_locals = row_locals;
        takes = 1;
        row_stack = row_stack;
        opens = opens;
        falls = falls;
        leaves = leaves;
        t =
            changed_turn u laws a (next_with a.f below) (entered_times count) entries refers.has.number target refers.has.is_there refers.has.of_frame
            refl (ap (op_step (first u) (counted one) a.f a.ones) (first_is u laws a class instr is) ∙ turned) few refl refl;
        top = value ∷ [];
        below = below;
        is_stack = stack;
        many_top = refl;
        given = [];
        many_given = refl;
        later_is = refl;
        refers = λ other_site now refers_to. refers_changed target.reference (entered_times count) other_site now refers_to;
        given_refers = λ place other_site now slot here. absurd (none-some now here);
        given_uninit = λ place source type now from here kept site_object. absurd (none-some now here);
        objects = λ other_site found found_is.
            objects_now u laws a site there.told there.is_told target refers.has (entered_times count) (told_times count) refl (tells_now count)
            other_site found
            (ap (λ (objects : List VObject). object_of (objects ++ (state_written a.settled.route).objects) other_site) (sym row_changed) ∙ found_is);
        middle = a.g;
        straight = λ at_own. tt;
        moved = λ at_own. refl;
        below_also = a.g.stack;
        given_also = [];
        then_also = refl;
        keep_below = virtual_gone u laws a value below site stack virtual;
        keep_given = no_values;
        own_units = (keeps u laws a).locals;
        fields = fields;
        room = (keeps u laws a).room;
      }) where
        fields : (other_site number : ℕ) (found : VObject) (now : Virtual) (field_value : Value)
            → object_of (changed (scope_in u a.in_planned.one) (state_written a.settled.route) (row_here u laws a class instr).change
            ++ (state_written a.settled.route).objects) other_site ≡ Some found
            → HasVirtual (with_changed target.reference (entered_times count) a.t.along.virtuals) (length a.ones) other_site now
            → slice_get found.fields number ≡ Some Plain
            → slice_get now.object.values number ≡ Some field_value
            → KeptIn a.t.along.names a.g (unit_number a.in_planned.one.flat (field_unit other_site number)) field_value
        fields other_site number found now field_value found_is has_now plain here =
            by (found_now u laws a site there.told there.is_told target refers.has (entered_times count) (told_times count) refl other_site found
            (ap (λ (objects : List VObject). object_of (objects ++ (state_written a.settled.route).objects) other_site) (sym row_changed)
            ∙ found_is)) where
              was : (before_now : Virtual) × HasVirtual a.t.along.virtuals (length a.ones) other_site before_now
                  × (now ≡ change_one target.reference (entered_times count) before_now)
              was = had target.reference (entered_times count) has_now

              value_was : slice_get was.0.object.values number ≡ Some field_value
              value_was =
                  ap (λ (vs : List Value). slice_get vs number) (sym (values_same count was.0 was.1.number was.1.is_there))
                  ∙ ap (λ (v : Virtual). slice_get v.object.values number) (sym was.2) ∙ here

              by : ((site ≡ other_site) × (told_times count ≡ found))
                  ⊎ ((site ≢ other_site) × (object_of (state_written a.settled.route).objects other_site ≡ Some found))
                  → KeptIn a.t.along.names a.g (unit_number a.in_planned.one.flat (field_unit other_site number)) field_value
              by (inl (same, is_found)) =
                  (keeps u laws a).fields other_site number there.told was.0 field_value
                  (ap (object_of (state_written a.settled.route).objects) (sym same) ∙ there.is_told) was.1
                  (ap (λ (o : VObject). slice_get o.fields number) is_found ∙ plain) value_was
              by (inr (differ, is_found)) =
                  (keeps u laws a).fields other_site number found was.0 field_value is_found was.1 plain value_was

  pub monitor_is : target.object.monitor ≡ there.told.depth
  monitor_is =
      ap (λ (v : Virtual). v.object.monitor) (sym same_target) ∙ ((tells u laws a).objects site there.told there.is_told).monitor

  -- ---- monitorenter

  pub enter_on : instr ≡ Enter → KeepsTurn u measure one other
  enter_on is_enter =
      monitor_goes (target.object.monitor + 1) (one.world.memory.entries + 1)
      (ap (written_at a class) is_enter ∙ ap nothing_of virtual)
      (ap (λ (i : Instr). (row_here u laws a class i).locals) is_enter)
      (ap (λ (i : Instr). (row_here u laws a class i).stack) is_enter)
      (ap (λ (i : Instr). changed (scope_in u a.in_planned.one) (state_written a.settled.route) (row_here u laws a class i).change) is_enter
      ∙ ap (λ (slot : Slot). at_depth (state_written a.settled.route) slot (λ depth. depth + 1)) virtual
      ∙ ap (λ (found : Option VObject). with_depth_of found (λ depth. depth + 1)) there.is_told
      ∙ ap (λ (n : ℕ). record there.told { depth = n + 1 } ∷ []) (sym monitor_is))
      (ap (λ (i : Instr). is_open (state_written a.settled.route) (row_here u laws a class i).next) is_enter)
      (ap falls_through is_enter)
      (rw (is, is_enter) refl)
      (ap (λ (i : Instr). op_step (first u) (counted one) a.f a.ones (op_here u laws a class i)) is_enter
      ∙ one_operand (first u) (counted one) a.f a.ones enter_monitor value below refl stack
      ∙ ap (perform (first u) (counted one) a.f (record a.f { stack = below }) a.ones) works)
      (let sums = entered_as target.reference (entered_times (target.object.monitor + 1)) a.t.along.virtuals refers.has.number target
      a.t.along.are_apart refers.has.is_there refl in
      let before_it = (memories_here u laws a).entries in
      omega (arith, sums, before_it)) where
        works : work (first u) one.world.memory enter_monitor (value ∷ [])
            ≡ gives (record one.world.memory {
              heap = with_object one.world.memory.heap target.reference (entered_times (target.object.monitor + 1));
              entries = one.world.memory.entries + 1;
            }) []
        works = ap (λ (v : Value). work (first u) one.world.memory enter_monitor (v ∷ [])) refers.is ∙ rw (there.there) refl

  -- ---- monitorexit

  not_left : a.settled.point.instr ≡ Of class Leave → (target.object.monitor == 0) ≡ false
  not_left is_leave = by (target.object.monitor == 0) refl where
    by : (zeroth : Bool) → (target.object.monitor == 0) ≡ zeroth → (target.object.monitor == 0) ≡ false
    by false told = told
    by true told =
        absurd (asks_none u laws a 0 (object_at_depth (operand a.settled.point.typed 0) 0) site
        (ap (λ (r : PlanRow). slice_get (positions r) 0) (row_is u laws a class Leave is_leave)) (
          virtual,
          ap (option_map (λ object. object.depth)) there.is_told ∙ ap Some (sym monitor_is ∙ eqb-true target.object.monitor 0 told),
        ))

  pub leave_on : instr ≡ Leave → KeepsTurn u measure one other
  leave_on is_leave =
      monitor_goes (target.object.monitor - 1) one.world.memory.entries
      (ap (written_at a class) is_leave ∙ ap nothing_of virtual)
      (ap (λ (i : Instr). (row_here u laws a class i).locals) is_leave)
      (ap (λ (i : Instr). (row_here u laws a class i).stack) is_leave)
      (ap (λ (i : Instr). changed (scope_in u a.in_planned.one) (state_written a.settled.route) (row_here u laws a class i).change) is_leave
      ∙ ap (λ (slot : Slot). at_depth (state_written a.settled.route) slot (λ depth. depth - 1)) virtual
      ∙ ap (λ (found : Option VObject). with_depth_of found (λ depth. depth - 1)) there.is_told
      ∙ ap (λ (n : ℕ). record there.told { depth = n - 1 } ∷ []) (sym monitor_is))
      (ap (λ (i : Instr). is_open (state_written a.settled.route) (row_here u laws a class i).next) is_leave)
      (ap falls_through is_leave)
      (rw (is, is_leave) refl)
      (ap (λ (i : Instr). op_step (first u) (counted one) a.f a.ones (op_here u laws a class i)) is_leave
      ∙ one_operand (first u) (counted one) a.f a.ones leave_monitor value below refl stack
      ∙ ap (perform (first u) (counted one) a.f (record a.f { stack = below }) a.ones) works)
      (let sums = entered_as target.reference (entered_times (target.object.monitor - 1)) a.t.along.virtuals refers.has.number target
      a.t.along.are_apart refers.has.is_there refl in
      let before_it = (memories_here u laws a).entries in
      omega (arith, sums, before_it)) where
        works : work (first u) one.world.memory leave_monitor (value ∷ [])
            ≡ gives (record one.world.memory {
              heap = with_object one.world.memory.heap target.reference (entered_times (target.object.monitor - 1));
            }) []
        works =
            ap (λ (v : Value). work (first u) one.world.memory leave_monitor (v ∷ [])) refers.is
            ∙ rw (there.there, not_left (is ∙ ap (Of class) is_leave)) refl

module _ (u : Setup) (laws : TemplateLaws u) {measure : ℕ} {one other : Run} (a : AtPlanned u measure one other) (class : ℕ) where
  pub enter_turns : a.settled.point.instr ≡ Of class Enter → (instrs : List WInstr) → written_at a class Enter ≡ Some instrs
      → KeepsTurn u measure one other
  enter_turns is instrs told = by (held (state_written a.settled.route) (operand a.settled.point.typed 0)) refl told where
    on : (site : ℕ) → held (state_written a.settled.route) (operand a.settled.point.typed 0) ≡ Virt site → (stack : List Value)
        → a.f.stack ≡ stack
        → KeepsTurn u measure one other
    on site virtual [] empty =
        absurd (here_not_stuck u laws a class Enter is (no_operands (first u) (counted one) a.f a.ones enter_monitor refl empty))
    on site virtual (value ∷ below) stack = enter_on u laws a class Enter is site virtual value below stack refl

    by : (slot : Slot)
        → held (state_written a.settled.route) (operand a.settled.point.typed 0) ≡ slot
        → nothing_of slot ≡ Some instrs
        → KeepsTurn u measure one other
    by Plain is_slot written = absurd (none-some instrs written)
    by Unusable is_slot written = absurd (none-some instrs written)
    by (Virt site) is_slot written = on site is_slot a.f.stack refl

  pub leave_turns : a.settled.point.instr ≡ Of class Leave → (instrs : List WInstr) → written_at a class Leave ≡ Some instrs
      → KeepsTurn u measure one other
  leave_turns is instrs told = by (held (state_written a.settled.route) (operand a.settled.point.typed 0)) refl told where
    on : (site : ℕ) → held (state_written a.settled.route) (operand a.settled.point.typed 0) ≡ Virt site → (stack : List Value)
        → a.f.stack ≡ stack
        → KeepsTurn u measure one other
    on site virtual [] empty =
        absurd (here_not_stuck u laws a class Leave is (no_operands (first u) (counted one) a.f a.ones leave_monitor refl empty))
    on site virtual (value ∷ below) stack = leave_on u laws a class Leave is site virtual value below stack refl

    by : (slot : Slot)
        → held (state_written a.settled.route) (operand a.settled.point.typed 0) ≡ slot
        → nothing_of slot ≡ Some instrs
        → KeepsTurn u measure one other
    by Plain is_slot written = absurd (none-some instrs written)
    by Unusable is_slot written = absurd (none-some instrs written)
    by (Virt site) is_slot written = on site is_slot a.f.stack refl
