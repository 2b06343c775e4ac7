-- Instructions beside which virtual objects stay as they are, and control goes on to the next point.
use Rattle.std.proofs.Common.{◌≡◌, ◌≤◌, ◌-◌, ◌++◌, ℕ, true, List, length, map, reverse, slice_get, take, Some, None, Option, IsTrue, refl, sym, ap, subst, ◌∙◌}
use Rattle.std.specs.List.{AllByRecursion}
use Rattle.class_model.specs.declared.instr.Instr.{Instr}
use Rattle.class_model.specs.declared.frame.VType.{VType}
use Rattle.flow_code.specs.ReadTypes.{is_site_object}
use Rattle.flow_code.specs.WrittenUnits.{written_units}
use Rattle.flow_code.specs.declared.point.FlatInstr.TheVariants.{Of}
use Rattle.machine_values.specs.Frames.{MethodState}
use Rattle.machine_values.specs.declared.value.Value.{Value}
use Rattle.machine_values.specs.declared.value.Value.TheVariants.{Ref}
use Rattle.making_code.specs.Items.{WInstr}
use Rattle.making_code.specs.Units.{field_unit, unit_number}
use Rattle.member_link.specs.Bodies.{falls_through}
use Rattle.member_link.specs.Machine.Runs.{Run}
use Rattle.member_link.specs.Machine.Stepping.{next_with, op_step, with_top}
use Rattle.plan_flow.specs.PlanRows.{Change, Source, no_change}
use Rattle.plan_flow.specs.PlanSlots.{changed, is_open, slots_from}
use Rattle.plan_flow.specs.PlanTable.{held_from, held_locals}
use Rattle.plan_flow.specs.ReadyForPlans.{KeepsType, place_types}
use Rattle.plan_flow.specs.Written.Blocks.{leaves_to, state_written}
use Rattle.same_runs.specs.Laws.BothBegin.{counted}
use Rattle.virtual_state.specs.States.{object_of}
use Rattle.virtual_state.specs.declared.slot.Slot.TheVariants.{Virt}
use Rattle.virtual_state.specs.declared.slot.VObject.{VObject}
use Rattle.written_runs.specs.Inner.PlannedFrames.{KeepStack, scope_in}
use Rattle.written_runs.specs.Inner.Setup.{Setup, first}
use Rattle.written_runs.specs.Laws.Carried.Standing.{AtOwn}
use Rattle.written_runs.specs.Laws.MadeItems.{AreOwn}
use Rattle.written_runs.specs.Laws.PlannedTurns.{AtPlanned, written_at}
use Rattle.written_runs.specs.Laws.Simulation.{KeepsTurn}
use Rattle.written_runs.specs.Laws.Templates.Instrs.{first_is, instr_goes_next, items_are, op_here, row_here}
use Rattle.written_runs.specs.Laws.Templates.Items.{IsStraight, all_moved, op_of}
use Rattle.written_runs.specs.Laws.Templates.Known.{TemplateLaws, entries, keeps, reached, tells}
use Rattle.written_runs.specs.Laws.Templates.Turns.{still_turn}
use Rattle.written_runs.specs.VirtualObjects.{RefersTo}

module _ (u : Setup) (laws : TemplateLaws u) {measure : ℕ} {one other : Run} (a : AtPlanned u measure one other) (class : ℕ) (instr : Instr) where
  -- An instruction that takes stack entries and gives others, in both.
  pub record StillNext : Type 0 where
    pub is : a.settled.point.instr ≡ Of class instr
    pub instrs : List WInstr
    pub told : written_at a class instr ≡ Some instrs
    pub own : AreOwn instrs
    -- its row
    pub gives : List Source
    pub row_locals : (row_here u laws a class instr).locals ≡ held_locals a.settled.point.typed
    pub takes : ℕ
    pub row_stack : (row_here u laws a class instr).stack
        ≡ held_from (length a.settled.point.typed.locals) (length a.settled.point.typed.stack - takes) ++ gives
    pub row_change : (row_here u laws a class instr).change ≡ no_change
    pub opens : is_open (state_written a.settled.route) (row_here u laws a class instr).next ≡ true
    pub falls : falls_through instr ≡ true
    pub leaves : leaves_to a.settled.point a.settled.route ≡ None
    -- the first
    pub top : List Value
    pub below : List Value
    pub is_stack : a.f.stack ≡ top ++ below
    pub many_top : length top ≡ takes
    pub given : List Value
    pub many_given : length given ≡ length gives
    pub turned : op_step (first u) (counted one) a.f a.ones (op_here u laws a class instr) ≡ with_top (counted one) a.ones (next_with a.f (reverse given ++ below))
    pub given_refers : (place site : ℕ) (value : Value)
        → slice_get (slots_from (scope_in u a.in_planned.one) (state_written a.settled.route) no_change gives) place ≡ Some (Virt site)
        → slice_get given place ≡ Some value
        → RefersTo a.t.along.virtuals (length a.ones) site value
    pub given_uninit : (place : ℕ) (source : Source) (type : VType) (value : Value)
        → slice_get gives place ≡ Some source
        → slice_get given place ≡ Some value
        → KeepsType a.f.place (place_types a.settled.point.typed) type source
        → IsTrue (is_site_object a.in_planned.one.flat type)
        → (reference : ℕ) × (value ≡ Ref reference)
    -- the second
    pub middle : MethodState
    pub straight : (there : AtOwn u a.in_planned.one a.f.place a.settled.point a.settled.route a.g)
        → AllByRecursion IsStraight (map (op_of there (reached u laws a) instrs (items_are u laws a class instr instrs is told) own) instrs)
    pub moved : (there : AtOwn u a.in_planned.one a.f.place a.settled.point a.settled.route a.g)
        → all_moved (map (op_of there (reached u laws a) instrs (items_are u laws a class instr instrs is told) own) instrs) a.g ≡ Some middle
    pub units : middle.locals ≡ a.g.locals
    pub below_also : List Value
    pub given_also : List Value
    pub then_also : middle.stack ≡ reverse given_also ++ below_also
    pub keep_below : KeepStack a.t.along.names (take (length below) (entries u laws a)) (reverse below) (reverse below_also)
    pub keep_given : KeepStack a.t.along.names
        (slots_from (scope_in u a.in_planned.one) (state_written a.settled.route) no_change gives) given given_also

  pub still_goes_next : StillNext → KeepsTurn u measure one other
  still_goes_next n =
      instr_goes_next u laws a class instr (record {
        is = n.is;
        instrs = n.instrs;
        told = n.told;
        own = n.own;
        gives = n.gives;
        row_locals = n.row_locals;
        takes = n.takes;
        row_stack = n.row_stack;
        opens = n.opens;
        falls = n.falls;
        leaves = n.leaves;
        t =
            still_turn u laws a (next_with a.f (reverse n.given ++ n.below))
            (ap (op_step (first u) (counted one) a.f a.ones) (first_is u laws a class instr n.is) ∙ n.turned) refl refl;
        top = n.top;
        below = n.below;
        is_stack = n.is_stack;
        many_top = n.many_top;
        given = n.given;
        many_given = n.many_given;
        later_is = refl;
        refers = λ site value refers. refers;
        given_refers = λ place site value is there.
            n.given_refers place site value
            (ap (λ (change : Change). slice_get (slots_from (scope_in u a.in_planned.one) (state_written a.settled.route) change n.gives) place)
            (sym n.row_change) ∙ is) there;
        given_uninit = n.given_uninit;
        objects = λ site told is.
            (tells u laws a).objects site told (ap (λ (objects : List VObject). object_of objects site) (sym objects_are) ∙ is);
        middle = n.middle;
        straight = n.straight;
        moved = n.moved;
        below_also = n.below_also;
        given_also = n.given_also;
        then_also = n.then_also;
        keep_below = n.keep_below;
        keep_given =
            subst (λ (change : Change). KeepStack a.t.along.names
            (slots_from (scope_in u a.in_planned.one) (state_written a.settled.route) change n.gives) n.given n.given_also) (sym n.row_change)
            n.keep_given;
        own_units = λ unit value plain is.
            let kept = (keeps u laws a).locals unit value plain is in
            record { also = kept.also; is = ap (λ (units : List (Option Value)). slice_get units unit) n.units ∙ kept.is; same = kept.same };
        fields = λ site number told virtual value is there plain here.
            let kept = (keeps u laws a).fields site number told virtual value
            (ap (λ (objects : List VObject). object_of objects site) (sym objects_are) ∙ is) there plain here in
            record {
              also = kept.also;
              is =
                  ap (λ (units : List (Option Value)). slice_get units (unit_number a.in_planned.one.flat (field_unit site number))) n.units
                  ∙ kept.is;
              same = kept.same;
            };
        room = subst (λ (units : List (Option Value)). written_units a.in_planned.one.flat ≤ length units) (sym n.units) (keeps u laws a).room;
      }) where
        objects_are : changed (scope_in u a.in_planned.one) (state_written a.settled.route) (row_here u laws a class instr).change
            ++ (state_written a.settled.route).objects
            ≡ (state_written a.settled.route).objects
        objects_are =
            ap (λ (change : Change). changed (scope_in u a.in_planned.one) (state_written a.settled.route) change
            ++ (state_written a.settled.route).objects) n.row_change
