-- A getfield of a virtual object: its field's unit is loaded, or nothing is written where the field has a virtual object.
use Rattle.std.proofs.Common.{◌≡◌, ◌&&◌, ℕ, zero, suc, Bool, true, false, not, List, [], ◌∷◌, length, slice_get, Some, None, Option, option_and_then, option_map, IsTrue, refl, sym, ap, subst, ◌∙◌}
use Rattle.std.proofs.lemmas.Option.{none-some, same_Some}
use Rattle.class_model.specs.Descriptors.{kind_of}
use Rattle.class_model.specs.Members.{STATIC}
use Rattle.class_model.specs.Pool.{Constants, constant_at}
use Rattle.class_model.specs.declared.frame.VType.{VType}
use Rattle.class_model.specs.declared.instr.Instr.TheVariants.{GetField}
use Rattle.class_tree.specs.Headers.{Name}
use Rattle.flow_code.specs.declared.point.FlatInstr.TheVariants.{Of}
use Rattle.flow_code.specs.declared.point.Site.{Site}
use Rattle.machine_values.specs.Values.{has_kind}
use Rattle.machine_values.specs.declared.value.Value.{Value}
use Rattle.machine_values.specs.declared.value.Value.TheVariants.{Ref}
use Rattle.making_code.specs.Items.{WInstr, load}
use Rattle.making_code.specs.Units.{field_unit, unit_number}
use Rattle.member_link.specs.Machine.Codes.{or_meaningless}
use Rattle.member_link.specs.Machine.Completions.{Completion, ends, gives}
use Rattle.member_link.specs.Machine.FieldSteps.{get_field_work}
use Rattle.member_link.specs.Machine.Layouts.{slot_number}
use Rattle.member_link.specs.Machine.Locals.{local_value}
use Rattle.member_link.specs.Machine.Ops.{Op, get_field}
use Rattle.member_link.specs.Machine.Performing.{perform}
use Rattle.member_link.specs.Machine.Programs.{field_of, folder_number, has_flag, name_of_class}
use Rattle.member_link.specs.Machine.Runs.{Run}
use Rattle.member_link.specs.Machine.Shapes.{reference_conforms}
use Rattle.member_link.specs.Machine.Stepping.{next_with, op_step, with_top}
use Rattle.member_link.specs.Machine.Work.{work}
use Rattle.member_link.specs.Machine.Worlds.{World, stuck}
use Rattle.member_link.specs.References.{Reference}
use Rattle.member_link.specs.Signatures.{reference_of}
use Rattle.plan_flow.specs.PlanRows.{PlanRow, Source, any_object, from_field, no_change}
use Rattle.plan_flow.specs.PlanScope.{PlanScope, field_number, is_of_library, member_of}
use Rattle.plan_flow.specs.PlanScope as plan
use Rattle.plan_flow.specs.PlanSlots.{field_of_slot, held, readable, slots_from}
use Rattle.plan_flow.specs.PlanTable.{operand, positions}
use Rattle.plan_flow.specs.ReadyForPlans.{KeepsType, from_its_new, from_its_type, place_types}
use Rattle.plan_flow.specs.Written.Blocks.{state_written}
use Rattle.plan_flow.specs.Written.Templates.{get_template}
use Rattle.same_runs.specs.Flats.{pool_of}
use Rattle.same_runs.specs.Laws.BothBegin.{counted}
use Rattle.same_runs.specs.Laws.Moves.{same_kind}
use Rattle.same_runs.specs.Laws.ShiftedUnits.{local_has}
use Rattle.same_runs.specs.Renamings.{no_values}
use Rattle.virtual_state.specs.States.{State}
use Rattle.virtual_state.specs.declared.slot.Slot.{Slot}
use Rattle.virtual_state.specs.declared.slot.Slot.TheVariants.{Plain, Virt, Unusable}
use Rattle.written_runs.specs.Inner.PlannedFrames.{KeepStack, KeptIn, scope_in}
use Rattle.written_runs.specs.Inner.Setup.{Setup, first}
use Rattle.written_runs.specs.Laws.PlannedTurns.{AtPlanned, written_at}
use Rattle.written_runs.specs.Laws.Simulation.{KeepsTurn}
use Rattle.written_runs.specs.Laws.Templates.Fields.{FieldTold, field_told}
use Rattle.written_runs.specs.Laws.Templates.Instrs.{here_not_stuck, row_is}
use Rattle.written_runs.specs.Laws.Templates.Items.{load_is_straight}
use Rattle.written_runs.specs.Laws.Templates.Known.{TemplateLaws, keeps, operand_refers}
use Rattle.written_runs.specs.Laws.Templates.Operands.{IsObjectOf, asks_none, fields_of, object_is, pools_same, virtual_gone}
use Rattle.written_runs.specs.Laws.Templates.Still.{still_goes_next}
use Rattle.written_runs.specs.Laws.Templates.Working.{no_operands, one_operand}
use Rattle.written_runs.specs.VirtualObjects.{RefersTo, TellFields, TellsField, tells_plain, tells_virtual}

-- the member that a constant of a class refers to, as the machine and as the plan read it
abbrev pub named_in : Setup → ℕ → ℕ → Option Reference
named_in u class index = reference_of (pool_of u.classes class) (constant_at (pool_of u.classes class) index)

pub member_is : (s : PlanScope) (class index : ℕ)
    → member_of s class index ≡ reference_of (pool_of s.classes class) (constant_at (pool_of s.classes class) index)
member_is s class index = ap (λ (pool : Constants). reference_of pool (constant_at pool index)) (pools_same s class)

pub field_is : (s : PlanScope) (class index : ℕ)
    → plan.field_of s class index
    ≡ option_and_then s.links.field (reference_of (pool_of s.classes class) (constant_at (pool_of s.classes class) index))
field_is s class index = ap (option_and_then s.links.field) (member_is s class index)

module _ (u : Setup) (laws : TemplateLaws u) {measure : ℕ} {one other : Run} (a : AtPlanned u measure one other) (class index : ℕ)
    (is : a.settled.point.instr ≡ Of class (GetField index)) (site : ℕ)
    (virtual : held (state_written a.settled.route) (operand a.settled.point.typed 0) ≡ Virt site) where
  abbrev get_op : Option Reference → Op
  get_op found = or_meaningless (option_map get_field found)

  module _ (r field : Reference) (named : named_in u class index ≡ Some r) (links : u.links.field r ≡ Some field) (value : Value) (below : List Value)
      (stack : a.f.stack ≡ value ∷ below) where
    abbrev now : State
    now = state_written a.settled.route

    plan_field : plan.field_of (scope_in u a.in_planned.one) class index ≡ Some field
    plan_field = field_is (scope_in u a.in_planned.one) class index ∙ ap (option_and_then u.links.field) named ∙ links

    abbrev refers : RefersTo a.t.along.virtuals (length a.ones) site value
    refers = operand_refers u laws a [] below value site stack virtual

    abbrev there : IsObjectOf u (scope_in u a.in_planned.one) one.world.memory.heap (state_written a.settled.route) site value
        (operand_refers u laws a [] below value site stack virtual).virtual
    there = object_is u laws a (operand a.settled.point.typed 0) site value virtual (operand_refers u laws a [] below value site stack virtual)

    module _ (number : ℕ) (field_value : Value)
        (turned : work (first u) one.world.memory (get_field r) (value ∷ []) ≡ gives one.world.memory (field_value ∷ []))
        (plan_number : field_number (scope_in u a.in_planned.one) site field ≡ Some number)
        (is_value : slice_get refers.virtual.object.values number ≡ Some field_value) where
      told_fields : (one_site : Site)
          × (slice_get a.in_planned.one.flat.sites site ≡ Some one_site)
          × TellFields a.t.along.virtuals (length a.ones) one_site.fields refers.virtual.object.values there.told.fields
      told_fields = fields_of u laws a site there.told value there.is_told refers

      field_here : FieldTold a.t.along.virtuals (length a.ones) told_fields.0.fields there.told.fields number field_value
      field_here =
          field_told a.t.along.virtuals (length a.ones) told_fields.0.fields refers.virtual.object.values there.told.fields number field_value
          told_fields.2 is_value

      slot_now : (slot : Slot) → slice_get there.told.fields number ≡ Some slot
          → field_of_slot (scope_in u a.in_planned.one) now (held now (operand a.settled.point.typed 0)) field ≡ readable (Some slot)
      slot_now slot is_slot =
          ap (λ (found : Slot). field_of_slot (scope_in u a.in_planned.one) now found field) virtual
          ∙ rw (there.is_told, plan_number, is_slot) refl

      performed : op_step (first u) (counted one) a.f a.ones (get_op (named_in u class index))
          ≡ with_top (counted one) a.ones (next_with a.f (field_value ∷ below))
      performed =
          ap (λ (found : Option Reference). op_step (first u) (counted one) a.f a.ones (get_op found)) named
          ∙ one_operand (first u) (counted one) a.f a.ones (get_field r) value below refl stack
          ∙ ap (perform (first u) (counted one) a.f (record a.f { stack = below }) a.ones) turned

      from_no_place : (place : ℕ) (source : Source) (type : VType)
          → slice_get (from_field (operand a.settled.point.typed 0) field ∷ []) place ≡ Some source
          → KeepsType a.f.place (place_types a.settled.point.typed) type source
          → ⊥
      from_no_place (suc place) source type from kept = absurd (none-some source from)
      from_no_place zero source type from kept = by source (same_Some (from_field (operand a.settled.point.typed 0) field) source from) kept where
        by : (found : Source) → from_field (operand a.settled.point.typed 0) field ≡ found
            → KeepsType a.f.place (place_types a.settled.point.typed) type found
            → ⊥
        by found same (from_its_type place is_type) = absurd (cc same)
        by found same (from_its_new of_new) = absurd (cc same)

      got_virtual : (held_site : ℕ) → slice_get there.told.fields number ≡ Some (Virt held_site)
          → RefersTo a.t.along.virtuals (length a.ones) held_site field_value
          → KeepsTurn u measure one other
      got_virtual held_site is_slot refers_there =
          still_goes_next u laws a class (GetField index) (record {
            is = is;
            instrs = [];
            told = rw (virtual, plan_field, there.is_told, plan_number, is_slot) refl;
            own = tt;
            gives = from_field (operand a.settled.point.typed 0) field ∷ [];
            row_locals = rw (plan_field) refl;
            takes = 1;
            row_stack = rw (plan_field) refl;
            row_change = rw (plan_field) refl;
            opens = rw (plan_field) refl;
            falls = refl;
            leaves = rw (is) refl;
            top = value ∷ [];
            below = below;
            is_stack = stack;
            many_top = refl;
            given = field_value ∷ [];
            many_given = refl;
            turned = performed;
            given_refers = given_refers;
            given_uninit = λ place source type now_value from given kept site_object. absurd (from_no_place place source type from kept);
            middle = a.g;
            straight = λ at_own. tt;
            moved = λ at_own. refl;
            units = refl;
            below_also = a.g.stack;
            given_also = [];
            then_also = refl;
            keep_below = virtual_gone u laws a value below site stack virtual;
            keep_given =
                subst (λ (slot : Slot). KeepStack a.t.along.names (slot ∷ []) (field_value ∷ []) []) (sym (slot_now (Virt held_site) is_slot))
                no_values;
          }) where
            given_refers : (place other_site : ℕ) (now_value : Value)
                → slice_get (slots_from (scope_in u a.in_planned.one) now no_change (from_field (operand a.settled.point.typed 0) field ∷ [])) place
                ≡ Some (Virt other_site)
                → slice_get (field_value ∷ []) place ≡ Some now_value
                → RefersTo a.t.along.virtuals (length a.ones) other_site now_value
            given_refers (suc place) other_site now_value slot given = absurd (none-some now_value given)
            given_refers zero other_site now_value slot given =
                let both : Virt held_site ≡ Virt other_site =
                sym (slot_now (Virt held_site) is_slot) ∙ same_Some _ (Virt other_site) slot in
                let same : held_site ≡ other_site = cc both in
                subst (RefersTo a.t.along.virtuals (length a.ones) other_site) (same_Some field_value now_value given)
                (subst (λ (n : ℕ). RefersTo a.t.along.virtuals (length a.ones) n field_value) same refers_there)

      got_plain : slice_get there.told.fields number ≡ Some Plain
          → IsTrue (has_kind (kind_of field_here.type) field_value)
          → KeepsTurn u measure one other
      got_plain is_slot fits =
          still_goes_next u laws a class (GetField index) (record {
            is = is;
            instrs = load (kind_of field_here.type) (field_unit site number) ∷ [];
            told = rw (virtual, plan_field, there.is_told, plan_number, is_slot, told_fields.1, field_here.is_type) refl;
            own = (tt, tt);
            gives = from_field (operand a.settled.point.typed 0) field ∷ [];
            row_locals = rw (plan_field) refl;
            takes = 1;
            row_stack = rw (plan_field) refl;
            row_change = rw (plan_field) refl;
            opens = rw (plan_field) refl;
            falls = refl;
            leaves = rw (is) refl;
            top = value ∷ [];
            below = below;
            is_stack = stack;
            many_top = refl;
            given = field_value ∷ [];
            many_given = refl;
            turned = performed;
            given_refers = given_refers;
            given_uninit = λ place source type now_value from given kept_type site_object. absurd (from_no_place place source type from kept_type);
            middle = next_with a.g (kept.also ∷ a.g.stack);
            straight = λ at_own. (load_is_straight (kind_of field_here.type) (unit_number a.in_planned.one.flat (field_unit site number)), tt);
            moved = λ at_own. rw (loaded) refl;
            units = refl;
            below_also = a.g.stack;
            given_also = kept.also ∷ [];
            then_also = refl;
            keep_below = virtual_gone u laws a value below site stack virtual;
            keep_given =
                subst (λ (slot : Slot). KeepStack a.t.along.names (slot ∷ []) (field_value ∷ []) (kept.also ∷ [])) (sym (slot_now Plain is_slot))
                (kept.same, no_values);
          }) where
            kept : KeptIn a.t.along.names a.g (unit_number a.in_planned.one.flat (field_unit site number)) field_value
            kept = (keeps u laws a).fields site number there.told refers.virtual field_value there.is_told refers.has is_slot is_value

            loaded : local_value (kind_of field_here.type) a.g.locals (unit_number a.in_planned.one.flat (field_unit site number)) ≡ Some kept.also
            loaded =
                local_has (kind_of field_here.type) (unit_number a.in_planned.one.flat (field_unit site number)) kept.also a.g.locals kept.is
                (same_kind (kind_of field_here.type) kept.same ∙ fits)

            given_refers : (place other_site : ℕ) (now_value : Value)
                → slice_get (slots_from (scope_in u a.in_planned.one) now no_change (from_field (operand a.settled.point.typed 0) field ∷ [])) place
                ≡ Some (Virt other_site)
                → slice_get (field_value ∷ []) place ≡ Some now_value
                → RefersTo a.t.along.virtuals (length a.ones) other_site now_value
            given_refers (suc place) other_site now_value slot given = absurd (none-some now_value given)
            given_refers zero other_site now_value slot given =
                let both : Plain ≡ Virt other_site = sym (slot_now Plain is_slot) ∙ same_Some _ (Virt other_site) slot in absurd (cc both)

      got : KeepsTurn u measure one other
      got = by field_here.slot field_here.is_slot field_here.tells where
        by : (slot : Slot)
            → slice_get there.told.fields number ≡ Some slot
            → TellsField a.t.along.virtuals (length a.ones) field_here.type field_value slot
            → KeepsTurn u measure one other
        by (Virt held_site) is_slot (tells_virtual refers_there) = got_virtual held_site is_slot refers_there
        by Plain is_slot (tells_plain fits kept) = got_plain is_slot fits
        by Unusable is_slot tells_it = elim tells_it [ ]

    -- ---- what it comes to in the first run

    stops : work (first u) one.world.memory (get_field r) (value ∷ []) ≡ ends stuck → ⊥
    stops is_stuck =
        here_not_stuck u laws a class (GetField index) is
        (ap (λ (found : Option Reference). (op_step (first u) (counted one) a.f a.ones (get_op found)).halt) named
        ∙ ap (λ (world : World). world.halt) (one_operand (first u) (counted one) a.f a.ones (get_field r) value below refl stack)
        ∙ ap (λ (c : Completion). (perform (first u) (counted one) a.f (record a.f { stack = below }) a.ones c).halt) is_stuck)

    on_reference : work (first u) one.world.memory (get_field r) (value ∷ [])
        ≡ get_field_work (first u) one.world.memory r.class (u.links.field r) (Ref refers.virtual.reference ∷ [])
    on_reference = ap (λ (v : Value). work (first u) one.world.memory (get_field r) (v ∷ [])) refers.is

    get_on : KeepsTurn u measure one other
    get_on =
        by_test
        (not (has_flag (field_of (first u) field) STATIC)
        && reference_conforms (first u) one.world.memory.heap refers.virtual.reference r.class) refl where
          by_value : (class_number : ℕ)
              → (not (has_flag (field_of (first u) field) STATIC)
              && reference_conforms (first u) one.world.memory.heap refers.virtual.reference r.class) ≡ true
              → folder_number (first u) field.class ≡ Some class_number
              → (number : ℕ)
              → slot_number (first u) (name_of_class (first u) there.class) field ≡ Some number
              → (found : Option Value)
              → slice_get refers.virtual.object.values number ≡ found
              → KeepsTurn u measure one other
          by_value class_number told in_folder number is_number None none =
              absurd (stops (on_reference ∙ rw (links, told, in_folder, there.there, there.shape, is_number, none) refl))
          by_value class_number told in_folder number is_number (Some field_value) some =
              got number field_value
              (on_reference ∙ rw (links, told, in_folder, there.there, there.shape, is_number, some) refl)
              (rw (there.is_site) (sym (laws.slots there.one.class field)
              ∙ ap (λ (name : Name). slot_number (first u) name field) (sym there.name) ∙ is_number)) some

          by_number : (class_number : ℕ)
              → (not (has_flag (field_of (first u) field) STATIC)
              && reference_conforms (first u) one.world.memory.heap refers.virtual.reference r.class) ≡ true
              → folder_number (first u) field.class ≡ Some class_number
              → (number : Option ℕ)
              → slot_number (first u) (name_of_class (first u) there.class) field ≡ number
              → KeepsTurn u measure one other
          by_number class_number told in_folder None none =
              absurd (stops (on_reference ∙ rw (links, told, in_folder, there.there, there.shape, none) refl))
          by_number class_number told in_folder (Some number) some =
              by_value class_number told in_folder number some (slice_get refers.virtual.object.values number) refl

          by_folder : (not (has_flag (field_of (first u) field) STATIC)
              && reference_conforms (first u) one.world.memory.heap refers.virtual.reference r.class) ≡ true
              → (found : Option ℕ)
              → folder_number (first u) field.class ≡ found
              → KeepsTurn u measure one other
          by_folder told None none =
              absurd (asks_none u laws a 0 (any_object (operand a.settled.point.typed 0)) site
              (ap (λ (row : PlanRow). slice_get (positions row) 0) (row_is u laws a class (GetField index) is)
              ∙ rw (plan_field, laws.of_library a.in_planned.one field none) refl) virtual)
          by_folder told (Some class_number) some =
              by_number class_number told some (slot_number (first u) (name_of_class (first u) there.class) field) refl

          by_test : (test : Bool)
              → (not (has_flag (field_of (first u) field) STATIC)
              && reference_conforms (first u) one.world.memory.heap refers.virtual.reference r.class) ≡ test
              → KeepsTurn u measure one other
          by_test false told = absurd (stops (on_reference ∙ rw (links, told) refl))
          by_test true told = by_folder told (folder_number (first u) field.class) refl

  get_virtual : KeepsTurn u measure one other
  get_virtual = by (named_in u class index) refl where
    on_stack : (r field : Reference) → named_in u class index ≡ Some r → u.links.field r ≡ Some field → (stack : List Value) → a.f.stack ≡ stack
        → KeepsTurn u measure one other
    on_stack r field named links [] empty =
        absurd (here_not_stuck u laws a class (GetField index) is
        (ap (λ (found : Option Reference). (op_step (first u) (counted one) a.f a.ones (get_op found)).halt) named
        ∙ no_operands (first u) (counted one) a.f a.ones (get_field r) refl empty))
    on_stack r field named links (value ∷ below) stack = get_on r field named links value below stack

    on_field : (r : Reference) → named_in u class index ≡ Some r → (field : Option Reference) → u.links.field r ≡ field → (stack : List Value)
        → a.f.stack ≡ stack
        → KeepsTurn u measure one other
    on_field r named None none [] empty =
        absurd (here_not_stuck u laws a class (GetField index) is
        (ap (λ (found : Option Reference). (op_step (first u) (counted one) a.f a.ones (get_op found)).halt) named
        ∙ no_operands (first u) (counted one) a.f a.ones (get_field r) refl empty))
    on_field r named None none (value ∷ below) stack =
        absurd (here_not_stuck u laws a class (GetField index) is
        (ap (λ (found : Option Reference). (op_step (first u) (counted one) a.f a.ones (get_op found)).halt) named
        ∙ ap (λ (world : World). world.halt) (one_operand (first u) (counted one) a.f a.ones (get_field r) value below refl stack)
        ∙ ap (λ (found : Option Reference). (perform (first u) (counted one) a.f (record a.f { stack = below }) a.ones
        (get_field_work (first u) one.world.memory r.class found (value ∷ []))).halt) none))
    on_field r named (Some field) some stack is_stack = on_stack r field named some stack is_stack

    by : (found : Option Reference) → named_in u class index ≡ found → KeepsTurn u measure one other
    by None none =
        absurd (here_not_stuck u laws a class (GetField index) is
        (ap (λ (found : Option Reference). (op_step (first u) (counted one) a.f a.ones (get_op found)).halt) none))
    by (Some r) some = on_field r some (u.links.field r) refl a.f.stack refl

module _ (u : Setup) (laws : TemplateLaws u) {measure : ℕ} {one other : Run} (a : AtPlanned u measure one other) (class index : ℕ)
    (is : a.settled.point.instr ≡ Of class (GetField index)) where
  pub get_turns : (instrs : List WInstr) → written_at a class (GetField index) ≡ Some instrs → KeepsTurn u measure one other
  get_turns instrs told =
      by (held (state_written a.settled.route) (operand a.settled.point.typed 0)) refl
      (plan.field_of (scope_in u a.in_planned.one) class index) told where
        by : (slot : Slot)
            → held (state_written a.settled.route) (operand a.settled.point.typed 0) ≡ slot
            → (field : Option Reference)
            → get_template (scope_in u a.in_planned.one) (state_written a.settled.route) slot field ≡ Some instrs
            → KeepsTurn u measure one other
        by Plain is_slot field written = absurd (none-some instrs written)
        by Unusable is_slot field written = absurd (none-some instrs written)
        by (Virt site) is_slot None written = absurd (none-some instrs written)
        by (Virt site) is_slot (Some field) written = get_virtual u laws a class index is site is_slot
