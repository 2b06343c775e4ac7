-- A store into a field of a virtual object.
use Rattle.std.proofs.Common.{◌≡◌, ◌≢◌, ◌⊎◌, ◌≤◌, ◌+◌, ◌++◌, ℕ, zero, suc, Bool, true, false, List, [], ◌∷◌, drop, length, map, reverse, slice_get, slice_set, take, Some, None, Option, option_and_then, option_map, refl, sym, ap, subst, ◌∙◌, arith, inl, inr}
use Rattle.std.proofs.lemmas.List.{append-nil}
use Rattle.std.proofs.lemmas.Option.{none-some, same_Some}
use Rattle.class_model.specs.Descriptors.{kind_of, type_of}
use Rattle.class_model.specs.Laws.Lists.{at_index}
use Rattle.class_model.specs.Members.{FINAL, STATIC}
use Rattle.class_model.specs.declared.descriptor.FieldType.{FieldType}
use Rattle.class_model.specs.declared.descriptor.FieldType.TheVariants as types
use Rattle.class_model.specs.declared.descriptor.Kind.{Kind}
use Rattle.class_model.specs.declared.instr.Instr.TheVariants.{PutField}
use Rattle.class_tree.specs.Headers.{Name, headers_of}
use Rattle.expanded_code.specs.CandidateSites.{IsSite}
use Rattle.flow_code.specs.WrittenUnits.{written_units}
use Rattle.flow_code.specs.declared.point.FlatInstr.TheVariants.{Of}
use Rattle.flow_code.specs.declared.point.Site.{Site}
use Rattle.machine_values.specs.Frames.{MethodState}
use Rattle.machine_values.specs.Heaps.{Heap, object_at, with_object, with_value}
use Rattle.machine_values.specs.Values.{has_kind, narrowed}
use Rattle.machine_values.specs.declared.frame.RunFrame.TheVariants.{Method}
use Rattle.machine_values.specs.declared.object.Object.{Object}
use Rattle.machine_values.specs.declared.object.Shape.TheVariants.{Folder}
use Rattle.machine_values.specs.declared.value.Value.{Value}
use Rattle.machine_values.specs.declared.value.Value.TheVariants.{Ref}
use Rattle.making_code.specs.Items.{WInstr, store}
use Rattle.making_code.specs.Units.{WUnit, field_unit, unit_number}
use Rattle.member_link.specs.Machine.Codes.{initialises, or_meaningless}
use Rattle.member_link.specs.Machine.Completions.{Completion, ends, gives}
use Rattle.member_link.specs.Machine.FieldSteps.{put_field_value, put_field_work}
use Rattle.member_link.specs.Machine.Locals.{stored}
use Rattle.member_link.specs.Machine.Ops.{Op, put_field, store_local}
use Rattle.member_link.specs.Machine.Performing.{perform}
use Rattle.member_link.specs.Machine.Programs.{Program, field_of, folder_number, has_flag, name_of_class}
use Rattle.member_link.specs.Machine.Layouts.{slot_number, slot_number_in}
use Rattle.member_link.specs.Machine.Runs.{Run}
use Rattle.member_link.specs.Machine.Shapes.{reference_conforms}
use Rattle.member_link.specs.Machine.Stepping.{next_with, op_step}
use Rattle.member_link.specs.Machine.Work.{work}
use Rattle.member_link.specs.Machine.Worlds.{Memory, World, stuck, with_heap}
use Rattle.member_link.specs.References.{Reference}
use Rattle.plan_flow.specs.PlanRows.{PlanRow, any_object}
use Rattle.plan_flow.specs.PlanScope as plan
use Rattle.plan_flow.specs.PlanScope.{PlanScope, field_number}
use Rattle.plan_flow.specs.PlanSlots.{changed, held}
use Rattle.plan_flow.specs.PlanTable.{operand, positions}
use Rattle.plan_flow.specs.Written.Blocks.{state_written}
use Rattle.plan_flow.specs.Written.Templates.{narrowing, put_template}
use Rattle.same_runs.specs.Laws.BothBegin.{counted}
use Rattle.same_runs.specs.Laws.FieldWork.{narrowed_same}
use Rattle.same_runs.specs.Laws.Moves.{same_kind}
use Rattle.same_runs.specs.Laws.QuietBeginnings.{standing}
use Rattle.same_runs.specs.Simulations.{Quietly}
use Rattle.plan_flow.specs.Written.WrittenCode.{written_code, written_op}
use Rattle.member_link.specs.Scope.{Scope}
use Rattle.same_runs.specs.Laws.Objects.{set_other}
use Rattle.same_runs.specs.Laws.Stored.{Units}
use Rattle.same_runs.specs.Renamings.{no_values}
use Rattle.virtual_state.specs.Laws.Objects.{found_site, same_or_not}
use Rattle.virtual_state.specs.States.{State, object_of}
use Rattle.virtual_state.specs.declared.slot.Slot.{Slot}
use Rattle.virtual_state.specs.declared.slot.Slot.TheVariants.{Plain, Virt, Unusable}
use Rattle.virtual_state.specs.declared.slot.VObject.{VObject}
use Rattle.written_runs.specs.Inner.PlannedFrames.{KeepStack, KeptIn, blocks_in, scope_in}
use Rattle.written_runs.specs.Inner.Setup.{Setup, first, second}
use Rattle.written_runs.specs.Laws.Carried.Standing.{AtOwn}
use Rattle.written_runs.specs.Laws.LessVirtual.{one_owner}
use Rattle.written_runs.specs.Laws.MadeItems.{AreOwn}
use Rattle.written_runs.specs.Laws.Making.Held.{HeldIn, held_now, held_still}
use Rattle.written_runs.specs.Laws.PlannedTurns.{AtPlanned, written_at}
use Rattle.written_runs.specs.Laws.Simulation.{KeepsTurn}
use Rattle.written_runs.specs.Laws.Templates.Bits.{lowest_bit, narrowed_again}
use Rattle.written_runs.specs.Laws.Templates.Changed.{change_one, changed_here, entered_as, fields_changed, had, has_changed, one_reference, refers_changed, unchanged, with_changed}
use Rattle.written_runs.specs.Laws.Templates.ChangedTurns.{changed_turn}
use Rattle.written_runs.specs.Laws.Templates.Fields.{fields_set}
use Rattle.written_runs.specs.Laws.Templates.FieldTypes.{type_of_slot}
use Rattle.written_runs.specs.Laws.Templates.Gets.{field_is, named_in}
use Rattle.written_runs.specs.Laws.Templates.Holding.{StoredIn, field_held, field_stored, own_held}
use Rattle.written_runs.specs.Laws.Templates.Instrs.{InstrEdge, edge_goes_next, edge_goes_quietly, first_is, here_not_stuck, op_here, row_here, row_is, scope_here}
use Rattle.written_runs.specs.Laws.Templates.Items.{OpsThere, all_moved, store_is_straight}
use Rattle.written_runs.specs.Laws.Templates.Known.{TemplateLaws, entries, keeps, operand_refers, reached, ready, split_stack, stands, tells, two_slots, written}
use Rattle.written_runs.specs.Laws.Templates.Monitors.{found_now, objects_now}
use Rattle.written_runs.specs.Laws.Templates.Narrowings.{kind_narrowed, narrowing_ops, quiet_narrowing}
use Rattle.written_runs.specs.Laws.Templates.Operands.{IsObjectOf, asks_none, none_same, object_is}
use Rattle.written_runs.specs.Laws.Templates.Sames.{OnePlain, one_plain}
use Rattle.written_runs.specs.Laws.Templates.Stacks.{KeptParts, as_read, keep_read}
use Rattle.written_runs.specs.Laws.Templates.Turns.{memories_here}
use Rattle.written_runs.specs.Laws.Templates.Working.{no_two_operands, one_of_two, two_operands}
use Rattle.written_runs.specs.VirtualObjects.{HasVirtual, RefersTo, TellFields, TellsField, TellsObject, Virtual, local_slots, tells_plain, tells_virtual}

-- a reference is no narrower than it is
pub narrowed_reference : (type : FieldType) (reference : ℕ) → narrowed type (Ref reference) ≡ Ref reference
narrowed_reference types.Byte reference = refl
narrowed_reference types.Short reference = refl
narrowed_reference types.Char reference = refl
narrowed_reference types.Bool reference = refl
narrowed_reference type reference = refl

-- what narrows has no units
own_narrowing : (type : FieldType) (kind : Kind) (unit : WUnit) → AreOwn (narrowing type ++ store kind unit ∷ [])
own_narrowing types.Byte kind unit = (tt, (tt, tt))
own_narrowing types.Short kind unit = (tt, (tt, tt))
own_narrowing types.Char kind unit = (tt, (tt, tt))
own_narrowing types.Bool kind unit = (tt, (tt, (tt, tt)))
own_narrowing type kind unit = (tt, tt)

many_narrowing : (type : FieldType) → length (narrowing type) ≡ length (narrowing_ops type)
many_narrowing types.Byte = refl
many_narrowing types.Short = refl
many_narrowing types.Char = refl
many_narrowing types.Bool = refl
many_narrowing type = refl

narrowing_is : (s : PlanScope) (host : Scope) (constructor : Name → List ℕ) (type : FieldType)
    → map (written_op s host constructor []) (narrowing type) ≡ narrowing_ops type
narrowing_is s host constructor types.Byte = refl
narrowing_is s host constructor types.Short = refl
narrowing_is s host constructor types.Char = refl
narrowing_is s host constructor types.Bool = refl
narrowing_is s host constructor type = refl

-- a store into a local unit, as a move
store_moves : (g : MethodState) (kind : Kind) (unit : ℕ) (also : Value) (rest : List Value) (after : Units)
    → g.stack ≡ also ∷ rest
    → has_kind kind also ≡ true
    → stored unit also g.locals ≡ Some after
    → all_moved (store_local kind unit ∷ []) g ≡ Some (record (next_with g rest) { locals = after })
store_moves g kind unit also rest after is_stack fits is_stored = rw (is_stack, fits, is_stored) refl

-- a store into an object of the folder
put_value_is : (P : Program) (memory : Memory) (field : Reference) (reference : ℕ) (value : Value) (some : Object) (class number : ℕ)
    → some.shape ≡ Folder class
    → slot_number P (name_of_class P class) field ≡ Some number
    → put_field_value P memory field reference value (Some some)
    ≡ gives (with_heap memory (with_value memory.heap reference number value)) []
put_value_is P memory field reference value some class number shape is_number = rw (shape, is_number) refl

value_set : (heap : Heap) (reference : ℕ) (some : Object) (number : ℕ) (value : Value)
    → object_at heap reference ≡ Some some
    → with_value heap reference number value ≡ with_object heap reference (record some { values = slice_set some.values number value })
value_set heap reference some number value is_there = rw (is_there) refl

module _ (u : Setup) (laws : TemplateLaws u) {measure : ℕ} {one other : Run} (a : AtPlanned u measure one other) (class index : ℕ)
    (is : a.settled.point.instr ≡ Of class (PutField index)) (site : ℕ)
    (virtual : held (state_written a.settled.route) (operand a.settled.point.typed 1) ≡ Virt site) where
  abbrev stores_into : Option Name
  stores_into =
      initialises (scope_here u laws a class (PutField index)).is_init (scope_here u laws a class (PutField index)).own

  abbrev put_op : Option Reference → Op
  put_op found = or_meaningless (option_map (λ (r : Reference). put_field r stores_into) found)

  abbrev now : State
  now = state_written a.settled.route

  module _ (r field : Reference) (named : named_in u class index ≡ Some r) (links : u.links.field r ≡ Some field) (upper lower : Value)
      (below : List Value) (stack : a.f.stack ≡ upper ∷ lower ∷ below) where
    abbrev refers : RefersTo a.t.along.virtuals (length a.ones) site lower
    refers = operand_refers u laws a (upper ∷ []) below lower site stack virtual

    abbrev target : Virtual
    target = (operand_refers u laws a (upper ∷ []) below lower site stack virtual).virtual

    abbrev there : IsObjectOf u (scope_in u a.in_planned.one) one.world.memory.heap (state_written a.settled.route) site lower
        (operand_refers u laws a (upper ∷ []) below lower site stack virtual).virtual
    there =
        object_is u laws a (operand a.settled.point.typed 1) site lower virtual (operand_refers u laws a (upper ∷ []) below lower site stack virtual)

    plan_field : plan.field_of (scope_in u a.in_planned.one) class index ≡ Some field
    plan_field = field_is (scope_in u a.in_planned.one) class index ∙ ap (option_and_then u.links.field) named ∙ links

    abbrev put_value : Value
    put_value = narrowed (type_of field.desc) upper

    abbrev changed_to : ℕ → Object
    changed_to number = record target.object { values = slice_set target.object.values number put_value }

    module _ (number : ℕ) (is_number : slot_number (first u) (name_of_class (first u) there.class) field ≡ Some number)
        (works : work (first u) one.world.memory (put_field r stores_into) (lower ∷ upper ∷ [])
        ≡ gives (record one.world.memory { heap = with_object one.world.memory.heap target.reference (changed_to number) }) [])
        (class_number : ℕ) (in_folder : folder_number (first u) field.class ≡ Some class_number) where
      abbrev new : Object
      new = changed_to number

      abbrev told_to : Slot → VObject
      told_to slot = record there.told { fields = slice_set there.told.fields number slot }

      site_is : there.told.site ≡ site
      site_is = found_site (state_written a.settled.route).objects site there.told there.is_told

      abbrev tells_it : TellsObject (first u) (scope_in u a.in_planned.one) a.t.along.virtuals (length a.ones) there.told
      tells_it = (tells u laws a).objects site there.told there.is_told

      same_target : tells_it.virtual ≡ target
      same_target =
          one_owner a.t.along.virtuals (length a.ones) site tells_it.virtual target a.t.along.are_apart
          (subst (λ (n : ℕ). HasVirtual a.t.along.virtuals (length a.ones) n tells_it.virtual) site_is tells_it.has) refers.has

      number_of_plan : slot_number_in (headers_of u.classes) there.one.class field ≡ Some number
      number_of_plan =
          sym (laws.slots there.one.class field) ∙ ap (λ (name : Name). slot_number (first u) name field) (sym there.name) ∙ is_number

      plan_number : field_number (scope_in u a.in_planned.one) site field ≡ Some number
      plan_number = rw (there.is_site) number_of_plan

      type_here : slice_get there.one.fields number ≡ Some (type_of field.desc)
      type_here =
          ap (λ (types : List FieldType). slice_get types number) site_types.fields
          ∙ type_of_slot (headers_of u.classes) there.one.class field number number_of_plan where
            site_types : IsSite u.classes a.in_planned.one.flat there.one
            site_types =
                at_index (IsSite u.classes a.in_planned.one.flat) a.in_planned.one.flat.sites site there.one (ready u laws a).sites.sites there.is_site

      same_site : there.one ≡ tells_it.site
      same_site =
          same_Some there.one tells_it.site (sym there.is_site ∙ ap (slice_get a.in_planned.one.flat.sites) (sym site_is) ∙ tells_it.is_site)

      type_told : slice_get tells_it.site.fields number ≡ Some (type_of field.desc)
      type_told = ap (λ (s : Site). slice_get s.fields number) (sym same_site) ∙ type_here

      -- of the object its field is told anew
      tells_now : (slot : Slot)
          → TellsField a.t.along.virtuals (length a.ones) (type_of field.desc) put_value slot
          → TellsObject (first u) (scope_in u a.in_planned.one) (with_changed target.reference new a.t.along.virtuals) (length a.ones) (told_to slot)
      tells_now slot tells_value = record {
        site = tells_it.site;
        is_site = tells_it.is_site;
        virtual = record target { object = new };
        has =
            subst (HasVirtual (with_changed target.reference new a.t.along.virtuals) (length a.ones) there.told.site)
            (changed_here target.reference new target refl)
            (has_changed target.reference new
            (subst (λ (n : ℕ). HasVirtual a.t.along.virtuals (length a.ones) n target) (sym site_is) refers.has));
        class = tells_it.class;
        of_folder = tells_it.of_folder;
        shape = ap (λ (v : Virtual). v.object.shape) (sym same_target) ∙ tells_it.shape;
        monitor = ap (λ (v : Virtual). v.object.monitor) (sym same_target) ∙ tells_it.monitor;
        fields =
            fields_set (with_changed target.reference new a.t.along.virtuals) (length a.ones) tells_it.site.fields target.object.values
            there.told.fields number (type_of field.desc) put_value slot
            (fields_changed target.reference new a.t.along.virtuals (length a.ones) tells_it.site.fields target.object.values there.told.fields
            (subst (λ (v : Virtual). TellFields a.t.along.virtuals (length a.ones) tells_it.site.fields v.object.values there.told.fields)
            same_target tells_it.fields)) type_told (still slot tells_value);
      } where
        still : (some : Slot) → TellsField a.t.along.virtuals (length a.ones) (type_of field.desc) put_value some
            → TellsField (with_changed target.reference new a.t.along.virtuals) (length a.ones) (type_of field.desc) put_value some
        still (Virt some_site) (tells_virtual refers_to) = tells_virtual (refers_changed target.reference new some_site put_value refers_to)
        still Plain (tells_plain fits kept) = tells_plain fits kept
        still Unusable here = elim here [ ]

      turned : op_step (first u) (counted one) a.f a.ones (op_here u laws a class (PutField index))
          ≡ record (counted one) {
            memory = record one.world.memory {
              heap = with_object one.world.memory.heap target.reference new;
              entries = one.world.memory.entries;
            };
            frames = Method (next_with a.f below) ∷ a.ones;
          }
      turned =
          ap (λ (found : Option Reference). op_step (first u) (counted one) a.f a.ones (put_op found)) named
          ∙ two_operands (first u) (counted one) a.f a.ones (put_field r stores_into) upper lower below refl stack
          ∙ ap (perform (first u) (counted one) a.f (record a.f { stack = below }) a.ones) works

      row_changed : (slot : Slot) → held now (operand a.settled.point.typed 0) ≡ slot
          → changed (scope_in u a.in_planned.one) now (row_here u laws a class (PutField index)).change ≡ told_to slot ∷ []
      row_changed slot is_slot = rw (plan_field, virtual, is_slot, there.is_told, plan_number) refl

      -- What the second has behind it.
      record PutAlso (slot : Slot) : Type 0 where
        pub middle : MethodState
        pub keep_below : KeepStack a.t.along.names (take (length below) (entries u laws a)) (reverse below) (reverse middle.stack)
        pub own_units : (unit : ℕ) (value : Value)
            → slice_get (local_slots a.settled.point now) unit ≡ Some Plain
            → slice_get a.f.locals unit ≡ Some (Some value)
            → KeptIn a.t.along.names middle unit value
        pub other_fields : (other_site place : ℕ) (told : VObject) (found : Virtual) (value : Value)
            → object_of now.objects other_site ≡ Some told
            → HasVirtual a.t.along.virtuals (length a.ones) other_site found
            → slice_get told.fields place ≡ Some Plain
            → slice_get found.object.values place ≡ Some value
            → (other_site ≡ site → place ≡ number → ⊥)
            → KeptIn a.t.along.names middle (unit_number a.in_planned.one.flat (field_unit other_site place)) value
        pub this_field : slot ≡ Plain → KeptIn a.t.along.names middle (unit_number a.in_planned.one.flat (field_unit site number)) put_value
        pub room : written_units a.in_planned.one.flat ≤ length middle.locals

      abbrev put_edge : (slot : Slot)
          → held now (operand a.settled.point.typed 0) ≡ slot
          → TellsField a.t.along.virtuals (length a.ones) (type_of field.desc) put_value slot
          → PutAlso slot
          → InstrEdge u laws a class (PutField index)
      put_edge slot is_slot tells_value also =
          record {
            is = is;
            gives = [];
            row_locals = rw (plan_field) refl;
            takes = 2;
            row_stack = rw (plan_field) refl;
            opens = rw (plan_field) refl;
            falls = refl;
            leaves = rw (is) refl;
            t =
                changed_turn u laws a (next_with a.f below) new one.world.memory.entries refers.has.number target refers.has.is_there
                refers.has.of_frame refl
                (ap (op_step (first u) (counted one) a.f a.ones) (first_is u laws a class (PutField index) is) ∙ turned)
                (let sums = entered_as target.reference new a.t.along.virtuals refers.has.number target a.t.along.are_apart refers.has.is_there refl
                in let before_it = (memories_here u laws a).entries in omega (arith, sums, before_it)) refl refl;
            top = upper ∷ lower ∷ [];
            below = below;
            is_stack = stack;
            many_top = refl;
            given = [];
            many_given = refl;
            later_is = refl;
            refers = λ other_site value refers_to. refers_changed target.reference new other_site value refers_to;
            given_refers = λ place other_site value slot_there here. absurd (none-some value here);
            given_uninit = λ place source type value from here kept site_object. absurd (none-some value here);
            objects = λ other_site found found_is.
                objects_now u laws a site there.told there.is_told target refers.has new (told_to slot) refl (tells_now slot tells_value)
                other_site found
                (ap (λ (objects : List VObject). object_of (objects ++ (state_written a.settled.route).objects) other_site)
                (sym (row_changed slot is_slot)) ∙ found_is);
            middle = also.middle;
            below_also = also.middle.stack;
            given_also = [];
            then_also = refl;
            keep_below = also.keep_below;
            keep_given = no_values;
            own_units = also.own_units;
            fields = fields;
            room = also.room;
          } where
            fields : (other_site place : ℕ) (found : VObject) (now_virtual : Virtual) (value : Value)
                → object_of (changed (scope_in u a.in_planned.one) (state_written a.settled.route)
                (row_here u laws a class (PutField index)).change ++ (state_written a.settled.route).objects) other_site ≡ Some found
                → HasVirtual (with_changed target.reference new a.t.along.virtuals) (length a.ones) other_site now_virtual
                → slice_get found.fields place ≡ Some Plain
                → slice_get now_virtual.object.values place ≡ Some value
                → KeptIn a.t.along.names also.middle (unit_number a.in_planned.one.flat (field_unit other_site place)) value
            fields other_site place found now_virtual value found_is has_now plain here =
                by (found_now u laws a site there.told there.is_told target refers.has new (told_to slot) refl other_site found
                (ap (λ (objects : List VObject). object_of (objects ++ (state_written a.settled.route).objects) other_site)
                (sym (row_changed slot is_slot)) ∙ found_is)) where
                  was : (before_now : Virtual) × HasVirtual a.t.along.virtuals (length a.ones) other_site before_now
                      × (now_virtual ≡ change_one target.reference new before_now)
                  was = had target.reference new has_now

                  on_this : site ≡ other_site → told_to slot ≡ found → KeptIn a.t.along.names also.middle
                      (unit_number a.in_planned.one.flat (field_unit other_site place)) value
                  on_this same is_found = by_place (same_or_not place number) where
                    same_one : was.0 ≡ target
                    same_one =
                        one_owner a.t.along.virtuals (length a.ones) other_site was.0 target a.t.along.are_apart was.1
                        (subst (λ (n : ℕ). HasVirtual a.t.along.virtuals (length a.ones) n target) same refers.has)

                    is_new : now_virtual.object ≡ new
                    is_new =
                        ap (λ (v : Virtual). v.object) (was.2 ∙ ap (change_one target.reference new) same_one
                        ∙ changed_here target.reference new target refl)

                    new_value : slice_get (slice_set target.object.values number put_value) place ≡ Some value
                    new_value = ap (λ (o : Object). slice_get o.values place) (sym is_new) ∙ here

                    new_slot : slice_get (slice_set there.told.fields number slot) place ≡ Some Plain
                    new_slot = ap (λ (o : VObject). slice_get o.fields place) is_found ∙ plain

                    by_place : (place ≡ number) ⊎ (place ≢ number)
                        → KeptIn a.t.along.names also.middle (unit_number a.in_planned.one.flat (field_unit other_site place)) value
                    by_place (inr differ) =
                        also.other_fields other_site place there.told target value
                        (ap (object_of (state_written a.settled.route).objects) (sym same) ∙ there.is_told)
                        (subst (λ (n : ℕ). HasVirtual a.t.along.virtuals (length a.ones) n target) same refers.has)
                        (sym (set_other there.told.fields number place slot (λ same_place. differ (sym same_place))) ∙ new_slot)
                        (sym (set_other target.object.values number place put_value (λ same_place. differ (sym same_place))) ∙ new_value)
                        (λ same_again same_place. differ same_place)
                    by_place (inl same_place) =
                        subst (λ (n : ℕ). KeptIn a.t.along.names also.middle (unit_number a.in_planned.one.flat (field_unit n place)) value) same
                        (subst (λ (n : ℕ). KeptIn a.t.along.names also.middle (unit_number a.in_planned.one.flat (field_unit site n)) value)
                        (sym same_place)
                        (subst (KeptIn a.t.along.names also.middle (unit_number a.in_planned.one.flat (field_unit site number))) value_is
                        (also.this_field slot_is))) where
                          set_at : {A : Type 0} (items : List A) (n : ℕ) (item found_item : A) → slice_get (slice_set items n item) n ≡ Some found_item
                              → item ≡ found_item
                          set_at [] n item found_item got = absurd (none-some found_item got)
                          set_at (first_item ∷ items) zero item found_item got = same_Some item found_item got
                          set_at (first_item ∷ items) (suc n) item found_item got = set_at items n item found_item got

                          value_is : put_value ≡ value
                          value_is =
                              set_at target.object.values number put_value value
                              (ap (slice_get (slice_set target.object.values number put_value)) (sym same_place) ∙ new_value)

                          slot_is : slot ≡ Plain
                          slot_is =
                              set_at there.told.fields number slot Plain
                              (ap (slice_get (slice_set there.told.fields number slot)) (sym same_place) ∙ new_slot)

                  by : ((site ≡ other_site) × (told_to slot ≡ found))
                      ⊎ ((site ≢ other_site) × (object_of (state_written a.settled.route).objects other_site ≡ Some found))
                      → KeptIn a.t.along.names also.middle (unit_number a.in_planned.one.flat (field_unit other_site place)) value
                  by (inl (same, is_found)) = on_this same is_found
                  by (inr (differ, is_found)) =
                      also.other_fields other_site place found was.0 value is_found was.1 plain
                      (ap (λ (v : Virtual). slice_get v.object.values place) (sym (was.2 ∙ unchanged target.reference new was.0 apart_from)) ∙ here)
                      (λ same same_place. absurd (differ (sym same))) where
                        apart_from : was.0.reference ≢ target.reference
                        apart_from same =
                            absurd (differ (sym refers.has.of_site
                            ∙ ap (λ (v : Virtual). v.site) (sym (one_reference a.t.along.virtuals was.1.number refers.has.number was.0 target
                            a.t.along.are_apart was.1.is_there refers.has.is_there same)) ∙ was.1.of_site))

      -- ---- by what is stored

      parts : KeptParts a.t.along.names (take (length below) (entries u laws a)) (drop (length below) (entries u laws a)) (reverse below)
          (lower ∷ upper ∷ []) (reverse a.g.stack)
      parts = split_stack u laws a (upper ∷ lower ∷ []) below stack

      keep_both : (slot : Slot) → held now (operand a.settled.point.typed 0) ≡ slot
          → KeepStack a.t.along.names (Virt site ∷ slot ∷ []) (lower ∷ upper ∷ []) parts.second
      keep_both slot is_slot =
          subst (λ (some : Slot). KeepStack a.t.along.names (Virt site ∷ some ∷ []) (lower ∷ upper ∷ []) parts.second) (sym slots.3 ∙ is_slot)
          (subst (λ (some : Slot). KeepStack a.t.along.names (some ∷ as_read slots.0 ∷ []) (lower ∷ upper ∷ []) parts.second) (sym slots.4 ∙ virtual)
          (keep_read a.t.along.names (slots.1 ∷ slots.0 ∷ []) (lower ∷ upper ∷ []) parts.second
          (subst (λ (some_slots : List Slot). KeepStack a.t.along.names some_slots (lower ∷ upper ∷ []) parts.second) slots.2 parts.keep_more))) where
            slots : (slot next_slot : Slot)
                × (drop (length below) (entries u laws a) ≡ next_slot ∷ slot ∷ [])
                × (held now (operand a.settled.point.typed 0) ≡ as_read slot)
                × (held now (operand a.settled.point.typed 1) ≡ as_read next_slot)
            slots = two_slots u laws a upper lower below stack

      puts_virtual : (value_site : ℕ) → held now (operand a.settled.point.typed 0) ≡ Virt value_site → KeepsTurn u measure one other
      puts_virtual value_site is_slot =
          edge_goes_next u laws a class (PutField index) (put_edge (Virt value_site) is_slot tells_value (record {
            middle = a.g;
            keep_below =
                subst (KeepStack a.t.along.names (take (length below) (entries u laws a)) (reverse below))
                (sym (parts.are ∙ ap (λ (vs : List Value). parts.first ++ vs) (none_same (keep_both (Virt value_site) is_slot))
                ∙ append-nil parts.first)) parts.keep;
            own_units = (keeps u laws a).locals;
            other_fields = λ other_site place told found value is_told has_it plain here differ.
                (keeps u laws a).fields other_site place told found value is_told has_it plain here;
            this_field = λ plain. absurd (cc plain);
            room = (keeps u laws a).room;
          })) [] (rw (virtual, is_slot) refl) tt (λ at_own. tt) (λ at_own. refl) where
            refers_value : RefersTo a.t.along.virtuals (length a.ones) value_site upper
            refers_value = operand_refers u laws a [] (lower ∷ below) upper value_site stack is_slot

            tells_value : TellsField a.t.along.virtuals (length a.ones) (type_of field.desc) put_value (Virt value_site)
            tells_value = tells_virtual (record {
              virtual = refers_value.virtual;
              has = refers_value.has;
              is =
                  ap (narrowed (type_of field.desc)) refers_value.is
                  ∙ narrowed_reference (type_of field.desc) refers_value.virtual.reference;
            })

      puts_plain : held now (operand a.settled.point.typed 0) ≡ Plain
          → has_kind (kind_of (type_of field.desc)) upper ≡ true
          → KeepsTurn u measure one other
      puts_plain is_slot fits =
          edge_goes_quietly u laws a class (PutField index) (put_edge Plain is_slot tells_value (record {
            middle = middle;
            keep_below = plain_one.keep;
            own_units = λ unit value plain here.
                kept_of (held_still (own_held u laws a unit value plain here) put.1.is put.1.fits (λ also same. tt));
            other_fields = λ other_site place told found value is_told has_it plain here differ.
                kept_of (held_still (field_held u laws a other_site place told found value is_told has_it plain here) put.1.is put.1.fits
                (λ also same same_site same_place. differ same_site same_place));
            this_field = λ plain. kept_of (held_now put.1.is put.1.fits (narrowed_same (type_of field.desc) plain_one.same));
            room = let count = put.1.is.count in let before_it = (keeps u laws a).room in omega (arith, count, before_it);
          })) (narrowing (type_of field.desc)) (store (kind_of (type_of field.desc)) (field_unit site number) ∷ [])
          (rw (virtual, is_slot, plan_field, plan_number, there.is_site, type_here) refl)
          (own_narrowing (type_of field.desc) (kind_of (type_of field.desc)) (field_unit site number)) (record {
            begins = begins;
            place = refl;
            at = refl;
            held = refl;
            quietly = λ at_own ops_there.
                quiet_from at_own (quiet_narrowing other a.others other.world.memory a.t.along.goes_also
                (written_code (scope_in u a.in_planned.one) at_own.host u.constructor a.in_planned.one.form (blocks_in u a.in_planned.one)) a.g
                other.world.steps (type_of field.desc) plain_one.also plain_one.rest lowest_bit at_own.is_code
                (subst (OpsThere (written_code (scope_in u a.in_planned.one) at_own.host u.constructor a.in_planned.one.form
                (blocks_in u a.in_planned.one)) a.g.place) (narrowing_is (scope_in u a.in_planned.one) at_own.host u.constructor (type_of field.desc))
                ops_there) kind_also);
            straight = λ at_own.
                (store_is_straight (kind_of (type_of field.desc)) (unit_number a.in_planned.one.flat (field_unit site number)), tt);
            moved = λ at_own.
                store_moves begins (kind_of (type_of field.desc)) (unit_number a.in_planned.one.flat (field_unit site number))
                (narrowed (type_of field.desc) plain_one.also) plain_one.rest put.0 refl
                (kind_narrowed (type_of field.desc) plain_one.also kind_also) put.1.is_stored;
          }) where
            plain_one : OnePlain u laws a upper below
            plain_one = one_plain u laws a upper below parts.first parts.second parts.are parts.keep (keep_both Plain is_slot)

            kind_also : has_kind (kind_of (type_of field.desc)) plain_one.also ≡ true
            kind_also = same_kind (kind_of (type_of field.desc)) plain_one.same ∙ fits

            begins : MethodState
            begins = record a.g {
              place = a.g.place + length (narrowing (type_of field.desc));
              stack = narrowed (type_of field.desc) plain_one.also ∷ plain_one.rest;
            }

            quiet_from : (at_own : AtOwn u a.in_planned.one a.f.place a.settled.point a.settled.route a.g)
                → ((later : ℕ)
                × Quietly (second u)
                (standing other (Method (record a.g { stack = plain_one.also ∷ plain_one.rest }) ∷ a.others) other.world.memory other.world.steps)
                (standing other (Method (record a.g {
                  place = a.g.place + length (narrowing_ops (type_of field.desc));
                  stack = narrowed (type_of field.desc) plain_one.also ∷ plain_one.rest;
                }) ∷ a.others) other.world.memory later))
                → (later : ℕ)
                × Quietly (second u) (standing other (Method a.g ∷ a.others) other.world.memory other.world.steps)
                (standing other (Method begins ∷ a.others) other.world.memory later)
            quiet_from at_own quiet = (
              quiet.0,
              subst (λ (stack : List Value). Quietly (second u)
                  (standing other (Method (record a.g { stack = stack }) ∷ a.others) other.world.memory other.world.steps)
                  (standing other (Method begins ∷ a.others) other.world.memory quiet.0)) (sym plain_one.stack)
                  (subst (λ (n : ℕ). Quietly (second u)
                  (standing other (Method (record a.g { stack = plain_one.also ∷ plain_one.rest }) ∷ a.others) other.world.memory other.world.steps)
                  (standing other (Method (record a.g {
                    place = a.g.place + n;
                    stack = narrowed (type_of field.desc) plain_one.also ∷ plain_one.rest;
                  }) ∷ a.others) other.world.memory quiet.0)) (sym (many_narrowing (type_of field.desc))) quiet.1),
            )

            put : (after : Units)
                × StoredIn a.in_planned.one.flat site number (type_of field.desc) (narrowed (type_of field.desc) plain_one.also) a.g.locals after
            put =
                field_stored a.in_planned.one.flat site number (type_of field.desc) (narrowed (type_of field.desc) plain_one.also) a.g.locals
                (record { one = there.one; is_site = there.is_site; is_type = type_here })
                (kind_narrowed (type_of field.desc) plain_one.also kind_also) (keeps u laws a).room

            middle : MethodState
            middle = record (next_with begins plain_one.rest) { locals = put.0 }

            kept_of : {unit : WUnit} {value : Value} → HeldIn a.in_planned.one.flat a.t.along.names put.0 unit value
                → KeptIn a.t.along.names middle (unit_number a.in_planned.one.flat unit) value
            kept_of held_it = record { also = held_it.also; is = held_it.is; same = held_it.same }

            tells_value : TellsField a.t.along.virtuals (length a.ones) (type_of field.desc) put_value Plain
            tells_value = tells_plain (kind_narrowed (type_of field.desc) upper fits) (narrowed_again (type_of field.desc) upper)

      puts_by : has_kind (kind_of (type_of field.desc)) upper ≡ true
          → (slot : Slot)
          → held now (operand a.settled.point.typed 0) ≡ slot
          → (instrs : List WInstr)
          → put_template (scope_in u a.in_planned.one) (Virt site) slot (Some field) ≡ Some instrs
          → KeepsTurn u measure one other
      puts_by fits (Virt value_site) is_slot instrs written_it = puts_virtual value_site is_slot
      puts_by fits Plain is_slot instrs written_it = puts_plain is_slot fits
      puts_by fits Unusable is_slot instrs written_it = absurd (none-some instrs written_it)

    -- ---- what it comes to in the first run

    module _ (instrs : List WInstr)
        (told : put_template (scope_in u a.in_planned.one) (Virt site) (held now (operand a.settled.point.typed 0)) (Some field) ≡ Some instrs) where
      stops : work (first u) one.world.memory (put_field r stores_into) (lower ∷ upper ∷ []) ≡ ends stuck → ⊥
      stops is_stuck =
          here_not_stuck u laws a class (PutField index) is
          (ap (λ (found : Option Reference). (op_step (first u) (counted one) a.f a.ones (put_op found)).halt) named
          ∙ ap (λ (world : World). world.halt)
          (two_operands (first u) (counted one) a.f a.ones (put_field r stores_into) upper lower below refl stack)
          ∙ ap (λ (c : Completion). (perform (first u) (counted one) a.f (record a.f { stack = below }) a.ones c).halt) is_stuck)

      on_reference : work (first u) one.world.memory (put_field r stores_into) (lower ∷ upper ∷ [])
          ≡ put_field_work (first u) one.world.memory r.class (u.links.field r) stores_into (Ref refers.virtual.reference ∷ upper ∷ [])
      on_reference = ap (λ (v : Value). work (first u) one.world.memory (put_field r stores_into) (v ∷ upper ∷ [])) refers.is

      final_gone : (class_number : ℕ)
          → folder_number (first u) field.class ≡ Some class_number
          → has_flag (field_of (first u) field) STATIC ≡ false
          → has_flag (field_of (first u) field) FINAL ≡ false
      final_gone class_number in_folder no_static =
          laws.not_final one.world a.f a.ones a.in_planned.one a.settled.point class index r field class_number upper target.reference below
          target.object site there.class there.one a.t.along.typed (stands u laws a) (written u laws a) (reached u laws a).is_point is named links
          in_folder no_static (stack ∙ ap (λ (v : Value). upper ∷ v ∷ below) refers.is) there.there there.shape there.of_folder there.is_site

      put_on : KeepsTurn u measure one other
      put_on = by_static (has_flag (field_of (first u) field) STATIC) refl where
        by_number : has_flag (field_of (first u) field) STATIC ≡ false
            → has_kind (kind_of (type_of field.desc)) upper ≡ true
            → (class_number : ℕ)
            → folder_number (first u) field.class ≡ Some class_number
            → reference_conforms (first u) one.world.memory.heap refers.virtual.reference r.class ≡ true
            → (number : Option ℕ)
            → slot_number (first u) (name_of_class (first u) there.class) field ≡ number
            → KeepsTurn u measure one other
        by_number no_static fits class_number in_folder conforms number is_number = of_number number is_number where
          not_final : has_flag (field_of (first u) field) FINAL ≡ false
          not_final =
              final_gone class_number in_folder no_static

          of_number : (found : Option ℕ) → slot_number (first u) (name_of_class (first u) there.class) field ≡ found → KeepsTurn u measure one other
          of_number None no_number =
              absurd (stops (on_reference
              ∙ rw (links, no_static, fits, not_final, conforms, in_folder, there.there, there.shape, no_number) refl))
          of_number (Some place) some =
              puts_by place some
              (on_reference ∙ rw (links, no_static, fits, not_final, conforms, in_folder, there.there)
              (put_value_is (first u) one.world.memory field target.reference put_value target.object there.class place there.shape some
              ∙ ap (λ (heap : Heap). gives (record one.world.memory { heap = heap }) [])
              (value_set one.world.memory.heap target.reference target.object place put_value there.there)))
              class_number in_folder fits (held now (operand a.settled.point.typed 0)) refl instrs told

        by_conforms : has_flag (field_of (first u) field) STATIC ≡ false
            → has_kind (kind_of (type_of field.desc)) upper ≡ true
            → (class_number : ℕ)
            → folder_number (first u) field.class ≡ Some class_number
            → (conforms : Bool)
            → reference_conforms (first u) one.world.memory.heap refers.virtual.reference r.class ≡ conforms
            → KeepsTurn u measure one other
        by_conforms no_static fits class_number in_folder true conforms =
            by_number no_static fits class_number in_folder conforms (slot_number (first u) (name_of_class (first u) there.class) field) refl
        by_conforms no_static fits class_number in_folder false conforms =
            absurd (stops (on_reference ∙ rw (links, no_static, fits, not_final, conforms) refl)) where
              not_final : has_flag (field_of (first u) field) FINAL ≡ false
              not_final =
                  final_gone class_number in_folder no_static

        by_folder : has_flag (field_of (first u) field) STATIC ≡ false
            → has_kind (kind_of (type_of field.desc)) upper ≡ true
            → (found : Option ℕ)
            → folder_number (first u) field.class ≡ found
            → KeepsTurn u measure one other
        by_folder no_static fits None no_class =
            absurd (asks_none u laws a 0 (any_object (operand a.settled.point.typed 1)) site
            (ap (λ (row : PlanRow). slice_get (positions row) 0) (row_is u laws a class (PutField index) is)
            ∙ rw (plan_field, laws.of_library a.in_planned.one field no_class) refl) virtual)
        by_folder no_static fits (Some class_number) some =
            by_conforms no_static fits class_number some
            (reference_conforms (first u) one.world.memory.heap refers.virtual.reference r.class) refl

        by_fits : has_flag (field_of (first u) field) STATIC ≡ false
            → (fits : Bool)
            → has_kind (kind_of (type_of field.desc)) upper ≡ fits
            → KeepsTurn u measure one other
        by_fits no_static true fits = by_folder no_static fits (folder_number (first u) field.class) refl
        by_fits no_static false fits = absurd (stops (on_reference ∙ rw (links, no_static, fits) refl))

        by_static : (static : Bool) → has_flag (field_of (first u) field) STATIC ≡ static → KeepsTurn u measure one other
        by_static true static = absurd (stops (on_reference ∙ rw (links, static) refl))
        by_static false static = by_fits static (has_kind (kind_of (type_of field.desc)) upper) refl

  put_virtual : (r field : Reference)
      → named_in u class index ≡ Some r
      → u.links.field r ≡ Some field
      → (instrs : List WInstr)
      → put_template (scope_in u a.in_planned.one) (Virt site) (held (state_written a.settled.route) (operand a.settled.point.typed 0)) (Some field)
      ≡ Some instrs
      → (stack : List Value)
      → a.f.stack ≡ stack
      → KeepsTurn u measure one other
  put_virtual r field named links instrs told [] empty =
      absurd (here_not_stuck u laws a class (PutField index) is
      (ap (λ (found : Option Reference). (op_step (first u) (counted one) a.f a.ones (put_op found)).halt) named
      ∙ no_two_operands (first u) (counted one) a.f a.ones (put_field r stores_into) refl empty))
  put_virtual r field named links instrs told (upper ∷ []) one_value =
      absurd (here_not_stuck u laws a class (PutField index) is
      (ap (λ (found : Option Reference). (op_step (first u) (counted one) a.f a.ones (put_op found)).halt) named
      ∙ one_of_two (first u) (counted one) a.f a.ones (put_field r stores_into) upper refl one_value))
  put_virtual r field named links instrs told (upper ∷ lower ∷ below) stack =
      put_on r field named links upper lower below stack instrs told

module _ (u : Setup) (laws : TemplateLaws u) {measure : ℕ} {one other : Run} (a : AtPlanned u measure one other) (class index : ℕ)
    (is : a.settled.point.instr ≡ Of class (PutField index)) where
  pub put_turns : (instrs : List WInstr) → written_at a class (PutField index) ≡ Some instrs → KeepsTurn u measure one other
  put_turns instrs told = by_object (held (state_written a.settled.route) (operand a.settled.point.typed 1)) refl told where
    by_field : (site : ℕ)
        → held (state_written a.settled.route) (operand a.settled.point.typed 1) ≡ Virt site
        → (r : Option Reference)
        → named_in u class index ≡ r
        → (field : Option Reference)
        → option_and_then u.links.field r ≡ field
        → put_template (scope_in u a.in_planned.one) (Virt site) (held (state_written a.settled.route) (operand a.settled.point.typed 0)) field
        ≡ Some instrs
        → KeepsTurn u measure one other
    by_field site virtual None no_name field links written_it =
        absurd (here_not_stuck u laws a class (PutField index) is
        (ap (λ (found : Option Reference). (op_step (first u) (counted one) a.f a.ones
        (put_op u laws a class index is site virtual found)).halt) no_name))
    by_field site virtual (Some r) named None no_field written_it = absurd (no_links a.f.stack refl) where
      no_links : (stack : List Value) → a.f.stack ≡ stack → ⊥
      no_links [] empty =
          here_not_stuck u laws a class (PutField index) is
          (ap (λ (found : Option Reference). (op_step (first u) (counted one) a.f a.ones
          (put_op u laws a class index is site virtual found)).halt) named
          ∙ no_two_operands (first u) (counted one) a.f a.ones (put_field r (stores_into u laws a class index is site virtual)) refl empty)
      no_links (upper ∷ []) one_value =
          here_not_stuck u laws a class (PutField index) is
          (ap (λ (found : Option Reference). (op_step (first u) (counted one) a.f a.ones
          (put_op u laws a class index is site virtual found)).halt) named
          ∙ one_of_two (first u) (counted one) a.f a.ones (put_field r (stores_into u laws a class index is site virtual)) upper refl one_value)
      no_links (upper ∷ lower ∷ below) stack =
          here_not_stuck u laws a class (PutField index) is
          (ap (λ (found : Option Reference). (op_step (first u) (counted one) a.f a.ones
          (put_op u laws a class index is site virtual found)).halt) named
          ∙ ap (λ (world : World). world.halt)
          (two_operands (first u) (counted one) a.f a.ones (put_field r (stores_into u laws a class index is site virtual)) upper lower below refl
          stack)
          ∙ ap (λ (found : Option Reference). (perform (first u) (counted one) a.f (record a.f { stack = below }) a.ones
          (put_field_work (first u) one.world.memory r.class found (stores_into u laws a class index is site virtual) (lower ∷ upper ∷ []))).halt)
          no_field)
    by_field site virtual (Some r) named (Some field) links written_it =
        put_virtual u laws a class index is site virtual r field named links instrs written_it a.f.stack refl

    by_object : (slot : Slot)
        → held (state_written a.settled.route) (operand a.settled.point.typed 1) ≡ slot
        → put_template (scope_in u a.in_planned.one) slot (held (state_written a.settled.route) (operand a.settled.point.typed 0))
        (plan.field_of (scope_in u a.in_planned.one) class index) ≡ Some instrs
        → KeepsTurn u measure one other
    by_object Plain is_slot written_it = absurd (none-some instrs written_it)
    by_object Unusable is_slot written_it = absurd (none-some instrs written_it)
    by_object (Virt site) is_slot written_it =
        by_field site is_slot (named_in u class index) refl (option_and_then u.links.field (named_in u class index)) refl
        (ap (λ (field : Option Reference). put_template (scope_in u a.in_planned.one) (Virt site)
        (held (state_written a.settled.route) (operand a.settled.point.typed 0)) field)
        (sym (field_is (scope_in u a.in_planned.one) class index)) ∙ written_it)
