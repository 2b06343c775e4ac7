-- A checkcast and an instanceof of a virtual object: of which class it is, is known.
use Rattle.std.proofs.Common.{◌≡◌, ℕ, zero, suc, pos, Bool, true, false, List, [], ◌∷◌, length, slice_get, Some, None, Option, if◌then◌else◌, IsTrue, refl, sym, ap, subst, ◌∙◌}
use Rattle.std.proofs.lemmas.Option.{none-some, same_Some}
use Rattle.class_model.specs.Pool.{Constants}
use Rattle.class_model.specs.PoolChecks.{class_at}
use Rattle.class_model.specs.declared.frame.VType.{VType}
use Rattle.class_model.specs.declared.instr.Imm.TheVariants as imms
use Rattle.class_model.specs.declared.instr.Instr.TheVariants.{Cast, Const, InstanceOf}
use Rattle.class_tree.specs.Headers.{Name}
use Rattle.flow_code.specs.ReadTypes.{is_site_object}
use Rattle.flow_code.specs.declared.point.FlatInstr.TheVariants.{Of}
use Rattle.machine_values.specs.declared.object.Shape.{Shape}
use Rattle.machine_values.specs.declared.value.Value.{Value}
use Rattle.machine_values.specs.declared.value.Value.TheVariants.{Int, Ref}
use Rattle.making_code.specs.Items.{WInstr, plain}
use Rattle.member_link.specs.Machine.Codes.{naming}
use Rattle.member_link.specs.Machine.Completions.{gives}
use Rattle.member_link.specs.Machine.Ops.{Op, check_cast, instance_of}
use Rattle.member_link.specs.Machine.Performing.{perform}
use Rattle.member_link.specs.Machine.Runs.{Run}
use Rattle.member_link.specs.Machine.Shapes.{is_instance}
use Rattle.member_link.specs.Machine.Stepping.{next_with, op_step}
use Rattle.member_link.specs.Machine.Work.{work}
use Rattle.plan_flow.specs.PlanRows.{Source, from_place, no_change, object_not_below, plain_value}
use Rattle.plan_flow.specs.PlanScope.{is_site_below}
use Rattle.plan_flow.specs.PlanScope as plan
use Rattle.plan_flow.specs.PlanSlots.{held, slots_from}
use Rattle.plan_flow.specs.PlanTable.{operand}
use Rattle.plan_flow.specs.ReadyForPlans.{KeepsType, from_its_new, from_its_type, place_types}
use Rattle.plan_flow.specs.Written.Blocks.{state_written}
use Rattle.plan_flow.specs.Written.Templates.{instance_template, nothing_of}
use Rattle.same_runs.specs.Flats.{pool_of}
use Rattle.same_runs.specs.Laws.BothBegin.{counted}
use Rattle.same_runs.specs.Renamings.{no_values, same_int}
use Rattle.virtual_state.specs.declared.slot.Slot.{Slot}
use Rattle.virtual_state.specs.declared.slot.Slot.TheVariants.{Plain, Virt, Unusable}
use Rattle.written_runs.specs.Inner.PlannedFrames.{KeepStack, scope_in}
use Rattle.written_runs.specs.Inner.Setup.{Setup, first}
use Rattle.written_runs.specs.Laws.PlannedTurns.{AtPlanned, written_at}
use Rattle.written_runs.specs.Laws.Simulation.{KeepsTurn}
use Rattle.written_runs.specs.Laws.Templates.Items.{push_is_straight}
use Rattle.written_runs.specs.Laws.Templates.Known.{TemplateLaws, operand_refers}
use Rattle.written_runs.specs.Laws.Templates.Operands.{IsObjectOf, asks_none, object_is, pools_same, virtual_gone}
use Rattle.written_runs.specs.Laws.Templates.Still.{still_goes_next}
use Rattle.written_runs.specs.Laws.Templates.Instrs.{here_not_stuck}
use Rattle.written_runs.specs.Laws.Templates.Working.{no_operands, one_operand}
use Rattle.written_runs.specs.VirtualObjects.{RefersTo, Virtual}

module _ (u : Setup) (laws : TemplateLaws u) {measure : ℕ} {one other : Run} (a : AtPlanned u measure one other) (class : ℕ) where
  -- an object of the site is an instance as the plan takes it
  instance_is : (site : ℕ) (value : Value) (name : Name) (virtual : Virtual)
      → IsObjectOf u (scope_in u a.in_planned.one) one.world.memory.heap (state_written a.settled.route) site value virtual
      → is_instance (first u) virtual.object.shape name ≡ is_site_below (scope_in u a.in_planned.one) site name
  instance_is site value name virtual there =
      ap (λ (shape : Shape). is_instance (first u) shape name) there.shape
      ∙ ap (λ (n : Name). u.links.below n name) there.name
      ∙ sym (rw (there.is_site) refl)

  -- ---- checkcast

  module _ (index : ℕ) (is : a.settled.point.instr ≡ Of class (Cast index)) (site : ℕ)
      (virtual : held (state_written a.settled.route) (operand a.settled.point.typed 0) ≡ Virt site) where
    abbrev cast_op : Option Name → Op
    cast_op name = naming name check_cast

    cast_on : (name : Name)
        → class_at (pool_of u.classes class) index ≡ Some name
        → (value : Value) (below : List Value)
        → a.f.stack ≡ value ∷ below
        → KeepsTurn u measure one other
    cast_on name named value below stack =
        still_goes_next u laws a class (Cast index) (record {
          is = is;
          instrs = [];
          told = ap nothing_of virtual;
          own = tt;
          gives = from_place (operand a.settled.point.typed 0) ∷ [];
          row_locals = rw (named_plan) refl;
          takes = 1;
          row_stack = rw (named_plan) refl;
          row_change = rw (named_plan) refl;
          opens = rw (named_plan) refl;
          falls = refl;
          leaves = rw (is) refl;
          top = value ∷ [];
          below = below;
          is_stack = stack;
          many_top = refl;
          given = value ∷ [];
          many_given = refl;
          turned =
              ap (λ (found : Option Name). op_step (first u) (counted one) a.f a.ones (cast_op found)) named
              ∙ one_operand (first u) (counted one) a.f a.ones (check_cast name) value below refl stack
              ∙ ap (perform (first u) (counted one) a.f (record a.f { stack = below }) a.ones) passes;
          given_refers = given_refers;
          given_uninit = given_uninit;
          middle = a.g;
          straight = λ there. tt;
          moved = λ there. refl;
          units = refl;
          below_also = a.g.stack;
          given_also = [];
          then_also = refl;
          keep_below = virtual_gone u laws a value below site stack virtual;
          keep_given = subst (λ (slot : Slot). KeepStack a.t.along.names (slot ∷ []) (value ∷ []) []) (sym virtual) no_values;
        }) where
          named_plan : class_at (plan.pool_of (scope_in u a.in_planned.one) class) index ≡ Some name
          named_plan = ap (λ (pool : Constants). class_at pool index) (pools_same (scope_in u a.in_planned.one) class) ∙ named

          refers : RefersTo a.t.along.virtuals (length a.ones) site value
          refers = operand_refers u laws a [] below value site stack virtual

          there : IsObjectOf u (scope_in u a.in_planned.one) one.world.memory.heap (state_written a.settled.route) site value refers.virtual
          there = object_is u laws a (operand a.settled.point.typed 0) site value virtual refers

          below_it : is_site_below (scope_in u a.in_planned.one) site name ≡ true
          below_it = by (is_site_below (scope_in u a.in_planned.one) site name) refl where
            by : (is_below : Bool)
                → is_site_below (scope_in u a.in_planned.one) site name ≡ is_below
                → is_site_below (scope_in u a.in_planned.one) site name ≡ true
            by true told = told
            by false told =
                absurd (asks_none u laws a 0 (object_not_below (operand a.settled.point.typed 0) name) site (rw (is, named_plan) refl)
                (virtual, told))

          passes : work (first u) one.world.memory (check_cast name) (value ∷ []) ≡ gives one.world.memory (value ∷ [])
          passes =
              ap (λ (v : Value). work (first u) one.world.memory (check_cast name) (v ∷ [])) refers.is
              ∙ rw (there.there, instance_is site value name refers.virtual there ∙ below_it) refl
              ∙ ap (λ (v : Value). gives one.world.memory (v ∷ [])) (sym refers.is)

          given_refers : (place other_site : ℕ) (now : Value)
              → slice_get (slots_from (scope_in u a.in_planned.one) (state_written a.settled.route) no_change
              (from_place (operand a.settled.point.typed 0) ∷ [])) place ≡ Some (Virt other_site)
              → slice_get (value ∷ []) place ≡ Some now
              → RefersTo a.t.along.virtuals (length a.ones) other_site now
          given_refers zero other_site now slot here =
              subst (RefersTo a.t.along.virtuals (length a.ones) other_site) (same_Some value now here)
              (operand_refers u laws a [] below value other_site stack
              (same_Some (held (state_written a.settled.route) (operand a.settled.point.typed 0)) (Virt other_site) slot))
          given_refers (suc place) other_site now slot here = absurd (none-some now here)

          given_uninit : (place : ℕ) (source : Source) (type : VType) (now : Value)
              → slice_get (from_place (operand a.settled.point.typed 0) ∷ []) place ≡ Some source
              → slice_get (value ∷ []) place ≡ Some now
              → KeepsType a.f.place (place_types a.settled.point.typed) type source
              → IsTrue (is_site_object a.in_planned.one.flat type)
              → (reference : ℕ) × (now ≡ Ref reference)
          given_uninit zero source type now from here kept site_object = (refers.virtual.reference, sym (same_Some value now here) ∙ refers.is)
          given_uninit (suc place) source type now from here kept site_object = absurd (none-some now here)

    cast_virtual : KeepsTurn u measure one other
    cast_virtual = by (class_at (pool_of u.classes class) index) refl where
      on_stack : (name : Name) → class_at (pool_of u.classes class) index ≡ Some name → (stack : List Value) → a.f.stack ≡ stack
          → KeepsTurn u measure one other
      on_stack name named [] empty =
          absurd (here_not_stuck u laws a class (Cast index) is
          (ap (λ (found : Option Name). (op_step (first u) (counted one) a.f a.ones (cast_op found)).halt) named
          ∙ no_operands (first u) (counted one) a.f a.ones (check_cast name) refl empty))
      on_stack name named (value ∷ below) stack = cast_on name named value below stack

      by : (found : Option Name) → class_at (pool_of u.classes class) index ≡ found → KeepsTurn u measure one other
      by None none =
          absurd (here_not_stuck u laws a class (Cast index) is
          (ap (λ (found : Option Name). (op_step (first u) (counted one) a.f a.ones (cast_op found)).halt) none))
      by (Some name) some = on_stack name some a.f.stack refl

  pub cast_turns : (index : ℕ) → a.settled.point.instr ≡ Of class (Cast index) → (instrs : List WInstr)
      → written_at a class (Cast index) ≡ Some instrs
      → KeepsTurn u measure one other
  cast_turns index is instrs told = by (held (state_written a.settled.route) (operand a.settled.point.typed 0)) refl told where
    by : (slot : Slot)
        → held (state_written a.settled.route) (operand a.settled.point.typed 0) ≡ slot
        → nothing_of slot ≡ Some instrs
        → KeepsTurn u measure one other
    by Plain is_slot written = absurd (none-some instrs written)
    by Unusable is_slot written = absurd (none-some instrs written)
    by (Virt site) is_slot written = cast_virtual index is site is_slot

  -- ---- instanceof

  module _ (index : ℕ) (is : a.settled.point.instr ≡ Of class (InstanceOf index)) (site : ℕ)
      (virtual : held (state_written a.settled.route) (operand a.settled.point.typed 0) ≡ Virt site) (name : Name)
      (named : class_at (pool_of u.classes class) index ≡ Some name) where
    abbrev instance_op : Option Name → Op
    instance_op found = naming found instance_of

    instance_on : (value : Value) (below : List Value) → a.f.stack ≡ value ∷ below → KeepsTurn u measure one other
    instance_on value below stack =
        still_goes_next u laws a class (InstanceOf index) (record {
          is = is;
          instrs = plain (Const (imms.Int (pos (if is_site_below (scope_in u a.in_planned.one) site name then 1 else 0)))) ∷ [];
          told = rw (virtual, named_plan) refl;
          own = (tt, tt);
          gives = plain_value ∷ [];
          row_locals = refl;
          takes = 1;
          row_stack = refl;
          row_change = refl;
          opens = refl;
          falls = refl;
          leaves = rw (is) refl;
          top = value ∷ [];
          below = below;
          is_stack = stack;
          many_top = refl;
          given = Int (pos (if is_site_below (scope_in u a.in_planned.one) site name then 1 else 0)) ∷ [];
          many_given = refl;
          turned =
              ap (λ (found : Option Name). op_step (first u) (counted one) a.f a.ones (instance_op found)) named
              ∙ one_operand (first u) (counted one) a.f a.ones (instance_of name) value below refl stack
              ∙ ap (perform (first u) (counted one) a.f (record a.f { stack = below }) a.ones) answers;
          given_refers = given_refers;
          given_uninit = λ place source type now from here kept site_object. absurd (plain_kept place source type from kept);
          middle = next_with a.g (Int (pos (if is_site_below (scope_in u a.in_planned.one) site name then 1 else 0)) ∷ a.g.stack);
          straight = λ there. (push_is_straight _, tt);
          moved = λ there. refl;
          units = refl;
          below_also = a.g.stack;
          given_also = Int (pos (if is_site_below (scope_in u a.in_planned.one) site name then 1 else 0)) ∷ [];
          then_also = refl;
          keep_below = virtual_gone u laws a value below site stack virtual;
          keep_given = (same_int, no_values);
        }) where
          named_plan : class_at (plan.pool_of (scope_in u a.in_planned.one) class) index ≡ Some name
          named_plan = ap (λ (pool : Constants). class_at pool index) (pools_same (scope_in u a.in_planned.one) class) ∙ named

          refers : RefersTo a.t.along.virtuals (length a.ones) site value
          refers = operand_refers u laws a [] below value site stack virtual

          there : IsObjectOf u (scope_in u a.in_planned.one) one.world.memory.heap (state_written a.settled.route) site value refers.virtual
          there = object_is u laws a (operand a.settled.point.typed 0) site value virtual refers

          as_number : (is_below : Bool) → Int (if is_below then pos 1 else pos 0) ≡ Int (pos (if is_below then 1 else 0))
          as_number true = refl
          as_number false = refl

          answers : work (first u) one.world.memory (instance_of name) (value ∷ [])
              ≡ gives one.world.memory (Int (pos (if is_site_below (scope_in u a.in_planned.one) site name then 1 else 0)) ∷ [])
          answers =
              ap (λ (v : Value). work (first u) one.world.memory (instance_of name) (v ∷ [])) refers.is
              ∙ rw (there.there) refl
              ∙ ap (λ (b : Bool). gives one.world.memory (Int (if b then pos 1 else pos 0) ∷ []))
              (instance_is site value name refers.virtual there)
              ∙ ap (λ (v : Value). gives one.world.memory (v ∷ [])) (as_number (is_site_below (scope_in u a.in_planned.one) site name))

          given_refers : (place other_site : ℕ) (now : Value)
              → slice_get (Plain ∷ []) place ≡ Some (Virt other_site)
              → slice_get (Int (pos (if is_site_below (scope_in u a.in_planned.one) site name then 1 else 0)) ∷ []) place ≡ Some now
              → RefersTo a.t.along.virtuals (length a.ones) other_site now
          given_refers zero other_site now slot here = absurd (cc (same_Some Plain (Virt other_site) slot))
          given_refers (suc place) other_site now slot here = absurd (none-some now here)

          plain_kept : (place : ℕ) (source : Source) (type : VType)
              → slice_get (plain_value ∷ []) place ≡ Some source
              → KeepsType a.f.place (place_types a.settled.point.typed) type source
              → ⊥
          plain_kept (suc place) source type from kept = absurd (none-some source from)
          plain_kept zero source type from kept = by source (same_Some plain_value source from) kept where
            by : (found : Source) → plain_value ≡ found → KeepsType a.f.place (place_types a.settled.point.typed) type found → ⊥
            by found same (from_its_type place is_type) = absurd (cc same)
            by found same (from_its_new of_new) = absurd (cc same)

    instance_virtual : KeepsTurn u measure one other
    instance_virtual = by a.f.stack refl where
      by : (stack : List Value) → a.f.stack ≡ stack → KeepsTurn u measure one other
      by [] empty =
          absurd (here_not_stuck u laws a class (InstanceOf index) is
          (ap (λ (found : Option Name). (op_step (first u) (counted one) a.f a.ones (instance_op found)).halt) named
          ∙ no_operands (first u) (counted one) a.f a.ones (instance_of name) refl empty))
      by (value ∷ below) stack = instance_on value below stack

  pub instance_turns : (index : ℕ) → a.settled.point.instr ≡ Of class (InstanceOf index) → (instrs : List WInstr)
      → written_at a class (InstanceOf index) ≡ Some instrs
      → KeepsTurn u measure one other
  instance_turns index is instrs told =
      by (held (state_written a.settled.route) (operand a.settled.point.typed 0)) refl
      (class_at (pool_of u.classes class) index) refl
      (sym (ap (λ (pool : Constants). instance_template (scope_in u a.in_planned.one)
      (held (state_written a.settled.route) (operand a.settled.point.typed 0)) (class_at pool index))
      (pools_same (scope_in u a.in_planned.one) class)) ∙ told) where
        by : (slot : Slot)
            → held (state_written a.settled.route) (operand a.settled.point.typed 0) ≡ slot
            → (found : Option Name)
            → class_at (pool_of u.classes class) index ≡ found
            → instance_template (scope_in u a.in_planned.one) slot found ≡ Some instrs
            → KeepsTurn u measure one other
        by Plain is_slot found is_found written = absurd (none-some instrs written)
        by Unusable is_slot found is_found written = absurd (none-some instrs written)
        by (Virt site) is_slot None is_found written = absurd (none-some instrs written)
        by (Virt site) is_slot (Some name) is_found written = instance_virtual index is site is_slot name is_found
