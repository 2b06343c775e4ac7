-- A load of a local that has a virtual object: nothing is written.
use Rattle.std.proofs.Common.{◌≡◌, ℕ, zero, suc, List, [], ◌∷◌, length, slice_get, Some, None, Option, IsTrue, refl, sym, ap, subst, ◌∙◌}
use Rattle.std.proofs.lemmas.Option.{none-some, same_Some}
use Rattle.class_model.specs.declared.descriptor.Kind.{Kind}
use Rattle.class_model.specs.declared.frame.VType.{VType}
use Rattle.class_model.specs.declared.instr.Instr.TheVariants.{Load}
use Rattle.flow_code.specs.ReadTypes.{is_site_object}
use Rattle.flow_code.specs.declared.point.FlatInstr.TheVariants.{Of}
use Rattle.machine_values.specs.declared.value.Value.{Value}
use Rattle.machine_values.specs.declared.value.Value.TheVariants.{Ref}
use Rattle.making_code.specs.Items.{WInstr}
use Rattle.member_link.specs.Machine.Locals.{local_value}
use Rattle.member_link.specs.Machine.Runs.{Run}
use Rattle.member_link.specs.Machine.Stepping.{load_step}
use Rattle.plan_flow.specs.PlanRows.{Source, from_place, no_change}
use Rattle.plan_flow.specs.PlanSlots.{held, slots_from}
use Rattle.plan_flow.specs.ReadyForPlans.{KeepsType, place_types}
use Rattle.plan_flow.specs.Written.Blocks.{state_written}
use Rattle.plan_flow.specs.Written.Templates.{nothing_of}
use Rattle.same_runs.specs.Laws.BothBegin.{counted}
use Rattle.same_runs.specs.Laws.ShiftedUnits.{local_is}
use Rattle.same_runs.specs.Renamings.{no_values}
use Rattle.virtual_state.specs.declared.slot.Slot.{Slot}
use Rattle.virtual_state.specs.declared.slot.Slot.TheVariants.{Plain, Virt, Unusable}
use Rattle.written_runs.specs.Inner.PlannedFrames.{KeepStack, scope_in}
use Rattle.written_runs.specs.Inner.Setup.{Setup}
use Rattle.written_runs.specs.Laws.PlannedTurns.{AtPlanned, written_at}
use Rattle.written_runs.specs.Laws.Simulation.{KeepsTurn}
use Rattle.written_runs.specs.Laws.Templates.Known.{TemplateLaws, keeps_whole, unit_refers}
use Rattle.written_runs.specs.Laws.Templates.Still.{still_goes_next}
use Rattle.written_runs.specs.Laws.Templates.Instrs.{here_not_stuck}
use Rattle.written_runs.specs.VirtualObjects.{RefersTo}

module _ (u : Setup) (laws : TemplateLaws u) {measure : ℕ} {one other : Run} (a : AtPlanned u measure one other) (class : ℕ) (kind : Kind)
    (local : ℕ) (is : a.settled.point.instr ≡ Of class (Load kind local)) where
  module _ (site : ℕ) (virtual : held (state_written a.settled.route) local ≡ Virt site) where
    loaded : (value : Value) → local_value kind a.f.locals local ≡ Some value → KeepsTurn u measure one other
    loaded value found =
        still_goes_next u laws a class (Load kind local) (record {
          is = is;
          instrs = [];
          told = ap nothing_of virtual;
          own = tt;
          gives = from_place local ∷ [];
          row_locals = refl;
          takes = 0;
          row_stack = refl;
          row_change = refl;
          opens = refl;
          falls = refl;
          leaves = rw (is) refl;
          top = [];
          below = a.f.stack;
          is_stack = refl;
          many_top = refl;
          given = value ∷ [];
          many_given = refl;
          turned = ap (load_step (counted one) a.f a.ones) found;
          given_refers = refers;
          given_uninit = uninit;
          middle = a.g;
          straight = λ there. tt;
          moved = λ there. refl;
          units = refl;
          below_also = a.g.stack;
          given_also = [];
          then_also = refl;
          keep_below = keeps_whole u laws a;
          keep_given = subst (λ (slot : Slot). KeepStack a.t.along.names (slot ∷ []) (value ∷ []) []) (sym virtual) no_values;
        }) where
          here : slice_get a.f.locals local ≡ Some (Some value)
          here = (local_is kind local value a.f.locals found).0

          refers : (place other_site : ℕ) (now : Value)
              → slice_get (slots_from (scope_in u a.in_planned.one) (state_written a.settled.route) no_change (from_place local ∷ [])) place
              ≡ Some (Virt other_site)
              → slice_get (value ∷ []) place ≡ Some now
              → RefersTo a.t.along.virtuals (length a.ones) other_site now
          refers zero other_site now slot there =
              subst (RefersTo a.t.along.virtuals (length a.ones) other_site) (same_Some value now there)
              (unit_refers u laws a local other_site value
              (same_Some (held (state_written a.settled.route) local) (Virt other_site) slot) here)
          refers (suc place) other_site now slot there = absurd (none-some now there)

          uninit : (place : ℕ) (source : Source) (type : VType) (now : Value)
              → slice_get (from_place local ∷ []) place ≡ Some source
              → slice_get (value ∷ []) place ≡ Some now
              → KeepsType a.f.place (place_types a.settled.point.typed) type source
              → IsTrue (is_site_object a.in_planned.one.flat type)
              → (reference : ℕ) × (now ≡ Ref reference)
          uninit (suc place) source type now from there kept site_object = absurd (none-some now there)
          uninit zero source type now from there kept site_object =
              let refers_to = unit_refers u laws a local site value virtual here in
              (refers_to.virtual.reference, sym (same_Some value now there) ∙ refers_to.is)

    load_virtual : KeepsTurn u measure one other
    load_virtual = by (local_value kind a.f.locals local) refl where
      by : (found : Option Value) → local_value kind a.f.locals local ≡ found → KeepsTurn u measure one other
      by None none =
          absurd (here_not_stuck u laws a class (Load kind local) is
          (ap (λ (value : Option Value). (load_step (counted one) a.f a.ones value).halt) none))
      by (Some value) some = loaded value some

  pub load_turns : (instrs : List WInstr) → written_at a class (Load kind local) ≡ Some instrs → KeepsTurn u measure one other
  load_turns instrs told = by (held (state_written a.settled.route) local) refl told where
    by : (slot : Slot) → held (state_written a.settled.route) local ≡ slot → nothing_of slot ≡ Some instrs → KeepsTurn u measure one other
    by Plain is_slot written = absurd (none-some instrs written)
    by Unusable is_slot written = absurd (none-some instrs written)
    by (Virt site) is_slot written = load_virtual site is_slot
