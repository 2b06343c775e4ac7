-- What the two frames have behind an edge, by what the row of the instruction says of where each slot comes from.
use Rattle.std.proofs.Common.{◌≡◌, ◌≤◌, ℕ, false, List, [], length, reverse, slice_get, Some, IsTrue, sym, ap, subst, ◌∙◌}
use Rattle.std.proofs.lemmas.Bool.{false≢true}
use Rattle.class_model.specs.Frames.{is_top}
use Rattle.class_model.specs.declared.frame.VType.{VType}
use Rattle.flow_code.specs.FlatCode.{point_at}
use Rattle.flow_code.specs.ReadTypes.{is_site_object}
use Rattle.flow_code.specs.WrittenUnits.{written_units}
use Rattle.flow_code.specs.declared.point.Point.{Point}
use Rattle.machine_values.specs.Frames.{MethodState}
use Rattle.machine_values.specs.declared.value.Value.{Value}
use Rattle.machine_values.specs.declared.value.Value.TheVariants.{Ref}
use Rattle.making_code.specs.Units.{field_unit, unit_number}
use Rattle.member_link.specs.Machine.Programs.{Program}
use Rattle.plan_flow.specs.Effect.{IsStateBehind}
use Rattle.plan_flow.specs.Must.{row_of_point}
use Rattle.plan_flow.specs.PlanRows.{RowEdge}
use Rattle.plan_flow.specs.PlanScope.{PlanScope}
use Rattle.plan_flow.specs.PlanSlots.{edge_locals, edge_objects, edge_stack, slots_from}
use Rattle.same_runs.specs.Renamings.{Names}
use Rattle.virtual_state.specs.States.{State, object_of}
use Rattle.virtual_state.specs.declared.slot.Slot.{Slot}
use Rattle.virtual_state.specs.declared.slot.Slot.TheVariants.{Plain, Virt}
use Rattle.virtual_state.specs.declared.slot.VObject.{VObject}
use Rattle.written_runs.specs.Inner.PlannedFrames.{KeepStack, Keeps, KeptIn}
use Rattle.written_runs.specs.Laws.Templates.Slots.{fit_plain, fit_virtual, locals_behind, object_behind_edge, stack_behind}
use Rattle.written_runs.specs.VirtualObjects.{HasVirtual, RefersTo, Tells, TellsObject, Virtual, Virtuals, stack_slots}

-- what the slots of an edge come from, in the state before the instruction
abbrev pub locals_from : PlanScope → Point → ℕ → State → RowEdge → List Slot
locals_from s point at before edge =
    slots_from s before (row_of_point s at point).change (edge_locals (row_of_point s at point) (length point.typed.locals) edge.by)

abbrev pub stack_from : PlanScope → Point → ℕ → State → RowEdge → List Slot
stack_from s point at before edge =
    slots_from s before (row_of_point s at point).change (edge_stack (row_of_point s at point) edge.by)

-- What the frames have behind an edge, slot by slot: the first frame as it goes on, and the second one.
pub record GoesOver (P : Program) (s : PlanScope) (virtuals : Virtuals) (names : Names) (frame : ℕ) (point : Point) (at : ℕ) (before : State)
    (edge : RowEdge) (next : Point) (later after : MethodState)
    : Type 0 where
  pub many_locals : length (locals_from s point at before edge) ≡ length next.typed.locals
  pub locals_refer : (unit site : ℕ)
      → slice_get (locals_from s point at before edge) unit ≡ Some (Virt site)
      → (value : Value)
      × (slice_get later.locals unit ≡ Some (Some value))
      × RefersTo virtuals frame site value
  pub locals_keep : (unit : ℕ) (type : VType) (value : Value)
      → slice_get next.typed.locals unit ≡ Some type
      → is_top type ≡ false
      → slice_get (locals_from s point at before edge) unit ≡ Some Plain
      → slice_get later.locals unit ≡ Some (Some value)
      → KeptIn names after unit value
  pub locals_uninit : (unit : ℕ) (type : VType)
      → slice_get next.typed.locals unit ≡ Some type
      → IsTrue (is_site_object s.flat type)
      → (reference : ℕ) × (slice_get later.locals unit ≡ Some (Some (Ref reference)))
  pub many_stack : length (stack_from s point at before edge) ≡ length next.typed.stack
  pub stack_refer : (place site : ℕ) (value : Value)
      → slice_get (stack_from s point at before edge) place ≡ Some (Virt site)
      → slice_get (reverse later.stack) place ≡ Some value
      → RefersTo virtuals frame site value
  pub stack_keep : KeepStack names (stack_from s point at before edge) (reverse later.stack) (reverse after.stack)
  pub stack_uninit : (place : ℕ) (type : VType) (value : Value)
      → slice_get next.typed.stack place ≡ Some type
      → slice_get (reverse later.stack) place ≡ Some value
      → IsTrue (is_site_object s.flat type)
      → (reference : ℕ) × (value ≡ Ref reference)
  pub objects : (site : ℕ) (told : VObject)
      → object_of (edge_objects s before (row_of_point s at point) edge.by) site ≡ Some told
      → TellsObject P s virtuals frame told
  pub fields : (site number : ℕ) (told : VObject) (virtual : Virtual) (value : Value)
      → object_of (edge_objects s before (row_of_point s at point) edge.by) site ≡ Some told
      → HasVirtual virtuals frame site virtual
      → slice_get told.fields number ≡ Some Plain
      → slice_get virtual.object.values number ≡ Some value
      → KeptIn names after (unit_number s.flat (field_unit site number)) value
  pub room : written_units s.flat ≤ length after.locals

module _ {P : Program} {s : PlanScope} {virtuals : Virtuals} {names : Names} {frame : ℕ} {point : Point} {at : ℕ} {before : State} {edge : RowEdge}
    {next : Point} {later after : MethodState} {state : State} (b : IsStateBehind s point at before edge state)
    (is_next : point_at s.flat edge.to ≡ Some next) (goes : GoesOver P s virtuals names frame point at before edge next later after) where
  stack_are : stack_slots next state ≡ stack_from s point at before edge
  stack_are = stack_behind b next is_next goes.many_stack

  pub tells_over : Tells P s virtuals frame next state later
  tells_over = record {
    locals = λ unit site is.
        goes.locals_refer unit site
        (fit_virtual next.typed.locals (locals_from s point at before edge) unit site
        (sym (ap (λ (slots : List Slot). slice_get slots unit) (locals_behind b next is_next)) ∙ is));
    stack = λ place site value is here.
        goes.stack_refer place site value (sym (ap (λ (slots : List Slot). slice_get slots place) stack_are) ∙ is) here;
    uninit_locals = goes.locals_uninit;
    uninit_stack = goes.stack_uninit;
    objects = λ site told is. goes.objects site told (object_behind_edge b next is_next site told is);
  }

  pub keeps_over : Keeps s.flat names virtuals frame [] next state later after
  keeps_over = record {
    locals = λ unit value is here.
        let fits = fit_plain next.typed.locals (locals_from s point at before edge) unit goes.many_locals
        (sym (ap (λ (slots : List Slot). slice_get slots unit) (locals_behind b next is_next)) ∙ is) in
        goes.locals_keep unit fits.0 value fits.1 fits.2 fits.3 here;
    stack =
        subst (λ (slots : List Slot). KeepStack names slots (reverse later.stack) (reverse after.stack)) (sym stack_are) goes.stack_keep;
    fields = λ site number told virtual value is there plain here.
        goes.fields site number told virtual value (object_behind_edge b next is_next site told is) there plain here;
    made = λ site done. absurd (false≢true done);
    room = goes.room;
  }
