-- What the row of a call says where a planned frame waits for it: that it may throw, and what is behind its result.
use Rattle.std.proofs.Common.{◌≡◌, ◌≤◌, ◌+◌, ◌-◌, ℕ, true, false, List, length, map, slice_get, Option, Some, None, refl, ap, ◌∙◌}
use Rattle.std.proofs.lemmas.Option.{none-some}
use Rattle.class_model.specs.Descriptors.{parameters_of}
use Rattle.class_model.specs.Pool.{constant_at}
use Rattle.class_model.specs.PoolChecks.{descriptor_at}
use Rattle.class_model.specs.declared.descriptor.FieldType.{FieldType}
use Rattle.class_model.specs.declared.frame.VType.{VType}
use Rattle.class_model.specs.declared.instr.Instr.TheVariants.{Dynamic, Invoke}
use Rattle.class_model.specs.declared.pool.Const.TheVariants as consts
use Rattle.flow_code.specs.declared.point.FlatInstr.TheVariants.{Of}
use Rattle.flow_code.specs.declared.point.Point.{Point}
use Rattle.member_link.specs.Machine.CallSteps.{is_object_init}
use Rattle.member_link.specs.References.{Reference}
use Rattle.member_link.specs.Signatures.{result_of}
use Rattle.plan_flow.specs.Must.{row_of_point}
use Rattle.plan_flow.specs.PlanRows.{PlanRow, Source, in_each_state, no_change}
use Rattle.plan_flow.specs.PlanScope.{PlanScope, member_of, pool_of}
use Rattle.plan_flow.specs.PlanSlots.{is_open, slots_from}
use Rattle.plan_flow.specs.PlanTable.{call_row, calling, dynamic_row, falls_on, receivers, result_given, row_at}
use Rattle.plan_flow.specs.ReadyForPlans.{KeepsType, place_types}
use Rattle.plan_flow.specs.Written.Blocks.{state_written}
use Rattle.plan_flow.specs.Written.Routes.{Route}
use Rattle.virtual_state.specs.States.{State}
use Rattle.virtual_state.specs.declared.slot.Slot.TheVariants.{Plain}
use Rattle.written_runs.specs.Inner.Waiting.{ThrowsThere, WaitsThere}
use Rattle.written_runs.specs.Laws.Carried.Rows.{PlainRow, leaves_of, none_plain}

plain_result : (s : PlanScope) (before : State) (result : Option FieldType)
    → slots_from s before no_change (result_given result) ≡ map (λ source. Plain) (result_given result)
plain_result s before None = refl
plain_result s before (Some type) = refl

none_result : (at : ℕ) (point : Point) (result : Option FieldType) (number : ℕ) (type : VType) (source : Source)
    → slice_get (result_given result) number ≡ Some source
    → KeepsType at (place_types point.typed) type source
    → ⊥
none_result at point None number type source is kept = none-some source is
none_result at point (Some result) number type source is kept = none_plain at (place_types point.typed) number type source is kept

module _ (s : PlanScope) (at : ℕ) (point : Point) (route : Route) where
  abbrev before : State
  before = state_written route

  -- an instruction whose row is that of a call
  module _ (takes : ℕ) (desc : List ℕ) (is : row_of_point s at point ≡ calling point.typed takes desc) where
    pub call_throws : ThrowsThere s at point route
    call_throws = record { guard = in_each_state; throws = ap (λ (row : PlanRow). row.throws) is; opens = refl }

    pub call_waits : falls_on point.instr ≡ true
        → (count : ℕ)
        → takes ≤ length point.typed.stack
        → count ≡ length point.typed.stack - takes
        → WaitsThere s at point before count
    call_waits falls count enough many = record {
      falls = falls;
      opens = ap (λ (row : PlanRow). is_open before row.next) is;
      taken = takes;
      many = many;
      given = result_given (result_of desc);
      leaves = leaves_of row enough;
      none_given = none_result at point (result_of desc);
    } where
      row : PlainRow s at point before takes (result_given (result_of desc))
      row = record {
        row = calling point.typed takes desc;
        is_row = is;
        locals = refl;
        stack = refl;
        plain = plain_result s before (result_of desc);
        unchanged = refl;
        opens = refl;
        falls = falls;
      }

  -- a call of any method but java/lang/Object's constructor
  pub invoke_row : (class opcode index count : ℕ) (r : Reference)
      → point.instr ≡ Of class (Invoke opcode index count)
      → member_of s class index ≡ Some r
      → is_object_init r ≡ false
      → row_of_point s at point ≡ calling point.typed (length (parameters_of r.desc) + receivers opcode) r.desc
  invoke_row class opcode index count r is member plain =
      ap (row_at s at point.typed) is ∙ ap (call_row point.typed opcode) member ∙ rw (plain) refl

  pub dynamic_row_is : (class index bootstrap member : ℕ) (desc : List ℕ)
      → point.instr ≡ Of class (Dynamic index)
      → constant_at (pool_of s class) index ≡ Some (consts.InvokeDynamic bootstrap member)
      → descriptor_at (pool_of s class) member ≡ Some desc
      → row_of_point s at point ≡ calling point.typed (length (parameters_of desc)) desc
  dynamic_row_is class index bootstrap member desc is constant is_desc =
      ap (row_at s at point.typed) is ∙ ap (dynamic_row (pool_of s class) point.typed) constant ∙ rw (is_desc) refl
