-- Turns of a run by what stands on top of it, and operations by what their steps work on.
use Rattle.std.proofs.Common.{◌≡◌, ◌≢◌, nat_le, ℕ, Bool, true, false, List, ◌∷◌, length, Option, Some, refl, sym, ap, subst, ◌∙◌, inr}
use Rattle.class_model.specs.declared.descriptor.FieldType.{FieldType}
use Rattle.machine_values.specs.Frames.{MethodState}
use Rattle.machine_values.specs.declared.frame.RunFrame.{RunFrame}
use Rattle.machine_values.specs.declared.frame.RunFrame.TheVariants.{Library, Method}
use Rattle.member_link.specs.Machine.Ops.{Op, no_operation, meaningless, push_value, push_constant, load_local, store_local, increment_local, test_local, shuffle_stack, pure_arithmetic, division, float_arithmetic, jump_by_int, jump_by_ints, jump_by_references, jump_by_null, jump_to, table_switch, lookup_switch, return_nothing, return_value, throw_reference, get_static, put_static, get_field, put_field, call_static, call_virtual, call_interface, call_special, call_dynamic, new_object, new_array, new_arrays, load_element, store_element, array_length, check_cast, instance_of, enter_monitor, leave_monitor}
use Rattle.member_link.specs.Machine.Programs.{Point, Program, point_at}
use Rattle.member_link.specs.Machine.Runs.{Run, at_library_turn, shown, turn, turn_by}
use Rattle.member_link.specs.Machine.Stepping.{ends_stuck, is_library_turn, op_step, point_step, step, work_step}
use Rattle.member_link.specs.Machine.Work.{arity}
use Rattle.member_link.specs.Machine.Worlds.{Halt, World, going, stuck}
use Rattle.same_runs.specs.SameMoves.{IsMove, is_no_operation, is_load, is_store, is_increment, is_test, is_shuffle, is_jump_by_int, is_jump_by_ints, is_jump_by_references, is_jump_by_null, is_jump, is_table_switch, is_lookup_switch}
use Rattle.same_runs.specs.Simulations.{Keeps, Quietly, at_once, turn_first}
use Rattle.same_runs.specs.Laws.BothBegin.{counted}
use Rattle.same_runs.specs.Laws.CaughtUp.{turned_going}
use Rattle.same_runs.specs.Laws.Operations.{WorksOnOperands, step_works}

-- ---- families of operations

-- of the frame alone, on operands, a return, or without meaning
pub data Family (op : Op) : Type 0 where
  moves : IsMove op → Family op
  works : WorksOnOperands op → Family op
  returns_nothing : op ≡ return_nothing → Family op
  returns_value : (type : FieldType) → op ≡ return_value type → Family op
  means_nothing : op ≡ meaningless → Family op

pub family_of : (op : Op) → Family op
family_of no_operation = moves is_no_operation
family_of meaningless = means_nothing refl
family_of (push_value value) = works tt
family_of (push_constant constant) = works tt
family_of (load_local kind at) = moves is_load
family_of (store_local kind at) = moves is_store
family_of (increment_local at by) = moves is_increment
family_of (test_local at) = moves is_test
family_of (shuffle_stack opcode) = moves is_shuffle
family_of (pure_arithmetic opcode) = works tt
family_of (division opcode) = works tt
family_of (float_arithmetic opcode) = works tt
family_of (jump_by_int opcode to) = moves is_jump_by_int
family_of (jump_by_ints opcode to) = moves is_jump_by_ints
family_of (jump_by_references opcode to) = moves is_jump_by_references
family_of (jump_by_null opcode to) = moves is_jump_by_null
family_of (jump_to to) = moves is_jump
family_of (table_switch low other targets) = moves is_table_switch
family_of (lookup_switch other pairs) = moves is_lookup_switch
family_of return_nothing = returns_nothing refl
family_of (return_value type) = returns_value type refl
family_of throw_reference = works tt
family_of (get_static r) = works tt
family_of (put_static r initialises) = works tt
family_of (get_field r) = works tt
family_of (put_field r initialises) = works tt
family_of (call_static r) = works tt
family_of (call_virtual r) = works tt
family_of (call_interface r) = works tt
family_of (call_special r from) = works tt
family_of (call_dynamic class bootstrap name desc) = works tt
family_of (new_object name) = works tt
family_of (new_array desc) = works tt
family_of (new_arrays desc dimensions) = works tt
family_of (load_element opcode) = works tt
family_of (store_element opcode) = works tt
family_of array_length = works tt
family_of (check_cast name) = works tt
family_of (instance_of name) = works tt
family_of enter_monitor = works tt
family_of leave_monitor = works tt

-- where the step of an operation is not stuck, it has its operands, and a meaning
pub has_operands : (P : Program) (w : World) (f : MethodState) (rest : List RunFrame) (op : Op)
    → WorksOnOperands op
    → (op_step P w f rest op).halt ≢ stuck
    → nat_le (arity op) (length f.stack) ≡ true
has_operands P w f rest op work goes_on = by (nat_le (arity op) (length f.stack)) refl where
  by : (b : Bool) → nat_le (arity op) (length f.stack) ≡ b → nat_le (arity op) (length f.stack) ≡ true
  by true e = e
  by false e =
      let lacks : work_step P w f rest op ≡ ends_stuck w = rw (e) refl in
      absurd (goes_on (ap (λ (world : World). world.halt) (step_works P f rest op work w ∙ lacks)))

pub has_meaning : (P : Program) (w : World) (f : MethodState) (rest : List RunFrame) (op : Op) → (op_step P w f rest op).halt ≢ stuck → op ≢ meaningless
has_meaning P w f rest op goes_on none = goes_on (ap (λ (o : Op). (op_step P w f rest o).halt) none)

-- ---- turns

-- a run that goes on, where it is not the library's turn, takes a step
pub turn_steps : (P : Program) (r : Run) → r.world.halt ≡ going → is_library_turn r.world.frames ≡ false
    → turn P r ≡ record r { world = step P r.world }
turn_steps P r goes no_turn = ap (turn_by P r) goes ∙ rw (no_turn) refl

-- what its turn leads to is what its step does
pub turn_is_step : (P : Program) (r : Run) (w : World) → r.world.halt ≡ going → is_library_turn r.world.frames ≡ false
    → turn P r ≡ record r { world = w }
    → step P r.world ≡ w
turn_is_step P r w goes no_turn turned = ap (λ (later : Run). later.world) (sym (turn_steps P r goes no_turn) ∙ turned)

-- a turn at an operation is a step of it
pub turned_by_op : (R : Program) (r : Run) (f : MethodState) (rest : List RunFrame) (point : Point)
    → r.world.halt ≡ going
    → r.world.frames ≡ Method f ∷ rest
    → point_at R f.at f.place ≡ Some point
    → turn R r ≡ record r { world = op_step R (counted r) f rest point.op }
turned_by_op R r f rest point goes stands is =
    turned_going R r (Method f ∷ rest) goes stands refl
    ∙ ap (λ (found : Option Point). record r { world = point_step R (counted r) f rest found }) is

-- a turn of the library is an action, if one is left
pub turned_by_library : (R : Program) (r : Run) (made : Option ℕ) (rest : List RunFrame)
    → r.world.halt ≡ going
    → r.world.frames ≡ Library made ∷ rest
    → turn R r ≡ at_library_turn R r r.actions
turned_by_library R r made rest goes stands =
    let turns : is_library_turn r.world.frames ≡ true = ap is_library_turn stands in
    ap (turn_by R r) goes ∙ rw (turns) refl

-- a run that is over stays
pub over_stays : (R : Program) (r : Run) → r.world.halt ≢ going → turn R r ≡ r
over_stays R r over = by r.world.halt refl where
  by : (h : Halt) → r.world.halt ≡ h → turn R r ≡ r
  by going is = absurd (over is)
  by h is = ap (turn_by R r) is

-- quiet turns show nothing
pub quietly_shows : {R : Program} {r later : Run} → Quietly R r later → shown later ≡ shown r
quietly_shows at_once = refl
quietly_shows (turn_first same more) = quietly_shows more ∙ same

-- a turn of each leads to runs that are related
pub turns_keep : {P Q : Program} {Relates : ℕ → Run → Run → Type 0} {one other ones others : Run} (measure later : ℕ)
    → turn P one ≡ ones
    → turn Q other ≡ others
    → Relates later ones others
    → Keeps P Q Relates measure one other
turns_keep {Q = Q} {Relates = Relates} {other = other} {ones = ones} measure later led led_also related = record {
  waits = other;
  quietly = at_once;
  measure_then = later;
  goes_on = inr (subst (λ (r : Run). Relates later r (turn Q other)) (sym led) (subst (Relates later ones) (sym led_also) related));
}
