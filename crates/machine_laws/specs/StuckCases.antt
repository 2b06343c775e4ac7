-- Small programs that end in Stuck: an operand, a local or a receiver is not as the instruction
-- needs it, or no instruction
-- stands where control goes on.
use Rattle.std.specs.Prelude.{ℕ, pos, List, [], ◌∷◌, codes, None}
use Rattle.class_model.specs.declared.descriptor.FieldType.TheVariants as types
use Rattle.class_model.specs.declared.descriptor.Kind.TheVariants as kinds
use Rattle.class_model.specs.declared.opcodes.TheConstants.{LALOAD, POP, IADD}
use Rattle.class_tree.specs.Names.{object, method_handle}
use Rattle.machine_values.specs.declared.action.Action.TheVariants as actions
use Rattle.machine_values.specs.declared.action.Given.TheVariants as given
use Rattle.machine_values.specs.declared.event.End.TheVariants as ends
use Rattle.machine_values.specs.declared.event.EventKind.TheVariants as events
use Rattle.machine_values.specs.declared.event.Seen.TheVariants as seen
use Rattle.machine_values.specs.declared.event.SeenRef.{SeenRef}
use Rattle.machine_values.specs.declared.object.Constant.TheVariants as constants
use Rattle.machine_values.specs.declared.value.Value.TheVariants as values
use Rattle.machine_laws.specs.TestPrograms.{reference, member, program, with_code, class, int, super_init, x_of_P, call_y_of_P, P_class, T_fields, shows, event, call_T, constant_ref, result_nothing, made}
use Rattle.member_link.specs.Machine.Ops as ops
use Rattle.member_link.specs.Machine.Ops.{Op}
use Rattle.member_link.specs.Machine.Programs.{Program, RunMethod}
use Rattle.member_link.specs.References.{Reference}

-- static int NAME(Object o) with this code
abbrev pub stuck_method : List ℕ → List Op → RunMethod
stuck_method name code = with_code 9 name (codes "(Ljava/lang/Object;)I") 2 code

-- reads a field of its argument as one of a P, and calls its y
abbrev pub stuck_field : RunMethod
stuck_field = stuck_method (codes "field") (
    ops.load_local kinds.Ref 0
    ∷ ops.get_field x_of_P
    ∷ ops.return_value types.Int
    ∷ []
    )

abbrev pub stuck_call : RunMethod
stuck_call = stuck_method (codes "call") (
    ops.load_local kinds.Ref 0
    ∷ ops.call_virtual call_y_of_P
    ∷ ops.return_value types.Int
    ∷ []
    )

abbrev pub stuck_program : Program
stuck_program = program (
    P_class
    ∷ T_fields [] (
    stuck_field
    ∷ stuck_call
    ∷ stuck_method (codes "empty") (ops.shuffle_stack POP ∷ [])
    ∷ stuck_method (codes "few") (int (pos 1) ∷ ops.pure_arithmetic IADD ∷ [])
    ∷ stuck_method (codes "no_local") (ops.load_local kinds.Int 5 ∷ [])
    ∷ stuck_method (codes "no_value") (ops.load_local kinds.Int 1 ∷ [])
    ∷ stuck_method (codes "other_kind") (ops.load_local kinds.Int 0 ∷ [])
    ∷ stuck_method (codes "store") (int (pos 1) ∷ ops.store_local kinds.Int 5 ∷ [])
    ∷ stuck_method (codes "wide_store")
    (ops.push_value (values.Long (pos 1)) ∷ ops.store_local kinds.Long 1 ∷ [])
    ∷ stuck_method (codes "beyond") (ops.no_operation ∷ [])
    ∷ stuck_method (codes "far") (ops.jump_to 7 ∷ [])
    ∷ stuck_method (codes "meaningless") (ops.meaningless ∷ [])
    ∷ stuck_method (codes "no_member")
    (ops.call_static (reference (codes "T") (codes "none") (codes "()V")) ∷ [])
    ∷ stuck_method (codes "not_static") (ops.call_static call_y_of_P ∷ [])
    ∷ stuck_method (codes "throws") (ops.load_local kinds.Ref 0 ∷ ops.throw_reference ∷ [])
    ∷ stuck_method (codes "length") (ops.load_local kinds.Ref 0 ∷ ops.array_length ∷ [])
    ∷ stuck_method (codes "longs")
    (ops.load_local kinds.Ref 0 ∷ int (pos 0) ∷ ops.load_element LALOAD ∷ [])
    ∷ stuck_method (codes "splits")
    (ops.push_value (values.Long (pos 1)) ∷ ops.shuffle_stack POP ∷ [])
    ∷ stuck_method (codes "result") (ops.load_local kinds.Ref 0 ∷ ops.return_value types.Int ∷ [])
    ∷ []
    )
    ∷ []
    )

-- on an int[1], and on an object of the library
abbrev pub sticks : List ℕ → Type 0
sticks name = shows stuck_program (
    actions.NewArray (codes "[I") (pos 1)
    ∷ call_T name (codes "(Ljava/lang/Object;)I") (given.Known 0 ∷ [])
    ∷ []
    ) (made 0 (codes "[I") 0 0 (0 ∷ []) ∷ []) ends.Stuck

abbrev pub sticks_on_object : List ℕ → Type 0
sticks_on_object name = shows stuck_program (
    actions.NewExternal object []
    ∷ call_T name (codes "(Ljava/lang/Object;)I") (given.Known 0 ∷ [])
    ∷ []
    ) (made 0 object 0 0 (0 ∷ []) ∷ []) ends.Stuck

-- ---- a folder that declares java/lang/invoke/MethodHandle

abbrev pub x_of_handle : Reference
x_of_handle = reference method_handle (codes "x") (codes "I")

abbrev pub some_handle : Op
some_handle =
    ops.push_constant (constants.Handle 6 (codes "T") (codes "get") (codes "()I"))

abbrev pub handle_get : RunMethod
handle_get = with_code 9 (codes "get") (codes "()I") 0 (
    some_handle
    ∷ ops.get_field x_of_handle
    ∷ ops.return_value types.Int
    ∷ []
    )

abbrev pub handle_put : RunMethod
handle_put = with_code 9 (codes "put") (codes "()V") 0 (
    some_handle
    ∷ int (pos 1)
    ∷ ops.put_field x_of_handle None
    ∷ ops.return_nothing
    ∷ []
    )

abbrev pub handle_call : RunMethod
handle_call = with_code 9 (codes "call") (codes "()V") 0 (
    some_handle
    ∷ ops.call_virtual (reference method_handle (codes "m") (codes "()V"))
    ∷ ops.return_nothing
    ∷ []
    )

abbrev pub handle_m : RunMethod
handle_m = with_code 1 (codes "m") (codes "()V") 1 (ops.return_nothing ∷ [])

-- class MethodHandle { int x; void m() {} }
abbrev pub own_handle_program : Program
own_handle_program = program (
    class 33 method_handle (member 1 (codes "x") (codes "I") ∷ [])
    (super_init object ∷ handle_m ∷ [])
    ∷ T_fields [] (handle_get ∷ handle_put ∷ handle_call ∷ [])
    ∷ []
    )

abbrev pub handle_ref : SeenRef
handle_ref =
    constant_ref 0 method_handle (constants.Handle 6 (codes "T") (codes "get") (codes "()I"))

pub record RunStuck : Type 0 where
  pub field_of_array : sticks (codes "field")
  pub field_of_object : sticks_on_object (codes "field")
  pub call_on_array : sticks (codes "call")
  pub call_on_object : sticks_on_object (codes "call")
  pub empty_stack : sticks (codes "empty")
  pub few_operands : sticks (codes "few")
  pub local_beyond : sticks (codes "no_local")
  pub local_without_value : sticks (codes "no_value")
  pub local_of_other_kind : sticks (codes "other_kind")
  pub store_beyond : sticks (codes "store")
  pub second_unit_beyond : sticks (codes "wide_store")
  pub end_of_code : sticks (codes "beyond")
  pub jump_beyond : sticks (codes "far")
  pub meaningless : sticks (codes "meaningless")
  pub no_member : sticks (codes "no_member")
  pub static_call_of_instance_method : sticks (codes "not_static")
  pub thrown_array : sticks (codes "throws")
  pub thrown_object : sticks_on_object (codes "throws")
  pub length_of_object : sticks_on_object (codes "length")
  pub element_of_other_array : sticks (codes "longs")
  pub half_of_a_long : sticks (codes "splits")
  pub result_of_other_kind : sticks (codes "result")
  -- its constants are objects of the library all the same: they have none of the fields that
  -- the folder declares, and
  -- of their methods the library is asked
  pub field_of_own_handle : shows own_handle_program (call_T (codes "get") (codes "()I") [] ∷ []) []
      ends.Stuck
  pub store_into_own_handle : shows own_handle_program (call_T (codes "put") (codes "()V") [] ∷ [])
      [] ends.Stuck
  pub call_on_own_handle : shows own_handle_program
      (call_T (codes "call") (codes "()V") [] ∷ actions.Return None ∷ actions.Stop ∷ []) (
      event (events.Call method_handle (codes "m") (codes "()V") (seen.Ref handle_ref ∷ [])) 0 0
      (0 ∷ [])
      ∷ result_nothing 0 0 (0 ∷ [])
      ∷ []
      ) ends.Stopped
