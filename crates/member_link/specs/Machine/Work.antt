-- What an operation does with its operands: the families of instructions in one table (JVM Specification SE 8, 6.5). What moves locals,
-- the operand stack or control alone is not here: it is of the frame.
use Rattle.std.specs.Prelude.{◌==◌, ◌+◌, ◌-◌, ◌&&◌, ℕ, pos, Bool, true, false, List, [], ◌∷◌, length, Option, Some, None, if◌then◌else◌}
use Rattle.class_model.specs.Descriptors.{parameters_of}
use Rattle.class_model.specs.declared.descriptor.Kind.{Kind}
use Rattle.class_model.specs.declared.opcodes.TheConstants.{IALOAD, IASTORE}
use Rattle.machine_values.specs.declared.object.Constant.{Constant}
use Rattle.machine_values.specs.declared.value.Value.{Value}
use Rattle.machine_values.specs.declared.value.Value.TheVariants.{Int, Long, Ref}
use Rattle.member_link.specs.Machine.Arithmetic.{Meaning, meaning_in, pure_meanings, divide_meanings, result_by, operands_of}
use Rattle.member_link.specs.Machine.ArraySteps.{new_array_work, new_arrays_work, array_length_work, load_element_work, store_element_work}
use Rattle.member_link.specs.Machine.CallSteps.{call_static_work, call_virtual_work, call_interface_work, call_special_work, call_dynamic_work}
use Rattle.member_link.specs.Machine.Completions.{Completion, gives, raises, asks, ends, asks_float}
use Rattle.member_link.specs.Machine.FieldSteps.{get_static_work, put_static_work, get_field_work, put_field_work}
use Rattle.machine_values.specs.Heaps.{Made, constant_made}
use Rattle.member_link.specs.Machine.ObjectSteps.{new_object_work, check_cast_work, instance_of_work, enter_monitor_work, leave_monitor_work, throw_work}
use Rattle.member_link.specs.Machine.Ops.{Op, push_value, push_constant, pure_arithmetic, division, float_arithmetic, throw_reference, get_static, put_static, get_field, put_field, call_static, call_virtual, call_interface, call_special, call_dynamic, new_object, new_array, new_arrays, load_element, store_element, array_length, check_cast, instance_of, enter_monitor, leave_monitor}
use Rattle.member_link.specs.Machine.Programs.{Program}
use Rattle.member_link.specs.Machine.Throwables.{arithmetic}
use Rattle.machine_values.specs.Values.{has_kind}
use Rattle.member_link.specs.Machine.Worlds.{Memory, with_heap, stuck}
use Rattle.member_link.specs.References.{Reference}
use Rattle.member_link.specs.Rows.ArithmeticRows.{Operation, float_operations, operation_in}

-- ---- how many operands an operation takes off the stack

abbrev pub float_operands : Option Operation → ℕ
float_operands None = 0
float_operands (Some operation) = length operation.takes

-- the arguments of a call, with a receiver
abbrev pub with_receiver_count : Reference → ℕ
with_receiver_count method = length (parameters_of method.desc) + 1

abbrev pub arity : Op → ℕ
arity (pure_arithmetic opcode) = operands_of (meaning_in pure_meanings opcode)
arity (division opcode) = 2
arity (float_arithmetic opcode) = float_operands (operation_in float_operations opcode)
arity throw_reference = 1
arity (put_static field initialises) = 1
arity (get_field field) = 1
arity (put_field field initialises) = 2
arity (call_static method) = length (parameters_of method.desc)
arity (call_virtual method) = with_receiver_count method
arity (call_interface method) = with_receiver_count method
arity (call_special method from) = with_receiver_count method
arity (call_dynamic class bootstrap name desc) = length (parameters_of desc)
arity (new_array desc) = 1
arity (new_arrays desc dimensions) = dimensions
arity (load_element opcode) = 2
arity (store_element opcode) = 3
arity array_length = 1
arity (check_cast name) = 1
arity (instance_of name) = 1
arity enter_monitor = 1
arity leave_monitor = 1
arity op = 0

-- ---- constants and arithmetic

abbrev pub push_constant_work : Memory → Constant → Completion
push_constant_work memory constant = of_made (constant_made memory.heap constant) where
  of_made : Made → Completion
  of_made made = gives (with_heap memory made.heap) (Ref made.reference ∷ [])

abbrev pub of_result : Memory → Option Value → Completion
of_result memory None = ends stuck
of_result memory (Some value) = gives memory (value ∷ [])

abbrev pub arithmetic_work : Memory → Option Meaning → List Value → Completion
arithmetic_work memory None operands = ends stuck
arithmetic_work memory (Some meaning) operands = of_result memory (result_by meaning operands)

-- the divisor, the topmost operand, is zero
abbrev pub divides_by_zero : List Value → Bool
divides_by_zero (Int one ∷ Int (pos number) ∷ []) = number == 0
divides_by_zero (Long one ∷ Long (pos number) ∷ []) = number == 0
divides_by_zero operands = false

-- operands of other kinds are tested first, so that a zero is one of the operation's kind
abbrev pub division_work : Memory → Option Meaning → List Value → Completion
division_work memory None operands = ends stuck
division_work memory (Some meaning) operands = of_operands (result_by meaning operands) where
  of_operands : Option Value → Completion
  of_operands None = ends stuck
  of_operands (Some value) =
      if divides_by_zero operands then raises arithmetic else gives memory (value ∷ [])

-- the library computes with floats and doubles
abbrev pub float_work : ℕ → Option Operation → List Value → Completion
float_work opcode None operands = ends stuck
float_work opcode (Some operation) operands =
    if have operation.takes operands then asks (asks_float opcode operands) else ends stuck where
      have : List Kind → List Value → Bool
      have [] [] = true
      have (kind ∷ kinds) (value ∷ values) = has_kind kind value && have kinds values
      have kinds values = false

-- ---- the table

abbrev pub work : Program → Memory → Op → List Value → Completion
work P memory (push_value value) operands = gives memory (value ∷ [])
work P memory (push_constant constant) operands = push_constant_work memory constant
work P memory (pure_arithmetic opcode) operands =
    arithmetic_work memory (meaning_in pure_meanings opcode) operands
work P memory (division opcode) operands =
    division_work memory (meaning_in divide_meanings opcode) operands
work P memory (float_arithmetic opcode) operands =
    float_work opcode (operation_in float_operations opcode) operands
work P memory throw_reference operands = throw_work P memory operands
work P memory (get_static field) operands = get_static_work P memory (P.links.field field)
work P memory (put_static field initialises) operands =
    put_static_work P memory (P.links.field field) initialises operands
work P memory (get_field field) operands =
    get_field_work P memory field.class (P.links.field field) operands
work P memory (put_field field initialises) operands =
    put_field_work P memory field.class (P.links.field field) initialises operands
work P memory (call_static method) operands =
    call_static_work P memory method (P.links.method method) operands
work P memory (call_virtual method) operands =
    call_virtual_work P memory method (P.links.method method) operands
work P memory (call_interface method) operands =
    call_interface_work P memory method (P.links.method method) operands
work P memory (call_special method from) operands = call_special_work P memory method from operands
work P memory (call_dynamic class bootstrap name desc) operands =
    call_dynamic_work class bootstrap name desc operands
work P memory (new_object class) operands = new_object_work P memory class
work P memory (new_array desc) operands = new_array_work memory desc operands
work P memory (new_arrays desc dimensions) operands = new_arrays_work memory desc operands
work P memory (load_element opcode) operands = load_element_work memory (opcode - IALOAD) operands
work P memory (store_element opcode) operands =
    store_element_work P memory (opcode - IASTORE) operands
work P memory array_length operands = array_length_work memory operands
work P memory (check_cast name) operands = check_cast_work P memory name operands
work P memory (instance_of name) operands = instance_of_work P memory name operands
work P memory enter_monitor operands = enter_monitor_work memory operands
work P memory leave_monitor operands = leave_monitor_work memory operands
work P memory op operands = ends stuck
