-- What an instruction does, by the classes, members and constants that it names (JVM Specification SE 8, 6.5): indices of a
-- constant pool and offsets of a code are settled, so that an operation means the same wherever it stands.
use Rattle.std.specs.Prelude.{ℕ, ℤ, List, Option}
use Rattle.class_model.specs.declared.descriptor.FieldType.{FieldType}
use Rattle.class_model.specs.declared.descriptor.Kind.{Kind}
use Rattle.class_model.specs.declared.instr.Pair.{Pair}
use Rattle.class_tree.specs.Headers.{Name}
use Rattle.machine_values.specs.declared.object.Constant.{Constant}
use Rattle.machine_values.specs.declared.value.Value.{Value}
use Rattle.member_link.specs.References.{Reference}

-- Jumps name numbers of points. The first number of an operation of arithmetic, of the stack, of elements
-- or of a conditional jump is its opcode.
pub data Op : Type 0 where
  no_operation : Op
  -- an instruction whose constant lacks what it needs, whose opcode is none of its form, or that returns another kind than the method's result
  meaningless : Op
  -- ---- constants
  push_value : Value → Op
  push_constant : Constant → Op
  -- ---- locals, and the operand stack
  load_local : Kind → ℕ → Op
  store_local : Kind → ℕ → Op
  increment_local : ℕ → ℤ → Op
  -- raises where a local holds null; no instruction of a class file does
  test_local : ℕ → Op
  shuffle_stack : ℕ → Op
  -- ---- arithmetic
  pure_arithmetic : ℕ → Op
  division : ℕ → Op
  float_arithmetic : ℕ → Op
  -- ---- control
  jump_by_int : ℕ → ℕ → Op
  jump_by_ints : ℕ → ℕ → Op
  jump_by_references : ℕ → ℕ → Op
  jump_by_null : ℕ → ℕ → Op
  jump_to : ℕ → Op
  table_switch : ℤ → ℕ → List ℕ → Op
  lookup_switch : ℕ → List Pair → Op
  return_nothing : Op
  -- a value of the method's declared result
  return_value : FieldType → Op
  throw_reference : Op
  -- ---- fields: a store into an instance field names the class whose instance initialiser the code is, one into a static field the
  -- class whose class initialiser it is
  get_static : Reference → Op
  put_static : Reference → Option Name → Op
  get_field : Reference → Op
  put_field : Reference → Option Name → Op
  -- ---- calls: a special one names the class at which its selection starts
  call_static : Reference → Op
  call_virtual : Reference → Op
  call_interface : Reference → Op
  call_special : Reference → Name → Op
  -- the class whose code has it, the number of its bootstrap method, name and descriptor
  call_dynamic : Name → ℕ → List ℕ → List ℕ → Op
  -- ---- objects and arrays: an array by its descriptor
  new_object : Name → Op
  new_array : Name → Op
  new_arrays : Name → ℕ → Op
  load_element : ℕ → Op
  store_element : ℕ → Op
  array_length : Op
  check_cast : Name → Op
  instance_of : Name → Op
  enter_monitor : Op
  leave_monitor : Op
