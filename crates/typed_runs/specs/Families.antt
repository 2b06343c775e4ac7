-- Families of operations, and the operation that a step does.
use Rattle.std.specs.Prelude.{List, ◌∷◌, IfSome}
use Rattle.machine_values.specs.declared.frame.RunFrame.{RunFrame}
use Rattle.machine_values.specs.declared.frame.RunFrame.TheVariants.{Beginning, Method}
use Rattle.member_link.specs.Machine.Ops.{Op, no_operation, push_value, push_constant, load_local, store_local, increment_local, shuffle_stack, pure_arithmetic, jump_by_int, jump_by_ints, jump_by_references, jump_by_null, jump_to, table_switch, lookup_switch, division, float_arithmetic, test_local, check_cast, instance_of, enter_monitor, leave_monitor, new_object, new_array, new_arrays, load_element, store_element, array_length, get_static, put_static, get_field, put_field, return_nothing, return_value, throw_reference, call_static, call_virtual, call_interface, call_special, call_dynamic}
use Rattle.member_link.specs.Machine.Programs.{Program, point_at}

-- what a family says of an operation holds of the one at which the top frame stands
abbrev pub NextIs : (Op → Type 0) → Program → List RunFrame → Type 0
NextIs Family P (Method f ∷ rest) = (IfSome (point_at P f.at f.place) (λ point. Family point.op))
NextIs Family P frames = ⊥

-- the beginning of a class is on top
abbrev pub BeginsClass : List RunFrame → Type 0
BeginsClass (Beginning class ∷ rest) = Unit {0}
BeginsClass frames = ⊥

-- It pushes a constant or null, moves values between locals and the operand stack, computes, jumps, tests what class an object is of, or
-- enters or leaves a monitor: it names no member, and makes no object but that of a constant or a
-- throwable of the machine.
abbrev pub WorksOnOperands : Op → Type 0
WorksOnOperands no_operation = Unit {0}
WorksOnOperands (push_value value) = Unit {0}
WorksOnOperands (push_constant constant) = Unit {0}
WorksOnOperands (load_local kind at) = Unit {0}
WorksOnOperands (store_local kind at) = Unit {0}
WorksOnOperands (increment_local at by) = Unit {0}
WorksOnOperands (shuffle_stack opcode) = Unit {0}
WorksOnOperands (pure_arithmetic opcode) = Unit {0}
WorksOnOperands (jump_by_int opcode to) = Unit {0}
WorksOnOperands (jump_by_ints opcode to) = Unit {0}
WorksOnOperands (jump_by_references opcode to) = Unit {0}
WorksOnOperands (jump_by_null opcode to) = Unit {0}
WorksOnOperands (jump_to to) = Unit {0}
WorksOnOperands (table_switch low other targets) = Unit {0}
WorksOnOperands (lookup_switch other pairs) = Unit {0}
WorksOnOperands (division opcode) = Unit {0}
WorksOnOperands (float_arithmetic opcode) = Unit {0}
WorksOnOperands (test_local at) = Unit {0}
WorksOnOperands (check_cast name) = Unit {0}
WorksOnOperands (instance_of name) = Unit {0}
WorksOnOperands enter_monitor = Unit {0}
WorksOnOperands leave_monitor = Unit {0}
WorksOnOperands op = ⊥

-- it makes an array, reads or writes an element, or gives an array's length
abbrev pub WorksOnArrays : Op → Type 0
WorksOnArrays (new_array desc) = Unit {0}
WorksOnArrays (new_arrays desc dimensions) = Unit {0}
WorksOnArrays (load_element opcode) = Unit {0}
WorksOnArrays (store_element opcode) = Unit {0}
WorksOnArrays array_length = Unit {0}
WorksOnArrays op = ⊥

-- it makes an object of a class
abbrev pub MakesObject : Op → Type 0
MakesObject (new_object name) = Unit {0}
MakesObject op = ⊥

-- it reads or writes a field
abbrev pub NamesField : Op → Type 0
NamesField (get_static r) = Unit {0}
NamesField (put_static r initialises) = Unit {0}
NamesField (get_field r) = Unit {0}
NamesField (put_field r initialises) = Unit {0}
NamesField op = ⊥

-- it ends its method with a value or without one
abbrev pub EndsMethod : Op → Type 0
EndsMethod return_nothing = Unit {0}
EndsMethod (return_value type) = Unit {0}
EndsMethod op = ⊥

-- it throws a reference
abbrev pub ThrowsReference : Op → Type 0
ThrowsReference throw_reference = Unit {0}
ThrowsReference op = ⊥

-- it calls a method
abbrev pub Calls : Op → Type 0
Calls (call_static r) = Unit {0}
Calls (call_virtual r) = Unit {0}
Calls (call_interface r) = Unit {0}
Calls (call_special r from) = Unit {0}
Calls (call_dynamic class bootstrap name desc) = Unit {0}
Calls op = ⊥
