-- The row of each instruction of flat code: what it asks to be made, what it moves, and its edges. It is this project's profile.
use Rattle.std.specs.Prelude.{◌==◌, ◌+◌, ◌-◌, ℕ, zero, suc, Bool, List, [], ◌∷◌, ◌++◌, map, length, slice_set, Option, Some, None, if◌then◌else◌}
use Rattle.class_model.specs.Descriptors.{parameters_of}
use Rattle.class_model.specs.Instructions.{targets}
use Rattle.class_model.specs.Pool.{Constants, constant_at}
use Rattle.class_model.specs.PoolChecks.{class_at, descriptor_at}
use Rattle.class_model.specs.declared.descriptor.FieldType.{FieldType}
use Rattle.class_model.specs.declared.descriptor.Kind.{Kind}
use Rattle.class_model.specs.declared.frame.Frame.{Frame}
use Rattle.class_model.specs.declared.instr.Instr.{Instr}
use Rattle.class_model.specs.declared.instr.Instr.TheVariants.{Nop, Const, Ldc, Ldc2, Load, Store, Iinc, ArrayLoad, ArrayStore, Shuffle, Pure, Divide, FloatAsk, If, If2, IfSame, IfNull, Goto, Table, Lookup, Return, GetStatic, PutStatic, GetField, PutField, Invoke, Dynamic, New, NewArray, NewRefArray, NewMulti, Length, Throw, Cast, InstanceOf, Enter, Leave}
use Rattle.class_model.specs.declared.opcodes.TheConstants.{IF_ACMPEQ, IFNULL, INVOKESTATIC}
use Rattle.class_model.specs.declared.pool.Const.{Const as PoolConst}
use Rattle.class_model.specs.declared.pool.Const.TheVariants as consts
use Rattle.class_tree.specs.Headers.{Name}
use Rattle.flow_code.specs.declared.handlers.FlatHandler.{FlatHandler}
use Rattle.flow_code.specs.declared.point.FlatInstr.{FlatInstr}
use Rattle.flow_code.specs.declared.point.FlatInstr.TheVariants.{Of, NullTest}
use Rattle.flow_code.specs.declared.point.Point.{Point}
use Rattle.member_link.specs.Bodies.{falls_through}
use Rattle.member_link.specs.Machine.CallSteps.{is_object_init}
use Rattle.member_link.specs.References.{Reference}
use Rattle.member_link.specs.Rows.ArithmeticRows.{Operation, operation_in, pure_operations, divide_operations, float_operations}
use Rattle.member_link.specs.Rows.ShuffleRows.{Form, form_in, forms_of}
use Rattle.member_link.specs.Signatures.{result_of}
use Rattle.plan_flow.specs.PlanRows.{Source, plain_value, from_place, from_field, from_new, Change, no_change, new_object, put_field, enter_monitor, leave_monitor, Guard, in_each_state, where_plain, where_may_be_same, where_may_differ, Position, any_object, object_put_into, object_not_below, object_at_depth, object_of_site, PlanRow, RowEdge}
use Rattle.plan_flow.specs.PlanScope.{PlanScope, pool_of, member_of, field_of, is_of_library, site_at}
use Rattle.plan_flow.specs.declared.edge.EdgeKind.TheVariants as edges

-- ---- places

-- the place of a stack entry, counted from the top, which is 0
abbrev pub operand : Frame → ℕ → ℕ
operand f number = length f.locals + length f.stack - (number + 1)

-- what so many places hold, from one on
abbrev pub held_from : ℕ → ℕ → List Source
held_from first zero = []
held_from first (suc count) = from_place first ∷ held_from (first + 1) count

-- what the local units hold
abbrev pub held_locals : Frame → List Source
held_locals f = held_from 0 (length f.locals)

-- the row of an instruction that takes so many stack entries and gives others
abbrev pub moving : Frame → ℕ → List Source → PlanRow
moving f takes gives = record {
  asks = [];
  locals = held_locals f;
  stack = held_from (length f.locals) (length f.stack - takes) ++ gives;
  change = no_change;
  next = in_each_state;
  jump = in_each_state;
  throws = None;
}

-- the same of one that may throw in each state
abbrev pub throwing : Frame → ℕ → List Source → PlanRow
throwing f takes gives = record (moving f takes gives) { throws = Some in_each_state }

-- ---- what is asked

-- each of so many operands
abbrev pub operands_asked : Frame → ℕ → List Position
operands_asked f zero = []
operands_asked f (suc count) = any_object (operand f count) ∷ operands_asked f count

-- The receiver and arguments of a call, the arguments of an invokedynamic, the value of a return and the operand of athrow.
abbrev pub handed_over : Frame → ℕ → List Position
handed_over f count = operands_asked f count

-- The value of a putstatic or of a store into an array.
abbrev pub value_stored : Frame → List Position
value_stored f = any_object (operand f 0) ∷ []

-- The object of a getfield or putfield whose field a class of the library declares, and the value of such a putfield.
abbrev pub library_operands : PlanScope → Frame → Reference → ℕ → List Position
library_operands s f field count = if is_of_library s field then operands_asked f count else []

-- The operand of a checkcast that does not hold.
abbrev pub failing_cast : Frame → Name → List Position
failing_cast f name = object_not_below (operand f 0) name ∷ []

-- The value of a putfield into an object that was made, or into a virtual one that the value is or reaches.
abbrev pub value_put : ℕ → ℕ → List Position
value_put object value = object_put_into value object ∷ []

-- The operand of a monitorenter whose monitor is entered as often as can be counted, and of a monitorexit whose monitor is not entered.
abbrev pub entered_fully : ℕ → List Position
entered_fully place = object_at_depth place 65535 ∷ []

abbrev pub not_entered : ℕ → List Position
not_entered place = object_at_depth place 0 ∷ []

-- The site of a new, where its last object is still virtual.
abbrev pub made_again : ℕ → List Position
made_again site = object_of_site site ∷ []

-- what a change of virtual objects asks to be made
abbrev pub change_asks : Change → List Position
change_asks no_change = []
change_asks (new_object site) = made_again site
change_asks (put_field object field value) = value_put object value
change_asks (enter_monitor place) = entered_fully place
change_asks (leave_monitor place) = not_entered place

-- all that a row asks
abbrev pub positions : PlanRow → List Position
positions row = row.asks ++ change_asks row.change

-- ---- calls

abbrev pub result_given : Option FieldType → List Source
result_given None = []
result_given (Some type) = plain_value ∷ []

-- how many operands a call takes besides its arguments
abbrev pub receivers : ℕ → ℕ
receivers opcode = if opcode == INVOKESTATIC then 0 else 1

-- a call of so many operands, with its result
abbrev pub calling : Frame → ℕ → List ℕ → PlanRow
calling f takes desc =
    record (throwing f takes (result_given (result_of desc))) { asks = handed_over f takes }

abbrev pub call_row : Frame → ℕ → Option Reference → PlanRow
call_row f opcode None = throwing f 0 []
call_row f opcode (Some method) =
    if is_object_init method then moving f 1 []
    else calling f (length (parameters_of method.desc) + receivers opcode) method.desc

abbrev pub dynamic_row : Constants → Frame → Option PoolConst → PlanRow
dynamic_row pool f (Some (consts.InvokeDynamic bootstrap member)) =
    of_descriptor (descriptor_at pool member) where
      of_descriptor : Option (List ℕ) → PlanRow
      of_descriptor None = throwing f 0 []
      of_descriptor (Some desc) = calling f (length (parameters_of desc)) desc
dynamic_row pool f constant = throwing f 0 []

-- ---- fields and objects

abbrev pub get_field_row : PlanScope → Frame → Option Reference → PlanRow
get_field_row s f None = moving f 1 (plain_value ∷ [])
get_field_row s f (Some field) = record (moving f 1 (from_field (operand f 0) field ∷ [])) {
  asks = library_operands s f field 1;
  throws = Some (where_plain (operand f 0));
}

abbrev pub put_field_row : PlanScope → Frame → Option Reference → PlanRow
put_field_row s f None = moving f 2 []
put_field_row s f (Some field) = record (moving f 2 []) {
  asks = library_operands s f field 2;
  change = put_field (operand f 1) field (operand f 0);
  throws = Some (where_plain (operand f 1));
}

-- by the site of the point, if it is one
abbrev pub new_row : Frame → Option ℕ → PlanRow
new_row f None = moving f 0 (plain_value ∷ [])
new_row f (Some site) = record (moving f 0 (from_new ∷ [])) {
  change = new_object site;
}

abbrev pub cast_row : Frame → Option Name → PlanRow
cast_row f None = moving f 1 (plain_value ∷ [])
cast_row f (Some name) = record (moving f 1 (from_place (operand f 0) ∷ [])) {
  asks = failing_cast f name;
  throws = Some (where_plain (operand f 0));
}

abbrev pub monitor_row : Frame → Change → PlanRow
monitor_row f change = record (moving f 1 []) {
  change = change;
  throws = Some (where_plain (operand f 0));
}

-- ---- arithmetic, the stack and jumps

abbrev pub operands_of : Option Operation → ℕ
operands_of None = 0
operands_of (Some operation) = length operation.takes

-- the operands of pop, dup, swap and the like, by their numbers, the lowest first
abbrev pub picked_operands : Frame → ℕ → List ℕ → List Source
picked_operands f takes numbers = map (λ number. from_place (operand f (takes - (number + 1)))) numbers

abbrev pub shuffle_row : Frame → Option Form → PlanRow
shuffle_row f None = moving f 0 []
shuffle_row f (Some form) =
    moving f (length form.takes) (picked_operands f (length form.takes) form.gives)

-- a virtual object is not null
abbrev pub null_row : Frame → ℕ → PlanRow
null_row f opcode =
    if opcode == IFNULL
    then record (moving f 1 []) { jump = where_plain (operand f 0) }
    else record (moving f 1 []) { next = where_plain (operand f 0) }

-- a virtual object is the same as itself, and as nothing else
abbrev pub same_row : Frame → ℕ → PlanRow
same_row f opcode =
    if opcode == IF_ACMPEQ then comparing if_same if_not_same
    else comparing if_not_same if_same where
      if_same : Guard
      if_same = where_may_be_same (operand f 1) (operand f 0)

      if_not_same : Guard
      if_not_same = where_may_differ (operand f 1) (operand f 0)

      comparing : Guard → Guard → PlanRow
      comparing jump next = record (moving f 2 []) { jump = jump; next = next }

abbrev pub store_row : Frame → ℕ → PlanRow
store_row f local = record (moving f 1 []) {
  locals = slice_set (held_locals f) local (from_place (operand f 0));
}

abbrev pub return_row : Frame → Option Kind → PlanRow
return_row f None = moving f 0 []
return_row f (Some kind) = record (moving f 1 []) { asks = handed_over f 1 }

-- ---- the table

-- an instruction of a class, by the class's number
abbrev pub instr_row : PlanScope → ℕ → Frame → ℕ → Instr → PlanRow
instr_row s at f class Nop = moving f 0 []
instr_row s at f class (Const imm) = moving f 0 (plain_value ∷ [])
instr_row s at f class (Ldc index) = moving f 0 (plain_value ∷ [])
instr_row s at f class (Ldc2 index) = moving f 0 (plain_value ∷ [])
instr_row s at f class (Load kind local) = moving f 0 (from_place local ∷ [])
instr_row s at f class (Store kind local) = store_row f local
instr_row s at f class (Iinc local by) = moving f 0 []
instr_row s at f class (ArrayLoad opcode) = throwing f 2 (plain_value ∷ [])
instr_row s at f class (ArrayStore opcode) = record (throwing f 3 []) { asks = value_stored f }
instr_row s at f class (Shuffle opcode) = shuffle_row f (form_in (forms_of opcode) f.stack)
instr_row s at f class (Pure opcode) =
    moving f (operands_of (operation_in pure_operations opcode)) (plain_value ∷ [])
instr_row s at f class (Divide opcode) =
    throwing f (operands_of (operation_in divide_operations opcode)) (plain_value ∷ [])
instr_row s at f class (FloatAsk opcode) =
    moving f (operands_of (operation_in float_operations opcode)) (plain_value ∷ [])
instr_row s at f class (If opcode target) = moving f 1 []
instr_row s at f class (If2 opcode target) = moving f 2 []
instr_row s at f class (IfSame opcode target) = same_row f opcode
instr_row s at f class (IfNull opcode target) = null_row f opcode
instr_row s at f class (Goto target) = moving f 0 []
instr_row s at f class (Table low other targets) = moving f 1 []
instr_row s at f class (Lookup other pairs) = moving f 1 []
instr_row s at f class (Return kind) = return_row f kind
instr_row s at f class (GetStatic index) = moving f 0 (plain_value ∷ [])
instr_row s at f class (PutStatic index) = record (throwing f 1 []) { asks = value_stored f }
instr_row s at f class (GetField index) = get_field_row s f (field_of s class index)
instr_row s at f class (PutField index) = put_field_row s f (field_of s class index)
instr_row s at f class (Invoke opcode index count) = call_row f opcode (member_of s class index)
instr_row s at f class (Dynamic index) =
    dynamic_row (pool_of s class) f (constant_at (pool_of s class) index)
instr_row s at f class (New index) = new_row f (site_at s.flat at)
instr_row s at f class (NewArray code) = throwing f 1 (plain_value ∷ [])
instr_row s at f class (NewRefArray index) = throwing f 1 (plain_value ∷ [])
instr_row s at f class (NewMulti index dimensions) = throwing f dimensions (plain_value ∷ [])
instr_row s at f class Length = throwing f 1 (plain_value ∷ [])
instr_row s at f class Throw = record (throwing f 1 []) { asks = handed_over f 1 }
instr_row s at f class (Cast index) = cast_row f (class_at (pool_of s class) index)
instr_row s at f class (InstanceOf index) = moving f 1 (plain_value ∷ [])
instr_row s at f class Enter = monitor_row f (enter_monitor (operand f 0))
instr_row s at f class Leave = monitor_row f (leave_monitor (operand f 0))

-- a null test throws where the local holds null, which a virtual object is not
abbrev pub row_at : PlanScope → ℕ → Frame → FlatInstr → PlanRow
row_at s at f (Of class instr) = instr_row s at f class instr
row_at s at f (NullTest local) = record (moving f 0 []) { throws = Some (where_plain local) }

-- ---- edges: to the next point, then to the targets in order, a switch's default first, then to the handlers in order

abbrev pub next_edges : ℕ → PlanRow → Bool → List RowEdge
next_edges at row falls =
    if falls then record { by = edges.Next; to = at + 1; guard = row.next } ∷ [] else []

abbrev pub jump_edges : PlanRow → ℕ → List ℕ → List RowEdge
jump_edges row number [] = []
jump_edges row number (to ∷ others) =
    record { by = edges.Jump number; to = to; guard = row.jump }
    ∷ jump_edges row (number + 1) others

abbrev pub handler_edges : Guard → ℕ → List FlatHandler → List RowEdge
handler_edges guard number [] = []
handler_edges guard number (handler ∷ others) =
    record { by = edges.Handler number; to = handler.to; guard = guard }
    ∷ handler_edges guard (number + 1) others

abbrev pub thrown_edges : Option Guard → List FlatHandler → List RowEdge
thrown_edges None handlers = []
thrown_edges (Some guard) handlers = handler_edges guard 0 handlers

abbrev pub falls_on : FlatInstr → Bool
falls_on (Of class instr) = falls_through instr
falls_on (NullTest local) = Bool.true

abbrev pub targets_at : FlatInstr → List ℕ
targets_at (Of class instr) = targets instr
targets_at (NullTest local) = []

abbrev pub edges_of : ℕ → Point → PlanRow → List RowEdge
edges_of at point row =
    next_edges at row (falls_on point.instr)
    ++ jump_edges row 0 (targets_at point.instr)
    ++ thrown_edges row.throws point.handlers
