-- What prepared operations are, and what is true of what they have resolved and remembered.
use Rattle.std.specs.Prelude.{◌≡◌, ℕ, Bool, true, false, List, [], map, Option, Some, None, option_map, IfSome}
use Rattle.class_model.specs.Descriptors.{kind_of, type_of, parameters_of}
use Rattle.class_model.specs.Members.{STATIC, ABSTRACT}
use Rattle.class_model.specs.declared.descriptor.FieldType.{FieldType}
use Rattle.class_tree.specs.Headers.{Name}
use Rattle.class_tree.specs.Layouts.{instance_fields}
use Rattle.machine_values.specs.Values.{blank_values, narrowed}
use Rattle.machine_values.specs.declared.object.Shape.TheVariants.{Folder}
use Rattle.machine_values.specs.declared.value.Value.{Value}
use Rattle.member_link.specs.Machine.CallSteps.{as_asked, found_special, is_polymorphic, is_object_init, run_call, run_chosen, special_choice}
use Rattle.member_link.specs.Machine.Completions.{Completion, gives, raises, calls, asks, asks_call}
use Rattle.member_link.specs.Machine.FieldSteps.{is_barred, static_number}
use Rattle.member_link.specs.Machine.Layouts.{slot_number}
use Rattle.member_link.specs.Machine.Ops as ops
use Rattle.member_link.specs.Machine.Programs.{Program, headers_in, field_of, folder_number, has_flag, method_of, name_of_class}
use Rattle.member_link.specs.Machine.Shapes.{is_instance, shape_conforms}
use Rattle.member_link.specs.Machine.Throwables as throwables
use Rattle.member_link.specs.Machine.Worlds.{Memory}
use Rattle.member_link.specs.References.{Reference}
use Rattle.member_link.specs.declared.selection.CallForm.{CallForm}
use Rattle.member_link.specs.declared.selection.CallForm.TheVariants.{Virtual, Interface}
use Rattle.member_link.specs.declared.run_op.CallOp.{CallOp}
use Rattle.member_link.specs.declared.run_op.CallTarget.{CallTarget}
use Rattle.member_link.specs.declared.run_op.Callee.{Callee}
use Rattle.member_link.specs.declared.run_op.Callee.TheVariants as callees
use Rattle.member_link.specs.declared.run_op.CastOp.{CastOp}
use Rattle.member_link.specs.declared.run_op.DynamicOp.{DynamicOp}
use Rattle.member_link.specs.declared.run_op.FieldHome.{FieldHome}
use Rattle.member_link.specs.declared.run_op.FieldHome.TheVariants as homes
use Rattle.member_link.specs.declared.run_op.FieldOp.{FieldOp}
use Rattle.member_link.specs.declared.run_op.FieldTarget.{FieldTarget}
use Rattle.member_link.specs.declared.run_op.NewOp.{NewOp}
use Rattle.member_link.specs.declared.run_op.RunOp.{RunOp}
use Rattle.member_link.specs.declared.run_op.RunOp.TheVariants as run
use Rattle.member_link.specs.declared.run_op.SeenAnswer.{SeenAnswer}
use Rattle.member_link.specs.declared.run_op.SeenCallee.{SeenCallee}
use Rattle.member_link.specs.declared.run_op.SeenSlot.{SeenSlot}
use Rattle.member_link.specs.declared.run_op.Throwable.{Throwable}
use Rattle.member_link.specs.declared.run_op.Throwable.TheVariants as raised

-- ---- the operation that one is

abbrev pub special_op : CallOp → Option Name → ops.Op
special_op op None = ops.meaningless
special_op op (Some from) = ops.call_special op.named from

abbrev pub op_of : RunOp → ops.Op
op_of run.Nop = ops.no_operation
op_of run.Meaningless = ops.meaningless
op_of (run.Push value) = ops.push_value value
op_of (run.PushConstant constant) = ops.push_constant constant
op_of (run.Load kind at) = ops.load_local kind at
op_of (run.Store kind at) = ops.store_local kind at
op_of (run.Increment at by) = ops.increment_local at by
op_of (run.Shuffle opcode) = ops.shuffle_stack opcode
op_of (run.Pure opcode) = ops.pure_arithmetic opcode
op_of (run.Divide opcode) = ops.division opcode
op_of (run.Float opcode) = ops.float_arithmetic opcode
op_of (run.JumpInt opcode to) = ops.jump_by_int opcode to
op_of (run.JumpInts opcode to) = ops.jump_by_ints opcode to
op_of (run.JumpReferences opcode to) = ops.jump_by_references opcode to
op_of (run.JumpNull opcode to) = ops.jump_by_null opcode to
op_of (run.Jump to) = ops.jump_to to
op_of (run.Table op) = ops.table_switch op.value.low op.value.other op.value.targets
op_of (run.Lookup op) = ops.lookup_switch op.value.other op.value.pairs
op_of run.ReturnNothing = ops.return_nothing
op_of (run.ReturnValue type) = ops.return_value type
op_of run.Throw = ops.throw_reference
op_of (run.GetStatic op) = ops.get_static op.value.named
op_of (run.PutStatic op) = ops.put_static op.value.named op.value.initialises
op_of (run.GetField op) = ops.get_field op.value.named
op_of (run.PutField op) = ops.put_field op.value.named op.value.initialises
op_of (run.CallStatic op) = ops.call_static op.value.named
op_of (run.CallVirtual op) = ops.call_virtual op.value.named
op_of (run.CallInterface op) = ops.call_interface op.value.named
op_of (run.CallSpecial op) = special_op op.value op.value.from
op_of (run.CallDynamic op) = ops.call_dynamic op.value.class op.value.bootstrap op.value.name op.value.desc
op_of (run.New op) = ops.new_object op.value.class
op_of (run.NewArray desc) = ops.new_array desc
op_of (run.NewArrays desc dimensions) = ops.new_arrays desc dimensions
op_of (run.LoadElement opcode) = ops.load_element opcode
op_of (run.StoreElement opcode) = ops.store_element opcode
op_of run.Length = ops.array_length
op_of (run.Cast op) = ops.check_cast op.value.name
op_of (run.InstanceOf op) = ops.instance_of op.value.name
op_of run.Enter = ops.enter_monitor
op_of run.Leave = ops.leave_monitor

-- ---- throwables

abbrev pub throwable_name : Throwable → Name
throwable_name raised.NullPointer = throwables.null_pointer
throwable_name raised.Arithmetic = throwables.arithmetic
throwable_name raised.IndexOutside = throwables.index_outside
throwable_name raised.ArrayStore = throwables.array_store
throwable_name raised.NegativeSize = throwables.negative_size
throwable_name raised.ClassCast = throwables.class_cast
throwable_name raised.IllegalMonitor = throwables.illegal_monitor
throwable_name raised.IllegalAccess = throwables.illegal_access
throwable_name raised.IncompatibleChange = throwables.incompatible_change
throwable_name raised.AbstractCalled = throwables.abstract_called

-- ---- fields

-- the type keeps values as the type of a descriptor does: they have the same kind and are narrowed alike. Which class a type of
-- references names does not matter to a field.
pub record IsStoredAs (type : FieldType) (desc : List ℕ) : Type 0 where
  pub kind : kind_of (type_of desc) ≡ kind_of type
  pub narrows : (value : Value) → narrowed (type_of desc) value ≡ narrowed type value

abbrev pub home_class : FieldHome → Option ℕ
home_class homes.Library = None
home_class (homes.Folder class number) = Some class

abbrev pub IsNumberAt : Program → Reference → FieldHome → Type 0
IsNumberAt P field homes.Library = Unit {0}
IsNumberAt P field (homes.Folder class number) = static_number P class field ≡ number

pub record IsSeenSlot (P : Program) (named : Name) (field : Reference) (seen : SeenSlot) : Type 0 where
  pub conforms : shape_conforms P (Folder seen.class) named ≡ true
  pub slot : slot_number P (name_of_class P seen.class) field ≡ Some seen.slot

pub record IsFieldTarget (P : Program) (op : FieldOp) (target : FieldTarget) : Type 0 where
  pub link : P.links.field op.named ≡ Some target.field
  pub static : target.is_static ≡ has_flag (field_of P target.field) STATIC
  pub barred : target.is_barred ≡ is_barred P target.field op.initialises
  pub desc : IsStoredAs target.desc target.field.desc
  pub home : folder_number P target.field.class ≡ home_class target.home
  pub number : IsNumberAt P target.field target.home
  pub seen : IfSome target.seen (IsSeenSlot P op.named.class target.field)

abbrev pub IsFieldFound : Program → FieldOp → Option FieldTarget → Type 0
IsFieldFound P op None = P.links.field op.named ≡ None
IsFieldFound P op (Some target) = IsFieldTarget P op target

abbrev pub IsFieldOp : Program → FieldOp → Type 0
IsFieldOp P op = IsFieldFound P op op.found

-- ---- calls

-- what a call comes to that runs something, with its operands
abbrev pub called : Memory → Callee → List Value → Completion
called memory (callees.Runs at) values = calls at values
called memory (callees.Asks method) values = asks (asks_call method values)
called memory (callees.Raises throwable) values = raises (throwable_name throwable)
called memory callees.Nothing values = gives memory []

-- a call that does nothing
abbrev pub is_nothing : Callee → Bool
is_nothing callees.Nothing = true
is_nothing callee = false

-- an object of a class of the folder, by the form of the call: of a virtual one it conforms to the named class, of one through an interface it
-- implements it
abbrev pub takes_receiver : Program → CallForm → ℕ → Name → Bool
takes_receiver P Interface class named = is_instance P (Folder class) named
takes_receiver P form class named = shape_conforms P (Folder class) named

pub record IsSeenCallee (P : Program) (form : CallForm) (named found : Reference) (seen : SeenCallee)
    : Type 0 where
  pub takes : takes_receiver P form seen.class named.class ≡ true
  pub runs :
      (memory : Memory) (values : List Value)
      → run_chosen P (P.links.select (name_of_class P seen.class) found form) values
      ≡ called memory seen.callee values

-- a method that is found, of a call of any form
pub record IsFoundMethod (P : Program) (named : Reference) (target : CallTarget) : Type 0 where
  pub static : target.is_static ≡ has_flag (method_of P target.method) STATIC
  pub asked : target.asked ≡ as_asked P named target.method
  pub polymorphic : target.is_polymorphic ≡ is_polymorphic P named
  pub home : folder_number P target.method.class ≡ target.home

-- what a static call runs
abbrev pub RunsStatic : Program → CallTarget → Option Callee → Type 0
RunsStatic P target None = ⊥
RunsStatic P target (Some callee) =
    (memory : Memory) (values : List Value)
    → run_call P target.asked values ≡ called memory callee values

-- what a special call runs, unless the library is asked; of a static method, which such a call does not run, nothing is said
abbrev pub RunsSpecial : Program → Name → CallTarget → Option Callee → Type 0
RunsSpecial P from target None = ⊥
RunsSpecial P from target (Some callees.Nothing) = is_object_init target.method ≡ true
RunsSpecial P from target (Some callee) =
    (is_object_init target.method ≡ false)
    × ((memory : Memory) (values : List Value)
    → run_chosen P (special_choice P from target.method) values ≡ called memory callee values)

pub record IsStaticTarget (P : Program) (op : CallOp) (target : CallTarget) : Type 0 where
  pub link : P.links.method op.named ≡ Some target.method
  pub found : IsFoundMethod P op.named target
  pub runs : RunsStatic P target target.fixed

pub record IsReceiverTarget (P : Program) (form : CallForm) (op : CallOp) (target : CallTarget)
    : Type 0 where
  pub link : P.links.method op.named ≡ Some target.method
  pub found : IsFoundMethod P op.named target
  pub seen : IfSome target.seen (IsSeenCallee P form op.named target.method)

pub record IsSpecialTarget (P : Program) (op : CallOp) (from : Name) (target : CallTarget)
    : Type 0 where
  pub link : found_special P op.named ≡ Some target.method
  pub found : IsFoundMethod P op.named target
  pub runs : target.is_static ≡ false → RunsSpecial P from target target.fixed

-- the arguments of a call by their kinds
abbrev pub HasParameters : CallOp → Type 0
HasParameters op = map kind_of (parameters_of op.named.desc) ≡ op.parameters.items

abbrev pub IsFoundStatic : Program → CallOp → Option CallTarget → Type 0
IsFoundStatic P op None = P.links.method op.named ≡ None
IsFoundStatic P op (Some target) = IsStaticTarget P op target

abbrev pub IsFoundByReceiver : Program → CallForm → CallOp → Option CallTarget → Type 0
IsFoundByReceiver P form op None = P.links.method op.named ≡ None
IsFoundByReceiver P form op (Some target) = IsReceiverTarget P form op target

abbrev pub IsFoundSpecial : Program → CallOp → Option Name → Option CallTarget → Type 0
IsFoundSpecial P op None found = ⊥
IsFoundSpecial P op (Some from) None = found_special P op.named ≡ None
IsFoundSpecial P op (Some from) (Some target) = IsSpecialTarget P op from target

-- ---- classes

pub record IsSeenAnswer (P : Program) (name : Name) (seen : SeenAnswer) : Type 0 where
  pub answer : is_instance P (Folder seen.class) name ≡ seen.answer

abbrev pub IsCastOp : Program → CastOp → Type 0
IsCastOp P op = IfSome op.seen (IsSeenAnswer P op.name)

-- what the fields of an object of a class hold at first; an object of the library has none that are known
abbrev pub blanks_of : Program → Option ℕ → List Value
blanks_of P None = []
blanks_of P (Some class) = blank_values (instance_fields (headers_in P) (name_of_class P class))

pub record IsNewOp (P : Program) (op : NewOp) : Type 0 where
  pub home : folder_number P op.class ≡ op.home
  pub blanks : op.blanks.items ≡ blanks_of P op.home

-- ---- an operation

-- what is resolved and remembered is true of the program
abbrev pub IsResolved : Program → RunOp → Type 0
IsResolved P (run.GetStatic op) = IsFieldOp P op.value
IsResolved P (run.PutStatic op) = IsFieldOp P op.value
IsResolved P (run.GetField op) = IsFieldOp P op.value
IsResolved P (run.PutField op) = IsFieldOp P op.value
IsResolved P (run.CallStatic op) = HasParameters op.value × IsFoundStatic P op.value op.value.found
IsResolved P (run.CallVirtual op) = HasParameters op.value × IsFoundByReceiver P Virtual op.value op.value.found
IsResolved P (run.CallInterface op) = HasParameters op.value × IsFoundByReceiver P Interface op.value op.value.found
IsResolved P (run.CallSpecial op) = HasParameters op.value × IsFoundSpecial P op.value op.value.from op.value.found
IsResolved P (run.CallDynamic op) = map kind_of (parameters_of op.value.desc) ≡ op.value.parameters.items
IsResolved P (run.New op) = IsNewOp P op.value
IsResolved P (run.Cast op) = IsCastOp P op.value
IsResolved P (run.InstanceOf op) = IsCastOp P op.value
IsResolved P op = Unit {0}
