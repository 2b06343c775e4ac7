-- Code as points: each instruction with the meaning of the constants that it names, its targets as numbers of points, and the handlers
-- around it. One translation serves the code of class files and code that is none of a class file's.
use Rattle.std.specs.Prelude.{◌==◌, ◌&&◌, not, nat_le, nat_lt, ℕ, Bool, true, false, List, [], ◌∷◌, map, length, bytes_eq, Option, Some, None, option_map, if◌then◌else◌}
use Rattle.std.specs.List.{flat_map}
use Rattle.class_model.specs.Descriptors.{kind_of}
use Rattle.class_model.specs.Pool.{Constants, constant_at}
use Rattle.class_model.specs.PoolChecks.{utf8_at, class_at, name_at, descriptor_at}
use Rattle.class_model.specs.declared.class_file.Handler.{Handler}
use Rattle.class_model.specs.declared.descriptor.FieldType.{FieldType}
use Rattle.class_model.specs.declared.descriptor.Kind.{Kind}
use Rattle.class_model.specs.declared.descriptor.Kind.TheVariants as kinds
use Rattle.class_model.specs.declared.header.Header.{Header}
use Rattle.class_model.specs.declared.instr.Imm.{Imm}
use Rattle.class_model.specs.declared.instr.Imm.TheVariants as imms
use Rattle.class_model.specs.declared.instr.Instr.{Instr}
use Rattle.class_model.specs.declared.instr.Instr.TheVariants.{Nop, Const, Ldc, Ldc2, Load, Store, Iinc, ArrayLoad, ArrayStore, Shuffle, Pure, Divide, FloatAsk, If, If2, IfSame, IfNull, Goto, Table, Lookup, Return, GetStatic, PutStatic, GetField, PutField, Invoke, Dynamic, New, NewArray, NewRefArray, NewMulti, Length, Throw, Cast, InstanceOf, Enter, Leave}
use Rattle.class_model.specs.declared.instr.Placed.{Placed}
use Rattle.class_model.specs.declared.pool.Const.{Const as PoolConst}
use Rattle.class_model.specs.declared.pool.Const.TheVariants as consts
use Rattle.class_tree.specs.Headers.{Name, class_named}
use Rattle.class_tree.specs.Names.{is_interface}
use Rattle.class_model.specs.declared.opcodes.TheConstants.{IALOAD, SALOAD, IASTORE, SASTORE, IFEQ, IFLE, IF_ICMPEQ, IF_ICMPLE, IF_ACMPEQ, IF_ACMPNE, INVOKEVIRTUAL, INVOKESPECIAL, INVOKESTATIC, INVOKEINTERFACE, IFNULL, IFNONNULL}
use Rattle.machine_values.specs.declared.object.Constant.{Constant}
use Rattle.machine_values.specs.declared.object.Constant.TheVariants as objects
use Rattle.machine_values.specs.declared.value.Value.{Value}
use Rattle.machine_values.specs.declared.value.Value.TheVariants as values
use Rattle.member_link.specs.Machine.Ops.{Op, no_operation, meaningless, push_value, push_constant, load_local, store_local, increment_local, test_local, shuffle_stack, pure_arithmetic, division, float_arithmetic, jump_by_int, jump_by_ints, jump_by_references, jump_by_null, jump_to, table_switch, lookup_switch, return_nothing, return_value, throw_reference, get_static, put_static, get_field, put_field, call_static, call_virtual, call_interface, call_special, call_dynamic, new_object, new_array, new_arrays, load_element, store_element, array_length, check_cast, instance_of, enter_monitor, leave_monitor}
use Rattle.member_link.specs.Machine.Programs.{Catch, Point, Code, Links, number_of_first}
use Rattle.member_link.specs.Bodies.{CodeItem, item_instr, item_null_test}
use Rattle.member_link.specs.References.{Reference}
use Rattle.member_link.specs.RowScope.{RowScope}
use Rattle.member_link.specs.Rows.ArrayRows.{primitive_array, array_of}
use Rattle.member_link.specs.Scope.{Scope, row_scope, instructions}
use Rattle.member_link.specs.Signatures.{reference_of}

-- ---- constants

-- what an instruction that pushes a number or null by itself pushes
abbrev pub value_of_imm : Imm → Value
value_of_imm imms.Null = values.Null
value_of_imm (imms.Int number) = values.Int number
value_of_imm (imms.Long number) = values.Long number
value_of_imm (imms.Float bits) = values.Float bits
value_of_imm (imms.Double bits) = values.Double bits

abbrev pub or_meaningless : Option Op → Op
or_meaningless None = meaningless
or_meaningless (Some op) = op

-- the method handle of a kind, by what it refers to (4.4.8)
abbrev pub handle_of : Constants → ℕ → ℕ → Option Constant
handle_of pool kind index =
    option_map (λ r. objects.Handle kind r.class r.name r.desc)
    (reference_of pool (constant_at pool index))

abbrev pub constant_op : Constants → Option PoolConst → Op
constant_op pool (Some (consts.Integer number)) = push_value (values.Int number)
constant_op pool (Some (consts.Long number)) = push_value (values.Long number)
constant_op pool (Some (consts.Float bits)) = push_value (values.Float bits)
constant_op pool (Some (consts.Double bits)) = push_value (values.Double bits)
constant_op pool (Some (consts.String text)) =
    or_meaningless (option_map (λ t. push_constant (objects.Str t)) (utf8_at pool text))
constant_op pool (Some (consts.Class name)) =
    or_meaningless (option_map (λ t. push_constant (objects.Class t)) (utf8_at pool name))
constant_op pool (Some (consts.MethodType desc)) =
    or_meaningless (option_map (λ t. push_constant (objects.MethodType t)) (utf8_at pool desc))
constant_op pool (Some (consts.MethodHandle kind reference)) =
    or_meaningless (option_map push_constant (handle_of pool kind reference))
constant_op pool constant = meaningless

-- ---- operations

-- an opcode of a form, else no meaning
abbrev pub if_between : ℕ → ℕ → ℕ → Op → Op
if_between low high opcode op = if nat_le low opcode && nat_le opcode high then op else meaningless

abbrev pub referring : RowScope → ℕ → (Reference → Op) → Op
referring s index op =
    or_meaningless (option_map op (reference_of s.pool (constant_at s.pool index)))

abbrev pub naming : Option Name → (Name → Op) → Op
naming name op = or_meaningless (option_map op name)

-- the class whose instance initialiser the code is, for a store into an instance field, or class initialiser, for one into a static field
abbrev pub initialises : Bool → Header → Option Name
initialises is own = if is then Some own.name else None

abbrev pub same_kind : Kind → Kind → Bool
same_kind kinds.Int kinds.Int = true
same_kind kinds.Long kinds.Long = true
same_kind kinds.Float kinds.Float = true
same_kind kinds.Double kinds.Double = true
same_kind kinds.Ref kinds.Ref = true
same_kind one other = false

abbrev pub return_op : Option FieldType → Option Kind → Op
return_op None None = return_nothing
return_op (Some type) (Some kind) =
    if same_kind (kind_of type) kind then return_value type else meaningless
return_op result kind = meaningless

-- The class at which the selection of a special call starts: the current class's superclass where the named class is no interface and is
-- strictly above the current class, else the named class (6.5.invokespecial).
abbrev pub special_start : Links → RowScope → Name → Name
special_start links s named = of_header (class_named s.headers named) where
  super_or_named : Option Name → Name
  super_or_named None = named
  super_or_named (Some name) = name

  of_class : Bool → Name
  of_class true = super_or_named s.own.super_name
  of_class false = named

  of_header : Option Header → Name
  of_header None = named
  of_header (Some header) =
      of_class
      (not (is_interface header)
      && (links.below s.own.name named && not (bytes_eq s.own.name named)))

-- invokevirtual, invokespecial, invokestatic and invokeinterface
abbrev pub call_op : Links → RowScope → ℕ → Reference → Op
call_op links s opcode r =
    if opcode == INVOKEVIRTUAL then call_virtual r
    else (if opcode == INVOKESPECIAL then call_special r (special_start links s r.class)
    else (if opcode == INVOKESTATIC then call_static r
    else (if opcode == INVOKEINTERFACE then call_interface r
    else meaningless)))

abbrev pub dynamic_op : RowScope → Option PoolConst → Op
dynamic_op s (Some (consts.InvokeDynamic bootstrap member)) =
    of_parts (name_at s.pool member) (descriptor_at s.pool member) where
      of_parts : Option (List ℕ) → Option (List ℕ) → Op
      of_parts (Some name) (Some desc) = call_dynamic s.own.name bootstrap name desc
      of_parts name desc = meaningless
dynamic_op s constant = meaningless

-- an instruction; the first function gives the number of the point at a place to which it jumps
abbrev pub instr_op : Links → (ℕ → ℕ) → RowScope → Instr → Op
instr_op links number s Nop = no_operation
instr_op links number s (Const imm) = push_value (value_of_imm imm)
instr_op links number s (Ldc index) = constant_op s.pool (constant_at s.pool index)
instr_op links number s (Ldc2 index) = constant_op s.pool (constant_at s.pool index)
instr_op links number s (Load kind local) = load_local kind local
instr_op links number s (Store kind local) = store_local kind local
instr_op links number s (Iinc local by) = increment_local local by
instr_op links number s (ArrayLoad opcode) = if_between IALOAD SALOAD opcode (load_element opcode)
instr_op links number s (ArrayStore opcode) =
    if_between IASTORE SASTORE opcode (store_element opcode)
instr_op links number s (Shuffle opcode) = shuffle_stack opcode
instr_op links number s (Pure opcode) = pure_arithmetic opcode
instr_op links number s (Divide opcode) = division opcode
instr_op links number s (FloatAsk opcode) = float_arithmetic opcode
instr_op links number s (If opcode target) =
    if_between IFEQ IFLE opcode (jump_by_int opcode (number target))
instr_op links number s (If2 opcode target) =
    if_between IF_ICMPEQ IF_ICMPLE opcode (jump_by_ints opcode (number target))
instr_op links number s (IfSame opcode target) =
    if_between IF_ACMPEQ IF_ACMPNE opcode (jump_by_references opcode (number target))
instr_op links number s (IfNull opcode target) =
    if_between IFNULL IFNONNULL opcode (jump_by_null opcode (number target))
instr_op links number s (Goto target) = jump_to (number target)
instr_op links number s (Table low other targets) =
    table_switch low (number other) (map number targets)
instr_op links number s (Lookup other pairs) =
    lookup_switch (number other)
    (map (λ pair. record { key = pair.key; to = number pair.to }) pairs)
instr_op links number s (Return kind) = return_op s.result kind
instr_op links number s (GetStatic index) = referring s index get_static
instr_op links number s (PutStatic index) =
    referring s index (λ r. put_static r (initialises s.is_clinit s.own))
instr_op links number s (GetField index) = referring s index get_field
instr_op links number s (PutField index) =
    referring s index (λ r. put_field r (initialises s.is_init s.own))
instr_op links number s (Invoke opcode index count) = referring s index (call_op links s opcode)
instr_op links number s (Dynamic index) = dynamic_op s (constant_at s.pool index)
instr_op links number s (New index) = naming (class_at s.pool index) new_object
instr_op links number s (NewArray code) = naming (primitive_array code) new_array
instr_op links number s (NewRefArray index) = naming (array_of (class_at s.pool index)) new_array
instr_op links number s (NewMulti index dimensions) =
    naming (class_at s.pool index) (λ name. new_arrays name dimensions)
instr_op links number s Length = array_length
instr_op links number s Throw = throw_reference
instr_op links number s (Cast index) = naming (class_at s.pool index) check_cast
instr_op links number s (InstanceOf index) = naming (class_at s.pool index) instance_of
instr_op links number s Enter = enter_monitor
instr_op links number s Leave = leave_monitor

abbrev pub item_op : Links → (ℕ → ℕ) → RowScope → CodeItem → Op
item_op links number s (item_instr instr) = instr_op links number s instr
item_op links number s (item_null_test local) = test_local local

-- ---- code

-- what stands at a place, what its constants are read in, and the handlers around it, each by the place where it begins
pub record CodePoint : Type 0 where
  pub place : ℕ
  pub scope : RowScope
  pub item : CodeItem
  pub catches : List Catch

-- the number of the point at a place; where none is, a number that no point has
abbrev pub number_at : List CodePoint → ℕ → ℕ
number_at points place = or_behind (number_of_first (λ point. point.place == place) points) where
  or_behind : Option ℕ → ℕ
  or_behind None = length points
  or_behind (Some number) = number

-- a handler, and a point, by the numbers of the points at places
abbrev pub renumbered : (ℕ → ℕ) → Catch → Catch
renumbered number catch = record catch { to = number catch.to }

abbrev pub run_point : Links → (ℕ → ℕ) → CodePoint → Point
run_point links number point = record {
  op = item_op links number point.scope point.item;
  catches = map (renumbered number) point.catches;
}

abbrev pub run_code : Links → ℕ → List CodePoint → Code
run_code links locals points =
    record { locals = locals; points = map (run_point links (number_at points)) points }

-- ---- the code of a class file's method

-- the range of a handler has an offset
abbrev pub covers : Handler → ℕ → Bool
covers handler at = nat_le handler.start at && nat_lt at handler.end

-- A handler of catch type 0 catches everything. A catch type that names no class, which a class file that was read never has, catches
-- nothing.
abbrev pub catch_by : Constants → ℕ → ℕ → List Catch
catch_by pool to catch_type =
    if catch_type == 0
    then record { to = to; class = None } ∷ []
    else of_class (class_at pool catch_type) where
      of_class : Option Name → List Catch
      of_class None = []
      of_class (Some name) = record { to = to; class = Some name } ∷ []

abbrev pub catch_in : Constants → Handler → List Catch
catch_in pool handler = catch_by pool handler.at handler.catch_type

abbrev pub catches_at : Constants → List Handler → ℕ → List Catch
catches_at pool handlers at =
    flat_map (λ handler. if covers handler at then catch_in pool handler else []) handlers

abbrev pub code_point : Scope → Placed → CodePoint
code_point s placed = record {
  place = placed.at;
  scope = row_scope s;
  item = item_instr placed.instr;
  catches = catches_at s.class.pool s.part.handlers placed.at;
}

abbrev pub code_points : Scope → List CodePoint
code_points s = map (code_point s) (instructions s)

abbrev pub method_code : Links → Scope → Code
method_code links s = run_code links s.part.max_locals (code_points s)
