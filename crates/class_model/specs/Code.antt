-- What a Code attribute is asked (JVM Specification SE 8, 4.7.3, 4.9.1), in order: that its structure fits its
-- length; the length of the code; the locals; the instructions; the exception table; its attributes.
use Rattle.std.specs.Prelude.{◌≡◌, ◌⊎◌, ◌==◌, ◌||◌, ◌+◌, ◌<◌, ◌≤◌, ℕ, Bool, List, [], ◌∷◌, ◌++◌, length, map, replicate, codes, Option, Some, None, Result, Ok, Err, IfSome, IsSome, IsTrue, IsFalse, if◌then◌else◌}
use Rattle.std.specs.List.{list_all}
use Rattle.class_model.specs.Characters.{left_bracket}
use Rattle.class_model.specs.Checks.{Check, check, Fault, fault, asked_of, asked_if, ◌>>=◌}
use Rattle.class_model.specs.Cutting.{Rest, Cut, whole, bytes_at, u2_at, u4_at, counted_at}
use Rattle.class_model.specs.Descriptors.{SpellsDescriptor, field_type_text, IsArrayType, IsElementType, parameter_units, kind_of}
use Rattle.class_model.specs.Frames.{Setting, stack_map_table_at, filled}
use Rattle.class_model.specs.Instructions.{targets, is_start}
use Rattle.class_model.specs.Members.{has, STATIC, is_text}
use Rattle.class_model.specs.Names.{init}
use Rattle.class_model.specs.Pool.{Constants, constant_at}
use Rattle.class_model.specs.PoolChecks.{utf8_at, class_at, descriptor_at, IsClassAt, IsFieldConstant, IsMethodConstant, IsInterfaceConstant}
use Rattle.class_model.specs.Spelling.{inner_bytes}
use Rattle.class_model.specs.declared.class_file.CodePart.{CodePart}
use Rattle.class_model.specs.declared.class_file.Handler.{Handler}
use Rattle.class_model.specs.declared.class_file.InnerAttr.{InnerAttr}
use Rattle.class_model.specs.declared.descriptor.Descriptor.{Descriptor}
use Rattle.class_model.specs.declared.descriptor.FieldType.{FieldType}
use Rattle.class_model.specs.declared.descriptor.FieldType.TheVariants.{Named}
use Rattle.class_model.specs.declared.descriptor.Kind.{Kind}
use Rattle.class_model.specs.declared.descriptor.Kind.TheVariants as kinds
use Rattle.class_model.specs.declared.fault.FileRule.TheVariants as rules
use Rattle.class_model.specs.declared.frame.Frame.{Frame}
use Rattle.class_model.specs.declared.frame.VType.{VType}
use Rattle.class_model.specs.declared.frame.VType.TheVariants as types
use Rattle.class_model.specs.declared.instr.Instr.{Instr}
use Rattle.class_model.specs.declared.instr.Instr.TheVariants.{Ldc, Ldc2, Load, Store, Iinc, GetStatic, PutStatic, GetField, PutField, Invoke, Dynamic, New, NewRefArray, NewMulti, Cast, InstanceOf}
use Rattle.class_model.specs.declared.instr.Placed.{Placed}
use Rattle.class_model.specs.declared.opcodes.TheConstants.{INVOKEVIRTUAL, INVOKESPECIAL, INVOKESTATIC, INVOKEINTERFACE}
use Rattle.class_model.specs.declared.pool.Const.{Const}
use Rattle.class_model.specs.declared.pool.Const.TheVariants as consts

-- ---- the structure

-- an entry of the exception table
abbrev pub handler_at : Rest → Cut Handler
handler_at rest = do
  start ← u2_at rest
  end ← u2_at start.1
  at ← u2_at end.1
  type ← u2_at at.1
  Ok (record { start = start.0; end = end.0; at = at.0; catch_type = type.0 }, type.1)

-- an attribute of a code
abbrev pub inner_at : Rest → Cut InnerAttr
inner_at rest = do
  name ← u2_at rest
  len ← u4_at name.1
  content ← bytes_at len.0 len.1
  Ok (record { name = name.0; bytes = content.0 }, content.1)

-- the items of the content, in their order
abbrev pub part_at : Rest → Cut CodePart
part_at rest = do
  stack ← u2_at rest
  locals ← u2_at stack.1
  len ← u4_at locals.1
  code ← bytes_at len.0 len.1
  handlers ← counted_at handler_at code.1
  attrs ← counted_at inner_at handlers.1
  Ok (
    record {
      max_stack = stack.0;
      max_locals = locals.0;
      code = code.0;
      handlers = handlers.0;
      attrs = attrs.0;
    },
    attrs.1,
  )

-- the content of a Code attribute cut into its parts, if they fill it
abbrev pub code_part : List ℕ → Option CodePart
code_part content = whole (part_at (record { at = 0; bytes = content }))

-- ---- operands that ask the pool or the locals (4.9.1)

-- the constants that ldc and ldc_w may name (6.5.ldc)
abbrev pub IsLoadable : Option Const → Type 0
IsLoadable (Some (consts.Integer number)) = Unit {0}
IsLoadable (Some (consts.Float bits)) = Unit {0}
IsLoadable (Some (consts.String text)) = Unit {0}
IsLoadable (Some (consts.Class name)) = Unit {0}
IsLoadable (Some (consts.MethodHandle kind reference)) = Unit {0}
IsLoadable (Some (consts.MethodType descriptor)) = Unit {0}
IsLoadable other = ⊥

-- the constants that ldc2_w may name (6.5.ldc2_w)
abbrev pub IsLoadable2 : Option Const → Type 0
IsLoadable2 (Some (consts.Long number)) = Unit {0}
IsLoadable2 (Some (consts.Double bits)) = Unit {0}
IsLoadable2 other = ⊥

-- the constants that invokedynamic may name (6.5.invokedynamic)
abbrev pub IsDynamicConstant : Option Const → Type 0
IsDynamicConstant (Some (consts.InvokeDynamic bootstrap member)) = Unit {0}
IsDynamicConstant other = ⊥

-- the index of the name and descriptor of an interface's method
abbrev pub member_index : Option Const → Option ℕ
member_index (Some (consts.InterfaceMethodref class member)) = Some member
member_index other = None

-- the descriptor of that member
abbrev pub units_behind : Constants → Option ℕ → Option (List ℕ)
units_behind pool None = None
units_behind pool (Some member) = descriptor_at pool member

-- the count of an invokeinterface is that of its arguments' units with the receiver
abbrev pub CountsArguments : Option (List ℕ) → ℕ → Type 0
CountsArguments descriptor count =
    IfSome descriptor (λ text. (d : Descriptor)
    → SpellsDescriptor text d
    → count ≡ parameter_units d.params + 1)

-- invokevirtual names a method, invokeinterface an interface's, and the other two either in version 52
abbrev pub IsCalled : Constants → ℕ → ℕ → ℕ → ℕ → Type 0
IsCalled pool major opcode method count =
    ((opcode ≡ INVOKEVIRTUAL) × IsMethodConstant (constant_at pool method))
    ⊎ (((opcode ≡ INVOKEINTERFACE)
    × IsInterfaceConstant (constant_at pool method)
    × CountsArguments (units_behind pool (member_index (constant_at pool method))) count)
    ⊎ (((opcode ≡ INVOKESPECIAL) ⊎ (opcode ≡ INVOKESTATIC))
    × (IsMethodConstant (constant_at pool method)
    ⊎ ((major ≡ 52) × IsInterfaceConstant (constant_at pool method)))))

-- how many dimensions an array type has
pub record HasDimensions (text : List ℕ) (least : ℕ) : Type 0 where
  pub dimensions : ℕ
  pub element : FieldType
  pub is_element : IsElementType element
  pub enough : least ≤ dimensions
  pub spelled : text ≡ replicate dimensions left_bracket ++ field_type_text element

-- The array type of an anewarray has at most 255 dimensions and, by this project's profile, at most 65,535
-- bytes. A class takes two bytes more than its name, and one more bracket makes the array.
abbrev pub FitsArray : List ℕ → Type 0
FitsArray name =
    ((IsArrayType name) × (¬ HasDimensions name 255) × (length name + 1 ≤ 65535))
    ⊎ ((¬ IsArrayType name) × (length name + 3 ≤ 65535))

-- a local of a kind is below the greatest number of locals
abbrev pub FitsLocal : ℕ → Kind → ℕ → Type 0
FitsLocal max_locals kinds.Long local = local + 2 ≤ max_locals
FitsLocal max_locals kinds.Double local = local + 2 ≤ max_locals
FitsLocal max_locals kind local = local + 1 ≤ max_locals

-- the operands of an instruction, in a class file of this major version
abbrev pub OperandFits : Constants → ℕ → ℕ → Instr → Type 0
OperandFits pool major max_locals (Ldc index) = IsLoadable (constant_at pool index)
OperandFits pool major max_locals (Ldc2 index) = IsLoadable2 (constant_at pool index)
OperandFits pool major max_locals (Load kind local) = FitsLocal max_locals kind local
OperandFits pool major max_locals (Store kind local) = FitsLocal max_locals kind local
OperandFits pool major max_locals (Iinc local by) = FitsLocal max_locals kinds.Int local
OperandFits pool major max_locals (GetStatic index) = IsFieldConstant (constant_at pool index)
OperandFits pool major max_locals (PutStatic index) = IsFieldConstant (constant_at pool index)
OperandFits pool major max_locals (GetField index) = IsFieldConstant (constant_at pool index)
OperandFits pool major max_locals (PutField index) = IsFieldConstant (constant_at pool index)
OperandFits pool major max_locals (Invoke opcode method count) =
    IsCalled pool major opcode method count
OperandFits pool major max_locals (Dynamic index) = IsDynamicConstant (constant_at pool index)
OperandFits pool major max_locals (New index) = IsClassAt pool index
OperandFits pool major max_locals (NewRefArray index) =
    IsClassAt pool index × IfSome (class_at pool index) FitsArray
OperandFits pool major max_locals (NewMulti index dimensions) =
    IsClassAt pool index × IfSome (class_at pool index) (λ name. HasDimensions name dimensions)
OperandFits pool major max_locals (Cast index) = IsClassAt pool index
OperandFits pool major max_locals (InstanceOf index) = IsClassAt pool index
OperandFits pool major max_locals other = Unit {0}

-- ---- the code

-- each target is the start of an instruction
abbrev pub jump_checks : ℕ → List Placed → List Placed → List (Check Fault)
jump_checks start code [] = []
jump_checks start code (p ∷ others) =
    check (start + p.at) rules.Jump (IsTrue (list_all (is_start code) (targets p.instr)))
    ∷ jump_checks start code others

-- the operands of each instruction fit
abbrev pub operand_checks : ℕ → Constants → ℕ → ℕ → List Placed → List (Check Fault)
operand_checks start pool major max_locals [] = []
operand_checks start pool major max_locals (p ∷ others) =
    check (start + p.at) rules.Operand (OperandFits pool major max_locals p.instr)
    ∷ operand_checks start pool major max_locals others

-- an entry of the exception table: a range of instructions that is not empty, up to an instruction or the end,
-- and a handler; and a caught class, or none
pub record IsRange (code : List Placed) (len : ℕ) (handler : Handler) : Type 0 where
  pub some : handler.start < handler.end
  pub start : IsTrue (is_start code handler.start)
  pub end : IsTrue (is_start code handler.end || (handler.end == len))
  pub at : IsTrue (is_start code handler.at)

-- the exception table, from the place of its first entry on
abbrev pub handlers_checks : Constants → List Placed → ℕ → ℕ → List Handler → List (Check Fault)
handlers_checks pool code len at [] = []
handlers_checks pool code len at (handler ∷ handlers) =
    check at rules.Range (IsRange code len handler)
    ∷ check (at + 6) rules.Index ((handler.catch_type ≡ 0) ⊎ IsClassAt pool handler.catch_type)
    ∷ handlers_checks pool code len (at + 8) handlers

-- ---- its attributes

-- the name of the attribute (4.7.4)
abbrev pub stack_map_table : List ℕ
stack_map_table = codes "StackMapTable"

-- the attribute has this name
abbrev pub inner_is_named : Constants → List ℕ → InnerAttr → Bool
inner_is_named pool name attr = is_text name (utf8_at pool attr.name)

-- a fault inside a table, at its place in the file: a missing byte is the table's own
abbrev pub table_fault : ℕ → Fault → Fault
table_fault at f = if f.at == 0 then fault at f.rule else fault (at + 6 + f.at) f.rule

-- what a table that stands at a place gives, its fault at its place in the file
abbrev pub in_table : {X : Type 0} → ℕ → Result X Fault → Result X Fault
in_table at (Ok x) = Ok x
in_table at (Err f) = Err (table_fault at f)

-- The attributes of a code, from a place on: one StackMapTable at most, whose frames are read.
abbrev pub inners_checks : Setting → Frame → Bool → ℕ → List InnerAttr → List (Check Fault)
inners_checks s entry had at [] = []
inners_checks s entry had at (attr ∷ attrs) =
    check at rules.Index (IsSome (utf8_at s.pool attr.name))
    ∷ asked_if (inner_is_named s.pool stack_map_table attr)
    (check at rules.Twice (IsFalse had)
    ∷ asked_of (in_table at (stack_map_table_at s entry attr.bytes)) (λ frames. []))
    ++ inners_checks s entry (had || inner_is_named s.pool stack_map_table attr)
    (at + length (inner_bytes attr)) attrs

-- ---- the entry frame (4.10.1.6)

-- the verification type of a field type, by unit
abbrev pub verification_type : FieldType → VType
verification_type (Named name) = types.Object name
verification_type other = of_kind (kind_of other) where
  of_kind : Kind → VType
  of_kind kinds.Int = types.Int
  of_kind kinds.Long = types.Long
  of_kind kinds.Float = types.Float
  of_kind kinds.Double = types.Double
  of_kind kinds.Ref = types.Top

-- what an uninitialised or initialised this is, if the method has one
abbrev this_type : ℕ → List ℕ → Option (List ℕ) → List VType
this_type flags name class =
    if has flags STATIC then []
    else (if is_text init (Some name) then types.UninitThis ∷ [] else of_class class) where
      of_class : Option (List ℕ) → List VType
      of_class (Some class) = types.Object class ∷ []
      of_class None = types.Top ∷ []

-- the frame that the code of a method of these flags, name, class and parameters begins with
abbrev pub entry_frame : ℕ → List ℕ → Option (List ℕ) → List FieldType → ℕ → Frame
entry_frame flags name class params max_locals =
    record {
      locals = filled max_locals (this_type flags name class ++ map verification_type params);
      stack = [];
    }
