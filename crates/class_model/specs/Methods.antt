-- What methods and the attributes of the class are asked (JVM Specification SE 8, 4.6, 4.7.3, 4.7.23), in file order.
use Rattle.std.specs.Prelude.{◌&&◌, ◌||◌, not, ◌+◌, ◌*◌, ◌≤◌, nat_lt, ℕ, Bool, false, List, [], ◌∷◌, ◌++◌, length, codes, Option, Some, None, Result, Ok, Err, IfSome, IsSome, IsTrue, IsFalse, if◌then◌else◌}
use Rattle.class_model.specs.Checks.{Check, check, Fault, fault, asked_of, asked_if, ◌>>=◌}
use Rattle.class_model.specs.Code.{code_part, jump_checks, operand_checks, handlers_checks, inners_checks, entry_frame}
use Rattle.class_model.specs.Cutting.{Rest, Cut, whole, u2_at, counted_at}
use Rattle.class_model.specs.Descriptors.{SpellsDescriptor, parameter_units, parameters_of}
use Rattle.class_model.specs.Frames.{Setting}
use Rattle.class_model.specs.Instructions.{decoded}
use Rattle.class_model.specs.Members.{Signature, has, STATIC, NATIVE, INTERFACE, ABSTRACT, one_visibility, is_text, is_named, has_named, stands_before, attrs_checks, attr_name_check, raw_content}
use Rattle.class_model.specs.Names.{init, clinit, IsMethodName}
use Rattle.class_model.specs.Pool.{Constants, constant_at}
use Rattle.class_model.specs.PoolChecks.{utf8_at, text_or_empty, InitIsVoid, class_at}
use Rattle.class_model.specs.declared.class_file.ClassFile.{ClassFile}
use Rattle.class_model.specs.declared.class_file.Attr.{Attr}
use Rattle.class_model.specs.declared.class_file.Attr.TheVariants.{Raw, Code}
use Rattle.class_model.specs.declared.class_file.CodePart.{CodePart}
use Rattle.class_model.specs.declared.class_file.Method.{Method}
use Rattle.class_model.specs.declared.descriptor.Descriptor.{Descriptor}
use Rattle.class_model.specs.declared.fault.FileRule.TheVariants as rules
use Rattle.class_model.specs.declared.frame.Frame.{Frame}
use Rattle.class_model.specs.declared.instr.Placed.{Placed}
use Rattle.class_model.specs.declared.pool.Const.{Const}
use Rattle.class_model.specs.declared.pool.Const.TheVariants as consts

-- The class that a method stands in: its pool, its major version, its flags and its name.
pub record Home : Type 0 where
  pub pool : Constants
  pub major : ℕ
  pub flags : ℕ
  pub name : Option (List ℕ)

-- what the methods of a class file stand in
abbrev pub home_of : ClassFile → Home
home_of c = record {
  pool = c.pool;
  major = c.major;
  flags = c.flags;
  name = class_at c.pool c.this_class;
}

-- the name of the attribute (4.7.3)
abbrev pub code : List ℕ
code = codes "Code"

abbrev has_code : Home → Method → Bool
has_code home method = has_named home.pool code method.attrs

-- ---- flags (4.6)

-- A class initialiser is static, and its descriptor is ()V; this is this project's profile.
abbrev fits_clinit : Home → Method → Bool
fits_clinit home method =
    has method.flags STATIC && is_text (codes "()V") (utf8_at home.pool method.desc)

-- an instance initialiser is not static, abstract or native, and does not stand in an interface
abbrev fits_init : Home → Method → Bool
fits_init home method =
    not (has method.flags STATIC)
    && not (has method.flags ABSTRACT)
    && not (has method.flags NATIVE)
    && not (has home.flags INTERFACE)

-- below version 52 no method of an interface has code, and no method is both static and abstract; a class
-- initialiser is asked neither
abbrev fits_other : Home → Method → Bool
fits_other home method =
    not (nat_lt home.major 52 && has home.flags INTERFACE && has_code home method)
    && not (has method.flags STATIC && has method.flags ABSTRACT)

-- the flags of a method: what is asked of each, and of an initialiser (2.9)
abbrev pub fits_method : Home → Method → Bool
fits_method home method =
    let name = utf8_at home.pool method.name in
    one_visibility method.flags
    && (if is_text clinit name then fits_clinit home method else fits_other home method)
    && (not (is_text init name) || fits_init home method)

-- ---- descriptors

-- The parameters take at most 255 units, this counted where the method is not static.
abbrev pub this_units : ℕ → ℕ
this_units flags = if has flags STATIC then 0 else 1

-- the text is the descriptor of a method with these flags (4.3.3)
pub record IsDescriptorOf (flags : ℕ) (text : List ℕ) : Type 0 where
  pub descriptor : Descriptor
  pub spelled : SpellsDescriptor text descriptor
  pub units : parameter_units descriptor.params + this_units flags ≤ 255

-- ---- code

-- the parameters' units, this counted where there is one
abbrev pub units_at_call : ℕ → List ℕ → ℕ
units_at_call flags text = parameter_units (parameters_of text) + this_units flags

-- a fault of a code, at its place in the file
abbrev pub placed_at : {X : Type 0} → ℕ → Result X Fault → Result X Fault
placed_at start (Ok x) = Ok x
placed_at start (Err f) = Err (fault (start + f.at) f.rule)

-- the frame that a method's code begins with
abbrev pub entry_of : Home → Method → CodePart → Frame
entry_of home method part =
    entry_frame method.flags (text_or_empty (utf8_at home.pool method.name)) home.name
    (parameters_of (text_or_empty (utf8_at home.pool method.desc))) part.max_locals

-- what is asked of a code's instructions, its exception table and its attributes; at is the place of the attribute
abbrev pub instructions_checks : Home → Method → ℕ → CodePart → List Placed → List (Check Fault)
instructions_checks home method at part instrs =
    let start = at + 14 in
    let table = start + length part.code + 2 in
    let inners = table + 8 * length part.handlers + 2 in
    let setting : Setting = record {
      pool = home.pool;
      max_locals = part.max_locals;
      max_stack = part.max_stack;
      code = instrs;
    } in
    jump_checks start instrs instrs
    ++ operand_checks start home.pool home.major part.max_locals instrs
    ++ handlers_checks home.pool instrs (length part.code) table part.handlers
    ++ inners_checks setting (entry_of home method part) false inners part.attrs

-- what is asked of the parts of a Code attribute at a place
abbrev pub part_checks : Home → Method → ℕ → CodePart → List (Check Fault)
part_checks home method at part =
    check (at + 10) rules.CodeLength (IsTrue
    (nat_lt 0 (length part.code) && nat_lt (length part.code) 65536))
    ∷ check (at + 8) rules.Locals (IfSome (utf8_at home.pool method.desc)
    (λ text. units_at_call method.flags text ≤ part.max_locals))
    ∷ asked_of (placed_at (at + 14) (decoded part.code)) (instructions_checks home method at part)

-- what is asked of the content of a Code attribute: that its structure fills it, and then of its parts
abbrev pub content_checks : Home → Method → ℕ → Option CodePart → List (Check Fault)
content_checks home method at None = check at rules.Attribute ⊥ ∷ []
content_checks home method at (Some part) = part_checks home method at part

-- the parts of a Code attribute, if its content has them
abbrev pub code_content : Attr → Option CodePart
code_content (Raw name bytes) = code_part bytes
code_content (Code name part) = Some part

-- an attribute of a method: Code stands once
abbrev pub method_attr_checks : Home → Method → List Attr → ℕ → Attr → List (Check Fault)
method_attr_checks home method before at attr =
    attr_name_check home.pool at attr
    ∷ asked_if (is_named home.pool code attr)
    (check at rules.Twice (IsFalse (has_named home.pool code before))
    ∷ content_checks home method at (code_content attr))

-- ---- methods

-- the indices of a method's name and descriptor
abbrev pub method_signature : Method → Signature
method_signature method = record { name = method.name; desc = method.desc }

-- a method that is neither abstract nor native has code, and one that is has none
abbrev lacks_code : Method → Bool
lacks_code method = has method.flags ABSTRACT || has method.flags NATIVE

-- a method at a place, behind methods of these names
abbrev pub method_checks : Home → List Signature → ℕ → Method → List (Check Fault)
method_checks home before at method =
    check at rules.Flags (IsTrue (fits_method home method))
    ∷ check at rules.Twice (IsFalse (stands_before home.pool before (method_signature method)))
    ∷ check at rules.NoCode (IsTrue (lacks_code method || has_code home method))
    ∷ check at rules.HasCode (IsTrue (not (lacks_code method) || not (has_code home method)))
    ∷ check (at + 2) rules.Index (IsSome (utf8_at home.pool method.name))
    ∷ check (at + 2) rules.Name (IfSome (utf8_at home.pool method.name)
    (λ name. IsMethodName name × InitIsVoid name (utf8_at home.pool method.desc)))
    ∷ check (at + 4) rules.Index (IsSome (utf8_at home.pool method.desc))
    ∷ check (at + 4) rules.Descriptor
    (IfSome (utf8_at home.pool method.desc) (IsDescriptorOf method.flags))
    ∷ attrs_checks (method_attr_checks home method) [] (at + 8) method.attrs

-- ---- the attributes of the class (4.7.23)

-- a bootstrap method: a method handle and its arguments
pub record Bootstrap : Type 0 where
  pub handle : ℕ
  pub arguments : List ℕ

-- an entry of BootstrapMethods
abbrev pub bootstrap_at : Rest → Cut Bootstrap
bootstrap_at rest = do
  handle ← u2_at rest
  arguments ← counted_at u2_at handle.1
  Ok (record { handle = handle.0; arguments = arguments.0 }, arguments.1)

-- the content of a BootstrapMethods attribute, if its counts fill it
abbrev pub bootstraps : List ℕ → Option (List Bootstrap)
bootstraps content = whole (counted_at bootstrap_at (record { at = 0; bytes = content }))

-- a constant that is a method handle
abbrev pub IsHandle : Option Const → Type 0
IsHandle (Some (consts.MethodHandle kind reference)) = Unit {0}
IsHandle other = ⊥

-- a constant that may be an argument of a bootstrap method
abbrev pub IsArgument : Option Const → Type 0
IsArgument (Some (consts.String text)) = Unit {0}
IsArgument (Some (consts.Class name)) = Unit {0}
IsArgument (Some (consts.Integer number)) = Unit {0}
IsArgument (Some (consts.Long number)) = Unit {0}
IsArgument (Some (consts.Float bits)) = Unit {0}
IsArgument (Some (consts.Double bits)) = Unit {0}
IsArgument (Some (consts.MethodHandle kind reference)) = Unit {0}
IsArgument (Some (consts.MethodType descriptor)) = Unit {0}
IsArgument other = ⊥

-- the arguments of a bootstrap method, from the place of the first on
abbrev pub arguments_checks : Constants → ℕ → List ℕ → List (Check Fault)
arguments_checks pool at [] = []
arguments_checks pool at (index ∷ indices) =
    check at rules.Index (IsArgument (constant_at pool index))
    ∷ arguments_checks pool (at + 2) indices

-- bootstrap methods, from the place of the first on
abbrev pub bootstraps_checks : Constants → ℕ → List Bootstrap → List (Check Fault)
bootstraps_checks pool at [] = []
bootstraps_checks pool at (b ∷ others) =
    check at rules.Index (IsHandle (constant_at pool b.handle))
    ∷ arguments_checks pool (at + 4) b.arguments
    ++ bootstraps_checks pool (at + 4 + 2 * length b.arguments) others

-- the content of a BootstrapMethods attribute at a place
abbrev pub bootstrap_table_checks : Constants → ℕ → Option (List Bootstrap) → List (Check Fault)
bootstrap_table_checks pool at None = check at rules.Attribute ⊥ ∷ []
bootstrap_table_checks pool at (Some methods) = bootstraps_checks pool (at + 8) methods

-- the name of the attribute
abbrev pub bootstrap_methods : List ℕ
bootstrap_methods = codes "BootstrapMethods"

-- an attribute of the class: BootstrapMethods stands once, and its counts and indices fit
abbrev pub class_attr_checks : Constants → List Attr → ℕ → Attr → List (Check Fault)
class_attr_checks pool before at attr =
    attr_name_check pool at attr
    ∷ asked_if (is_named pool bootstrap_methods attr)
    (check at rules.Twice (IsFalse (has_named pool bootstrap_methods before))
    ∷ bootstrap_table_checks pool at (bootstraps (raw_content attr)))

-- how many bootstrap methods the attributes of a class have
abbrev pub bootstrap_count : Constants → List Attr → ℕ
bootstrap_count pool [] = 0
bootstrap_count pool (attr ∷ attrs) =
    if is_named pool bootstrap_methods attr then counted (bootstraps (raw_content attr))
    else bootstrap_count pool attrs where
      counted : Option (List Bootstrap) → ℕ
      counted None = 0
      counted (Some methods) = length methods
