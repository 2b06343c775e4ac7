-- The smallest library that linking accepts (JVM Specification SE 8, 4.10.1 and 6.5): the classes that the machine
-- knows, and L, whose two static methods take any object.
use Rattle.std.specs.Prelude.{◌≡◌, ℕ, List, [], ◌∷◌, ◌++◌, map, filter, codes, Option, Some, None, Ok}
use Rattle.std.specs.List.{AllByRecursion}
use Rattle.class_model.specs.ClassOf.{ClassOf}
use Rattle.class_model.specs.Header.{header_of}
use Rattle.class_model.specs.Instructions.{decoded}
use Rattle.class_model.specs.Members.{is_text}
use Rattle.class_model.specs.Names.{init}
use Rattle.class_model.specs.Pool.{Constants, constant_at}
use Rattle.class_model.specs.PoolChecks.{utf8_at, class_at, name_at, descriptor_at}
use Rattle.class_model.specs.Spelling.{class_bytes}
use Rattle.class_model.specs.declared.class_file.Attr.{Attr}
use Rattle.class_model.specs.declared.class_file.Attr.TheVariants.{Code}
use Rattle.class_model.specs.declared.class_file.ClassFile.{ClassFile}
use Rattle.class_model.specs.declared.class_file.CodePart.{CodePart}
use Rattle.class_model.specs.declared.class_file.Method.{Method}
use Rattle.class_model.specs.declared.descriptor.Kind.TheVariants.{Ref}
use Rattle.class_model.specs.declared.header.Header.{Header}
use Rattle.class_model.specs.declared.header.Member.{Member}
use Rattle.class_model.specs.declared.instr.Instr.{Instr}
use Rattle.class_model.specs.declared.instr.Instr.TheVariants.{Load, Invoke, Return}
use Rattle.class_model.specs.declared.instr.Placed.{Placed}
use Rattle.class_model.specs.declared.opcodes.TheConstants.{INVOKESPECIAL}
use Rattle.class_model.specs.declared.pool.Const.TheVariants.{Methodref}
use Rattle.class_tree.specs.Headers.{Name}
use Rattle.class_tree.specs.Names.{object, cloneable, serializable, throwable, method_handle, method_type, machine_throwables}

-- ---- the table of headers

abbrev pub no_parameters : List ℕ
no_parameters = codes "()V"

abbrev pub takes_object : List ℕ
takes_object = codes "(Ljava/lang/Object;)V"

abbrev pub gives_object : List ℕ
gives_object = codes "()Ljava/lang/Object;"

abbrev pub member : ℕ → List ℕ → List ℕ → Member
member flags name desc = record { flags = flags; name = name; desc = desc }

-- a public constructor without parameters
abbrev pub constructor : Member
constructor = member 0x0001 init no_parameters

-- Flags, superclass and methods: no class of the library has an interface or a field.
abbrev pub class : Name → ℕ → Option Name → List Member → Header
class name flags super_name methods =
    record { name = name; flags = flags; super_name = super_name; interfaces = []; fields = []; methods = methods }

-- public, interface, abstract
abbrev pub interface : Name → Header
interface name = class name 0x0601 (Some object) []

-- public, final
abbrev pub final : Name → Header
final name = class name 0x0031 (Some object) []

-- public
abbrev pub plain : Name → Header
plain name = class name 0x0021 (Some object) []

abbrev pub thrown_header : Name → Name → Header
thrown_header super_name name = class name 0x0021 (Some super_name) (constructor ∷ [])

-- clone and finalize are protected and native
abbrev pub root_header : Header
root_header =
    class object 0x0021 None
    (constructor ∷ member 0x0104 (codes "clone") gives_object
    ∷ member 0x0104 (codes "finalize") no_parameters ∷ [])

-- use and keep are public, static and native
abbrev pub keeper_header : Header
keeper_header =
    class (codes "L") 0x0021 (Some object)
    (member 0x0109 (codes "use") takes_object ∷ member 0x0109 (codes "keep") takes_object ∷ [])

-- those of the classes but for the throwables that instructions raise
abbrev pub named_headers : List Header
named_headers =
    root_header
    ∷ interface cloneable
    ∷ interface serializable
    ∷ final (codes "java/lang/String")
    ∷ final (codes "java/lang/Class")
    ∷ plain method_handle
    ∷ plain method_type
    ∷ keeper_header
    ∷ thrown_header object throwable
    ∷ []

abbrev pub base_headers : List Header
base_headers = named_headers ++ map (thrown_header throwable) machine_throwables

-- ---- the code of constructors

abbrev placed : ℕ → ℕ → Instr → Placed
placed at len instr = record { at = at; len = len; instr = instr }

-- return
abbrev returns : List Placed
returns = placed 0 1 (Return None) ∷ []

-- aload_0, invokespecial, return
abbrev calls : ℕ → List Placed
calls constant =
    placed 0 1 (Load Ref 0) ∷ placed 1 3 (Invoke INVOKESPECIAL constant 0)
    ∷ placed 4 1 (Return None) ∷ []

-- the constant is the constructor without parameters of this class
pub record NamesConstructor (pool : Constants) (constant : ℕ) (name : Name) : Type 0 where
  pub owner : ℕ
  pub member : ℕ
  pub is_method : constant_at pool constant ≡ Some (Methodref owner member)
  pub is_owner : class_at pool owner ≡ Some name
  pub is_init : name_at pool member ≡ Some init
  pub is_void : descriptor_at pool member ≡ Some no_parameters

-- So many stack entries, one local for this, no handler and no attribute.
pub record HasSizes (part : CodePart) (stack : ℕ) : Type 0 where
  pub max_stack : part.max_stack ≡ stack
  pub max_locals : part.max_locals ≡ 1
  pub handlers : part.handlers ≡ []
  pub attrs : part.attrs ≡ []

pub record Returns (part : CodePart) : Type 0 where
  pub sizes : HasSizes part 0
  pub code : decoded part.code ≡ Ok returns

pub record CallsConstructor (pool : Constants) (name : Name) (part : CodePart) : Type 0 where
  pub sizes : HasSizes part 1
  pub constant : ℕ
  pub named : NamesConstructor pool constant name
  pub code : decoded part.code ≡ Ok (calls constant)

-- Object's constructor returns, and each other one calls that of its superclass before.
abbrev pub IsConstructorCode : Constants → Option Name → CodePart → Type 0
IsConstructorCode pool None part = Returns part
IsConstructorCode pool (Some super_name) part = CallsConstructor pool super_name part

-- the one attribute is such code
abbrev pub HasCode : ClassFile → List Attr → Type 0
HasCode c (Code name part ∷ []) = IsConstructorCode c.pool (class_at c.pool c.super_class) part
HasCode c others = ⊥

abbrev pub constructors : ClassFile → List Method
constructors c = filter (λ method. is_text init (utf8_at c.pool method.name)) c.methods

-- ---- the library

-- A class file of version 52.0, whose constructors have such code.
pub record IsBaseClass (c : ClassFile) : Type 0 where
  pub major : c.major ≡ 52
  pub minor : c.minor ≡ 0
  pub file : ClassOf (class_bytes c) c
  pub code : AllByRecursion (λ method. HasCode c method.attrs) (constructors c)

pub record IsBaseLibrary (classes : List ClassFile) : Type 0 where
  pub headers : map header_of classes ≡ base_headers
  pub each : AllByRecursion IsBaseClass classes
