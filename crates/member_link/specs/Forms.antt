-- The form that an instruction needs of what it names (JVM Specification SE 8, 6.5): static or not, of a class or of an
-- interface. A class initialiser is named by no constant of a class file.
use Rattle.std.specs.Prelude.{◌≡◌, ℕ, Option, Some, IsTrue, IsFalse}
use Rattle.class_model.specs.Members.{has, PRIVATE, STATIC, ABSTRACT}
use Rattle.class_model.specs.Names.{init}
use Rattle.class_model.specs.declared.header.Header.{Header}
use Rattle.class_model.specs.declared.opcodes.TheConstants.{INVOKESPECIAL, INVOKESTATIC, INVOKEINTERFACE}
use Rattle.class_model.specs.declared.pool.Const.{Const}
use Rattle.class_model.specs.declared.pool.Const.TheVariants.{InterfaceMethodref}
use Rattle.class_tree.specs.Headers.{Name, Headers, class_named}
use Rattle.class_tree.specs.Names.{is_interface}
use Rattle.member_link.specs.DeclaredMembers.{Declared}
use Rattle.member_link.specs.References.{Reference}

-- static, or not
abbrev pub IsStaticForm : Declared → Type 0
IsStaticForm member = IsTrue (has member.member.flags STATIC)

abbrev pub IsInstanceForm : Declared → Type 0
IsInstanceForm member = IsFalse (has member.member.flags STATIC)

-- an interface; a class that is none, or an array
abbrev pub IsInterfaceNamed : Headers → Name → Type 0
IsInterfaceNamed headers name =
    (header : Header) × (class_named headers name ≡ Some header) × IsTrue (is_interface header)

abbrev pub IsClassNamed : Headers → Name → Type 0
IsClassNamed headers name =
    (header : Header) → class_named headers name ≡ Some header → IsFalse (is_interface header)

-- an InterfaceMethodref names a method of an interface, and a Methodref one of a class
abbrev pub FitsKind : Headers → Option Const → Name → Type 0
FitsKind headers (Some (InterfaceMethodref class member)) name = IsInterfaceNamed headers name
FitsKind headers constant name = IsClassNamed headers name

-- what a call needs, by its opcode: that of an invokevirtual, invokespecial, invokestatic or invokeinterface
pub record FitsCall (headers : Headers) (opcode : ℕ) (constant : Option Const)
    (reference : Reference) (method : Declared) : Type 0 where
  pub of_static : opcode ≡ INVOKESTATIC → IsStaticForm method
  pub of_instance : ¬ (opcode ≡ INVOKESTATIC) → IsInstanceForm method
  pub kind : FitsKind headers constant reference.class
  pub initialiser : reference.name ≡ init → opcode ≡ INVOKESPECIAL
  pub no_private : opcode ≡ INVOKEINTERFACE → IsFalse (has method.member.flags PRIVATE)

-- a class of which new makes objects: neither abstract nor an interface, and no array
pub record IsInstantiable (headers : Headers) (name : Name) : Type 0 where
  pub header : Header
  pub found : class_named headers name ≡ Some header
  pub concrete : IsFalse (has header.flags ABSTRACT)
  pub no_interface : IsFalse (is_interface header)
