-- Classes whose objects may be kept in local variables. It is this project's profile.
use Rattle.class_tree.specs.Layouts.{chain}
use Rattle.member_link.specs.FieldConstructors.{HasFieldConstructor, field_types}
use Rattle.std.specs.Prelude.{◌≡◌, ◌≤◌, ℕ, Bool, bytes_eq, codes, length, slice_get, Some, IsTrue, IsFalse}
use Rattle.std.specs.List.{AllByRecursion, list_any}
use Rattle.class_model.specs.Descriptors.{parameter_units}
use Rattle.class_model.specs.Header.{header_of}
use Rattle.class_model.specs.Members.{has, ABSTRACT, FINAL}
use Rattle.class_model.specs.Pool.{constant_at}
use Rattle.class_model.specs.declared.class_file.ClassFile.{ClassFile}
use Rattle.class_model.specs.declared.class_file.MethodAt.{MethodAt}
use Rattle.class_model.specs.declared.header.Header.{Header}
use Rattle.class_model.specs.declared.instr.Instr.{Instr}
use Rattle.class_model.specs.declared.instr.Instr.TheVariants.{PutField}
use Rattle.class_model.specs.declared.instr.Placed.{Placed}
use Rattle.class_tree.specs.Headers.{Name, Classes, Headers, headers_of, named}
use Rattle.class_tree.specs.Names.{is_interface, is_member}
use Rattle.expanded_code.specs.Quiet.{IsQuiet}
use Rattle.member_link.specs.DeclaredMembers.{Declared}
use Rattle.member_link.specs.Fields.{FindsField}
use Rattle.member_link.specs.References.{Reference}
use Rattle.member_link.specs.Scope.{Scope, instructions, is_init, scope_at}
use Rattle.member_link.specs.Signatures.{reference_of}

-- ---- finalizers

-- it declares a finalizer (Java Language Specification SE 8, 12.6)
abbrev pub declares_finalizer : Header → Bool
declares_finalizer header = list_any (is_member (codes "finalize") (codes "()V")) header.methods

abbrev pub HasNoFinalizer : Headers → Name → Type 0
HasNoFinalizer headers class =
    (header : Header)
    → named class headers.folder ≡ Some header
    → IsFalse (declares_finalizer header)

-- ---- room for what is added

-- constants and a method may be added to the class file, and its field constructor has a descriptor
pub record HasRoom (classes : Classes) (class : Name) : Type 0 where
  pub constants : (file : ClassFile) (number : ℕ)
      → slice_get classes.folder number ≡ Some file
      → (header_of file).name ≡ class
      → length file.pool ≤ 64535
  pub methods : (file : ClassFile) (number : ℕ)
      → slice_get classes.folder number ≡ Some file
      → (header_of file).name ≡ class
      → length file.methods ≤ 65534
  pub constructor : HasFieldConstructor classes class

-- ---- stores into final fields

-- an instruction of a method stores into an instance field that its constant finds
pub record StoresInto (s : Scope) (instr : Instr) (field : Declared) : Type 0 where
  pub index : ℕ
  pub stores : instr ≡ PutField index
  pub reference : Reference
  pub names : reference_of s.class.pool (constant_at s.class.pool index) ≡ Some reference
  pub finds : FindsField s.headers reference.class reference.name reference.desc (Some field)

-- the method is an instance initialiser of a class
pub record Initialises (s : Scope) (class : Name) : Type 0 where
  pub is_init : IsTrue (is_init s)
  pub own : (header_of s.class).name ≡ class

-- No method of the folder stores into a final field of a chain outside an instance initialiser of the class that declares it.
abbrev pub KeepsFinals : Classes → Name → Type 0
KeepsFinals classes class =
    (at : MethodAt) (s : Scope) (number : ℕ) (placed : Placed) (field : Declared)
    → scope_at classes at ≡ Some s
    → slice_get (instructions s) number ≡ Some placed
    → StoresInto s placed.instr field
    → IsTrue (list_any (bytes_eq field.class) (chain (headers_of classes) class))
    → IsTrue (has field.member.flags FINAL)
    → Initialises s field.class

-- ---- candidates

-- It is quiet, neither abstract nor an interface, and without finalizer; its fields take at most 64 local units; each class of its
-- chain has room for what is added; and its final fields are stored by initialisers alone.
pub record IsCandidate (classes : Classes) (class : Name) : Type 0 where
  pub quiet : IsQuiet (headers_of classes) class
  pub header : Header
  pub found : named class (headers_of classes).folder ≡ Some header
  pub concrete : IsFalse (has header.flags ABSTRACT)
  pub no_interface : IsFalse (is_interface header)
  pub no_finalizer : AllByRecursion (HasNoFinalizer (headers_of classes))
      (chain (headers_of classes) class)
  pub narrow : parameter_units (field_types (headers_of classes) class) ≤ 64
  pub room : AllByRecursion (HasRoom classes) (chain (headers_of classes) class)
  pub finals : KeepsFinals classes class
