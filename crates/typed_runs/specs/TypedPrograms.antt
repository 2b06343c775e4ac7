-- A program that is typed: its folder is linked with its library, and each method with code has fitting frames (JVM Specification SE 8,
-- 4.10 and 5.4).
use Rattle.std.specs.Prelude.{◌≡◌, ℕ, [], ◌∷◌, length, map, slice_get, codes, Some, None, IsTrue, IsFalse}
use Rattle.std.specs.List.{AllByRecursion}
use Rattle.class_model.specs.Code.{entry_frame}
use Rattle.class_model.specs.Descriptors.{kind_of, parameters_of, type_of}
use Rattle.class_model.specs.Members.{has, STATIC}
use Rattle.class_model.specs.Names.{clinit, init}
use Rattle.class_model.specs.declared.class_file.MethodAt.{MethodAt}
use Rattle.class_model.specs.declared.descriptor.FieldType.{FieldType}
use Rattle.class_model.specs.declared.descriptor.FieldType.TheVariants as types
use Rattle.class_model.specs.declared.descriptor.Kind.TheVariants as kinds
use Rattle.class_model.specs.declared.frame.Frame.{Frame}
use Rattle.class_model.specs.declared.header.Header.{Header}
use Rattle.class_model.specs.declared.header.Member.{Member}
use Rattle.class_tree.specs.Headers.{Name, class_named}
use Rattle.class_tree.specs.Hierarchy.{IsHierarchy}
use Rattle.class_tree.specs.Names.{object, cloneable, serializable, throwable, machine_throwables, is_interface}
use Rattle.class_tree.specs.Steps.{supers}
use Rattle.machine_values.specs.Values.{has_kind}
use Rattle.member_link.specs.Machine.Links.{AreLinksOf}
use Rattle.member_link.specs.Machine.Programs.{Program, RunClass, RunMethod, Code, Point, StartValue, start_value, start_string, StaticStart, headers_in, folder_number, name_of_class, is_interface_named, run_method, code_run}
use Rattle.member_link.specs.Machine.Worlds.{field_desc}
use Rattle.member_link.specs.Signatures.{result_of}
use Rattle.typed_runs.specs.TypedPoints.{Typing, LeadsTo, TypedPoint, IsOfLibrary}

-- how the code of each method is typed
abbrev pub Typings : Type 0
Typings = MethodAt → Typing

-- ---- methods

-- the frame that the code of a method begins with
abbrev pub entry : Program → MethodAt → Member → Code → Frame
entry P at member code =
    entry_frame member.flags member.name (Some (name_of_class P at.class))
    (parameters_of member.desc) code.locals

-- The code of a method is typed by what the method declares, and a frame that its arguments begin with leads to its first point.
pub record IsTypedMethod (P : Program) (at : MethodAt) (member : Member) (code : Code)
    (t : Typing)
    : Type 0 where
  pub headers : t.scope.headers ≡ headers_in P
  pub own : t.scope.own.name ≡ name_of_class P at.class
  pub result : t.scope.result ≡ result_of member.desc
  pub one_each : length t.frames ≡ length code.points
  pub entry_leads : LeadsTo t 0 (entry P at member code)
  pub points : (number : ℕ) (point : Point)
      → slice_get code.points number ≡ Some point
      → TypedPoint P t number point

-- ---- classes

-- a number of the field's kind, or a string
abbrev pub FitsStart : FieldType → StartValue → Type 0
FitsStart type (start_value value) =
    IsTrue (has_kind (kind_of type) value) × IsFalse (has_kind kinds.Ref value)
FitsStart type (start_string text) = type ≡ types.Named (codes "java/lang/String")

abbrev pub IsTypedStart : Program → ℕ → StaticStart → Type 0
IsTypedStart P class start = FitsStart (type_of (field_desc P class start.field)) start.value

-- what the flags of a method's member say: an instance initialiser has an object, and a class initialiser has none
pub record FitsFlags (member : Member) : Type 0 where
  pub of_init : member.name ≡ init → IsFalse (has member.flags STATIC)
  pub of_clinit : member.name ≡ clinit → IsTrue (has member.flags STATIC)

-- a class of the folder: its methods are those of its header, an interface's fields are static, and static fields begin with values of
-- their types
pub record IsTypedClass (P : Program) (number : ℕ) (class : RunClass) : Type 0 where
  pub methods : map (λ method. method.member) class.methods ≡ class.header.methods
  pub flags : AllByRecursion FitsFlags class.header.methods
  pub of_interface :
      IsTrue (is_interface class.header)
      → AllByRecursion (λ field. IsTrue (has field.flags STATIC)) class.header.fields
  pub starts : AllByRecursion (IsTypedStart P number) class.starts

-- ---- the library

-- What the machine needs of the library: the classes of objects that it makes are there and no class of the folder, its
-- throwables are throwables, what arrays are below is an interface or java/lang/Object, and what is above a class of the library
-- is of the library too.
pub record HasBase (P : Program) : Type 0 where
  pub of_object : IsOfLibrary P object
  pub of_strings : IsOfLibrary P (codes "java/lang/String")
  pub of_classes : IsOfLibrary P (codes "java/lang/Class")
  pub of_throwables :
      AllByRecursion (λ name. IsOfLibrary P name × IsTrue (P.links.below name throwable))
      machine_throwables
  pub of_arrays :
      AllByRecursion (λ name. IsTrue (is_interface_named P name)) (cloneable ∷ serializable ∷ [])
  pub leans_on_itself : (name : Name) (header : Header)
      → class_named (headers_in P) name ≡ Some header
      → folder_number P name ≡ None
      → AllByRecursion (λ above. folder_number P above ≡ None) (supers header)

-- ---- the whole

pub record IsTypedProgram (P : Program) (T : Typings) : Type 0 where
  pub hierarchy : IsHierarchy (headers_in P)
  pub links : AreLinksOf (headers_in P) P.links
  pub base : HasBase P
  pub classes : (number : ℕ) (class : RunClass)
      → slice_get P.classes number ≡ Some class
      → IsTypedClass P number class
  pub methods : (at : MethodAt) (method : RunMethod) (code : Code)
      → run_method P at ≡ Some method
      → code_run method ≡ Some code
      → IsTypedMethod P at method.member code (T at)
