-- The program in which methods run written code, and classes have the field constructors that it calls. It is this project's profile.
use Rattle.std.specs.Prelude.{◌≡◌, ◌≢◌, ◌⊎◌, ◌↔◌, ◌+◌, ℕ, true, false, List, [], ◌∷◌, bytes_eq, codes, map, slice_get, Option, Some, None, option_and_then, IsTrue, IsFalse}
use Rattle.std.specs.List.{AllByRecursion, list_any}
use Rattle.class_model.specs.Header.{header_of}
use Rattle.class_model.specs.Members.{FINAL, PRIVATE, PUBLIC, STATIC, has}
use Rattle.class_model.specs.Names.{init}
use Rattle.class_model.specs.declared.class_file.ClassFile.{ClassFile}
use Rattle.class_model.specs.declared.class_file.MethodAt.{MethodAt}
use Rattle.class_model.specs.declared.header.Header.{Header}
use Rattle.class_model.specs.declared.header.Member.{Member}
use Rattle.class_model.specs.declared.instr.Instr.TheVariants.{GetField, PutField}
use Rattle.class_model.specs.declared.opcodes.TheConstants.{INVOKESPECIAL}
use Rattle.class_tree.specs.Headers.{Name, Classes, headers_of}
use Rattle.class_tree.specs.Layouts.{chain, instance_fields}
use Rattle.class_tree.specs.Names.{object}
use Rattle.flow_code.specs.FlatCode.{FlatCode}
use Rattle.flow_code.specs.declared.point.Site.{Site}
use Rattle.making_code.specs.ConstructorCode.{SYNTHETIC}
use Rattle.making_code.specs.FieldConstructor.{CInstr, calls_constructor, calls_object, constructor_items, puts_field, simple, units_of_fields}
use Rattle.making_code.specs.Items.{WInstr, WItem, carried, makes}
use Rattle.member_link.specs.FieldConstructors.{HasDimensions, constructor_descriptor}
use Rattle.member_link.specs.Machine.Codes.{call_op, initialises, instr_op}
use Rattle.member_link.specs.Machine.Ops.{Op, put_field}
use Rattle.member_link.specs.Machine.Programs.{Code, Links, Point, RunMethod}
use Rattle.member_link.specs.Machine.Replaced.{Replacement}
use Rattle.member_link.specs.References.{Reference}
use Rattle.member_link.specs.RowScope.{RowScope}
use Rattle.member_link.specs.Scope.{Scope, scope_at}
use Rattle.plan_flow.specs.PlanScope.{PlanScope, field_of, scope_of}
use Rattle.plan_flow.specs.Written.Blocks.{blocks_of}
use Rattle.plan_flow.specs.Written.Finish.{Finished, finish}
use Rattle.plan_flow.specs.Written.Routes.{Routes}
use Rattle.plan_flow.specs.Written.WrittenCode.{Form, written_code, written_items}

-- ---- field constructors

-- what an instruction of a field constructor does, by what the rows of its method read
abbrev pub constructor_op : Links → RowScope → (Name → List ℕ) → CInstr → Op
constructor_op links scope constructor (simple instr) = instr_op links (λ number. number) scope instr
constructor_op links scope constructor calls_object =
    call_op links scope INVOKESPECIAL
    (record { class = object; name = init; desc = codes "()V" })
constructor_op links scope constructor (calls_constructor class) =
    call_op links scope INVOKESPECIAL
    (record { class = class; name = init; desc = constructor class })
constructor_op links scope constructor (puts_field class name desc) =
    put_field (record { class = class; name = name; desc = desc })
    (initialises scope.is_init scope.own)

-- what they read: the constructor is an instance initialiser of its class
abbrev pub constructor_scope : Classes → ClassFile → RowScope
constructor_scope classes file = record {
  headers = headers_of classes;
  pool = file.pool;
  major = file.major;
  own = header_of file;
  is_init = true;
  is_clinit = false;
  result = None;
  max_stack = 0;
  new_class = λ place. None;
}

abbrev pub constructor_point :
    Links → RowScope → (Name → List ℕ) → CInstr → Point
constructor_point links scope constructor instr =
    record { op = constructor_op links scope constructor instr; catches = [] }

-- The object, its fields, and the array that is always null.
abbrev pub constructor_code : Classes → Links → (Name → List ℕ) → ClassFile → Code
constructor_code classes links constructor file = record {
  locals = 1 + units_of_fields (instance_fields (headers_of classes) (header_of file).name) + 1;
  points = map (constructor_point links (constructor_scope classes file) constructor)
      (constructor_items (headers_of classes) (header_of file).name);
}

-- it is public and synthetic (JVM Specification SE 8, 4.6)
abbrev pub constructor_method : Classes → Links → (Name → List ℕ) → ClassFile → RunMethod
constructor_method classes links constructor file = record {
  member = record {
    flags = PUBLIC + SYNTHETIC;
    name = init;
    desc = constructor (header_of file).name;
  };
  code = Some (constructor_code classes links constructor file);
}

-- the descriptors of the field constructors of classes that may have one
abbrev pub GivesConstructors : Classes → (Name → List ℕ) → Type 0
GivesConstructors classes constructor =
    (class : Name) (dimensions : ℕ)
    → HasDimensions classes class dimensions
    → constructor class ≡ constructor_descriptor (headers_of classes) class dimensions

-- ---- written methods

-- What is written in place of a method's code: by its flat code, the routes of a plan of it, and the form of its jumps.
pub record WrittenMethod : Type 0 where
  pub flat : FlatCode
  pub routes : Routes
  pub form : Form

-- the methods that are rewritten, by their numbers
abbrev pub WrittenMethods : Type 0
WrittenMethods = MethodAt → Option WrittenMethod

abbrev pub plan_scope : Classes → Links → WrittenMethod → PlanScope
plan_scope classes links one = scope_of classes links one.flat

abbrev pub finished_of : Classes → Links → WrittenMethod → List Finished
finished_of classes links one =
    finish one.flat (blocks_of (plan_scope classes links one) one.routes)

abbrev pub items_of : Classes → Links → WrittenMethod → List WItem
items_of classes links one = written_items one.form (finished_of classes links one)

abbrev pub written_body :
    Classes → Links → (Name → List ℕ) → WrittenMethods → MethodAt → Option Code
written_body classes links constructor written at =
    option_and_then (λ one. of_scope one (scope_at classes at)) (written at) where
      of_scope : WrittenMethod → Option Scope → Option Code
      of_scope one None = None
      of_scope one (Some host) =
          Some (written_code (plan_scope classes links one) host constructor one.form
          (finished_of classes links one))

-- ---- the program

-- a method is rewritten, and its code makes objects of a class
pub record MakesClass (classes : Classes) (links : Links) (written : WrittenMethods) (class : Name)
    : Type 0 where
  pub at : MethodAt
  pub one : WrittenMethod
  pub is_written : written at ≡ Some one
  pub number : ℕ
  pub item : WItem
  pub is_item : slice_get (items_of classes links one) number ≡ Some item
  pub makes_it : item.instr ≡ makes class

-- the class of this name has its field constructor
pub record HasConstructor (classes : Classes) (links : Links) (constructor : Name → List ℕ)
    (s : Replacement) (class : Name)
    : Type 0 where
  pub number : ℕ
  pub file : ClassFile
  pub is_file : slice_get classes.folder number ≡ Some file
  pub named : (header_of file).name ≡ class
  pub added : s.added number ≡ constructor_method classes links constructor file ∷ []

-- to a class nothing is added, or its field constructor
abbrev pub AddsConstructor :
    Classes → Links → (Name → List ℕ) → ClassFile → List RunMethod → Type 0
AddsConstructor classes links constructor file added =
    (added ≡ []) ⊎ (added ≡ constructor_method classes links constructor file ∷ [])

-- ---- flags of fields

-- the instance field of these numbers, of a class of the folder
pub record IsFieldOf (classes : Classes) (class number : ℕ) (field : Reference) (member : Member)
    : Type 0 where
  pub header : Header
  pub of_folder : slice_get (headers_of classes).folder class ≡ Some header
  pub declared : slice_get header.fields number ≡ Some member
  pub named : field ≡ record { class = header.name; name = member.name; desc = member.desc }
  pub instance : IsFalse (has member.flags STATIC)

-- a written instruction stores into a field; or it reads it, or stores into it
pub data StoresField (s : PlanScope) (field : Reference) : WInstr → Type 0 where
  stores : (class index : ℕ)
      → field_of s class index ≡ Some field
      → StoresField s field (carried class (PutField index))

pub data UsesField (s : PlanScope) (field : Reference) : WInstr → Type 0 where
  writes : (class index : ℕ)
      → field_of s class index ≡ Some field
      → UsesField s field (carried class (PutField index))
  reads : (class index : ℕ)
      → field_of s class index ≡ Some field
      → UsesField s field (carried class (GetField index))

-- Written code stores into a final field of the chain of a class of one of its method's sites: outside of instance initialisers, as all written
-- code is.
pub record ClearsFinal (classes : Classes) (links : Links) (written : WrittenMethods)
    (class number : ℕ)
    : Type 0 where
  pub field : Reference
  pub member : Member
  pub is_field : IsFieldOf classes class number field member
  pub final : IsTrue (has member.flags FINAL)
  pub at : MethodAt
  pub one : WrittenMethod
  pub is_written : written at ≡ Some one
  pub of : ℕ
  pub site : Site
  pub is_site : slice_get one.flat.sites of ≡ Some site
  pub of_chain : IsTrue (list_any (bytes_eq field.class) (chain (headers_of classes) site.class))
  pub place : ℕ
  pub item : WItem
  pub is_item : slice_get (items_of classes links one) place ≡ Some item
  pub stored : StoresField (plan_scope classes links one) field item.instr

-- Written code of another class reads a private field, or stores into it.
pub record OpensPrivate (classes : Classes) (links : Links) (written : WrittenMethods)
    (class number : ℕ)
    : Type 0 where
  pub field : Reference
  pub member : Member
  pub is_field : IsFieldOf classes class number field member
  pub private : IsTrue (has member.flags PRIVATE)
  pub at : MethodAt
  pub one : WrittenMethod
  pub is_written : written at ≡ Some one
  pub other : at.class ≢ class
  pub place : ℕ
  pub item : WItem
  pub is_item : slice_get (items_of classes links one) place ≡ Some item
  pub used : UsesField (plan_scope classes links one) field item.instr

-- ---- the whole

-- Written codes take the place of their methods' own, each class of the chain of a class that they make has its field constructor, and these
-- flags of fields are cleared and no others.
pub record ReplacesByWritten (classes : Classes) (links : Links) (constructor : Name → List ℕ)
    (written : WrittenMethods) (s : Replacement)
    : Type 0 where
  pub bodies : (at : MethodAt) → s.body at ≡ written_body classes links constructor written at
  pub added : (number : ℕ) (file : ClassFile)
      → slice_get classes.folder number ≡ Some file
      → AddsConstructor classes links constructor file (s.added number)
  pub made : (class : Name)
      → MakesClass classes links written class
      → AllByRecursion (HasConstructor classes links constructor s)
      (chain (headers_of classes) class)
  pub finals : (class number : ℕ)
      → IsTrue (has (s.cleared class number) FINAL) ↔ ClearsFinal classes links written class number
  pub privates : (class number : ℕ)
      → IsTrue (has (s.cleared class number) PRIVATE)
      ↔ OpensPrivate classes links written class number
