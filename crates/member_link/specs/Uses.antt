-- What the references of a folder's methods are asked to be linked (JVM Specification SE 8, 5.4.3 and 5.4.4): in a method
-- those of its instructions by offset, then the caught classes in table order, then the classes that stated frames name.
-- Constants that none of these use are not linked.
use Rattle.std.specs.Prelude.{◌==◌, not, ℕ, List, [], ◌∷◌, ◌++◌, Option, Some, None, Result, Ok, Err}
use Rattle.class_model.specs.Checks.{Fault, Check, asked_each, asked_if}
use Rattle.class_model.specs.Header.{header_of}
use Rattle.class_model.specs.Instructions.{decoded}
use Rattle.class_model.specs.Methods.{Home, home_of}
use Rattle.class_model.specs.Pool.{Constants, constant_at}
use Rattle.class_model.specs.PoolChecks.{class_at, utf8_at, descriptor_at}
use Rattle.class_model.specs.Stated.{stated_in}
use Rattle.class_model.specs.declared.class_file.Attr.{Attr}
use Rattle.class_model.specs.declared.class_file.Attr.TheVariants.{Raw, Code}
use Rattle.class_model.specs.declared.class_file.ClassFile.{ClassFile}
use Rattle.class_model.specs.declared.class_file.CodePart.{CodePart}
use Rattle.class_model.specs.declared.class_file.Handler.{Handler}
use Rattle.class_model.specs.declared.class_file.Method.{Method}
use Rattle.class_model.specs.declared.frame.PlacedFrame.{PlacedFrame}
use Rattle.class_model.specs.declared.frame.VType.{VType}
use Rattle.class_model.specs.declared.frame.VType.TheVariants.{Object}
use Rattle.class_model.specs.declared.header.Header.{Header}
use Rattle.class_model.specs.declared.header.Member.{Member}
use Rattle.class_model.specs.declared.instr.Instr.{Instr}
use Rattle.class_model.specs.declared.instr.Instr.TheVariants.{Ldc, GetStatic, PutStatic, GetField, PutField, Invoke, Dynamic, New, NewRefArray, NewMulti, Cast, InstanceOf}
use Rattle.class_model.specs.declared.instr.Placed.{Placed}
use Rattle.class_model.specs.declared.pool.Const.{Const}
use Rattle.class_model.specs.declared.pool.Const.TheVariants.{Class, Fieldref, Methodref, InterfaceMethodref, MethodHandle, MethodType, InvokeDynamic}
use Rattle.class_tree.specs.Headers.{Name, Headers, IsThere}
use Rattle.class_tree.specs.Problems.{Problem}
use Rattle.class_tree.specs.declared.fault.LinkRule.TheVariants as rules
use Rattle.member_link.specs.Access.{IsClassAccessible, IsAccessible}
use Rattle.member_link.specs.Declarations.{Site, asked, site_of}
use Rattle.member_link.specs.DeclaredMembers.{Declared}
use Rattle.member_link.specs.Fields.{FindsField}
use Rattle.member_link.specs.Forms.{IsStaticForm, IsInstanceForm, FitsCall, IsInstantiable}
use Rattle.member_link.specs.Methods.{FindsMethod}
use Rattle.member_link.specs.References.{Reference, reference_at, FieldTypeNames, DescriptorNames, IsNamedThere, IsNamedAccessible}

-- Where references stand: the classes, the pool of the class file, and the method.
pub record UseScope : Type 0 where
  pub headers : Headers
  pub pool : Constants
  pub site : Site

-- ---- classes

-- a class that is named is there and accessible
abbrev pub named_class_checks : UseScope → Name → List (Check Problem)
named_class_checks s name =
    asked s.site rules.Missing (IsNamedThere s.headers name)
    ∷ asked s.site rules.NoAccess (IsNamedAccessible s.headers s.site.class name)
    ∷ []

-- what is asked of the name of a Class constant
abbrev pub asked_of_class : UseScope → (Name → List (Check Problem)) → ℕ → List (Check Problem)
asked_of_class s asks index = of_name asks (class_at s.pool index) where
  of_name : (Name → List (Check Problem)) → Option Name → List (Check Problem)
  of_name asks None = []
  of_name asks (Some name) = asks name

abbrev pub class_use_checks : UseScope → ℕ → List (Check Problem)
class_use_checks s index = asked_of_class s (named_class_checks s) index

abbrev pub new_checks : UseScope → ℕ → List (Check Problem)
new_checks s index =
    asked_of_class s (λ name. named_class_checks s name ++ asked s.site rules.WrongForm
    (IsInstantiable s.headers name) ∷ []) index

-- ---- members

-- What is asked of a reference to a member: its classes are there, the named class is accessible, it is found, it has a
-- form, and it is accessible.
abbrev pub member_checks : UseScope → Reference → Type 0 → (Option Declared → Type 0)
    → (Declared → Type 0) → List (Check Problem)
member_checks s reference OthersAreThere Finds HasForm =
    asked s.site rules.Missing (IsNamedThere s.headers reference.class × OthersAreThere)
    ∷ asked s.site rules.NoAccess (IsNamedAccessible s.headers s.site.class reference.class)
    ∷ asked s.site rules.NoMember ((member : Declared) × Finds (Some member))
    ∷ asked s.site rules.WrongForm ((member : Declared) → Finds (Some member) → HasForm member)
    ∷ asked s.site rules.NoAccess ((member : Declared)
    → Finds (Some member)
    → IsAccessible s.headers s.site.class reference.class member)
    ∷ []

abbrev pub field_use_checks : UseScope → (Declared → Type 0) → Reference → List (Check Problem)
field_use_checks s HasForm reference =
    member_checks s reference (FieldTypeNames (IsThere s.headers) reference.desc)
    (FindsField s.headers reference.class reference.name reference.desc) HasForm

abbrev pub method_use_checks : UseScope → (Reference → Declared → Type 0) → Reference
    → List (Check Problem)
method_use_checks s HasForm reference =
    member_checks s reference (DescriptorNames (IsThere s.headers) reference.desc)
    (FindsMethod s.headers reference.class reference.name reference.desc) (HasForm reference)

-- what is asked of a reference that could be had
abbrev pub asked_of_reference : (Reference → List (Check Problem)) → Option Reference
    → List (Check Problem)
asked_of_reference asks None = []
asked_of_reference asks (Some reference) = asks reference

-- of a field
abbrev pub fieldref_use_checks : UseScope → (Declared → Type 0) → Option Const
    → List (Check Problem)
fieldref_use_checks s HasForm (Some (Fieldref class member)) =
    asked_of_reference (field_use_checks s HasForm) (reference_at s.pool class member)
fieldref_use_checks s HasForm constant = []

-- of a method
abbrev pub methodref_use_checks : UseScope → (Reference → Declared → Type 0) → Option Const
    → List (Check Problem)
methodref_use_checks s HasForm (Some (Methodref class member)) =
    asked_of_reference (method_use_checks s HasForm) (reference_at s.pool class member)
methodref_use_checks s HasForm (Some (InterfaceMethodref class member)) =
    asked_of_reference (method_use_checks s HasForm) (reference_at s.pool class member)
methodref_use_checks s HasForm constant = []

-- ---- constants that are loaded

-- any form
abbrev pub HasAnyForm : Declared → Type 0
HasAnyForm member = Unit {0}

-- what a method handle refers to is a field or a method
abbrev pub handle_use_checks : UseScope → Option Const → List (Check Problem)
handle_use_checks s constant =
    fieldref_use_checks s HasAnyForm constant
    ++ methodref_use_checks s (λ reference. HasAnyForm) constant

-- what is asked of a text that is there
abbrev pub asked_of_text : (List ℕ → List (Check Problem)) → Option (List ℕ) → List (Check Problem)
asked_of_text asks None = []
asked_of_text asks (Some text) = asks text

-- the classes of a method type are there and accessible (5.4.3.5)
abbrev pub method_type_use_checks : UseScope → List ℕ → List (Check Problem)
method_type_use_checks s desc =
    asked s.site rules.Missing (DescriptorNames (IsThere s.headers) desc)
    ∷ asked s.site rules.NoAccess (DescriptorNames (IsClassAccessible s.headers s.site.class) desc)
    ∷ []

abbrev pub loaded_checks : UseScope → ℕ → Option Const → List (Check Problem)
loaded_checks s index (Some (Class name)) = class_use_checks s index
loaded_checks s index (Some (MethodHandle kind reference)) =
    handle_use_checks s (constant_at s.pool reference)
loaded_checks s index (Some (MethodType desc)) =
    asked_of_text (method_type_use_checks s) (utf8_at s.pool desc)
loaded_checks s index constant = []

-- the classes of a dynamic call's descriptor are there
abbrev pub dynamic_use_checks : UseScope → Option Const → List (Check Problem)
dynamic_use_checks s (Some (InvokeDynamic bootstrap member)) =
    asked_of_text (λ desc. asked s.site rules.Missing
    (DescriptorNames (IsThere s.headers) desc) ∷ []) (descriptor_at s.pool member)
dynamic_use_checks s constant = []

-- ---- instructions

abbrev pub instr_use_checks : UseScope → Instr → List (Check Problem)
instr_use_checks s (Ldc index) = loaded_checks s index (constant_at s.pool index)
instr_use_checks s (GetStatic index) = fieldref_use_checks s IsStaticForm (constant_at s.pool index)
instr_use_checks s (PutStatic index) = fieldref_use_checks s IsStaticForm (constant_at s.pool index)
instr_use_checks s (GetField index) =
    fieldref_use_checks s IsInstanceForm (constant_at s.pool index)
instr_use_checks s (PutField index) =
    fieldref_use_checks s IsInstanceForm (constant_at s.pool index)
instr_use_checks s (Invoke opcode index count) =
    methodref_use_checks s (FitsCall s.headers opcode (constant_at s.pool index))
    (constant_at s.pool index)
instr_use_checks s (Dynamic index) = dynamic_use_checks s (constant_at s.pool index)
instr_use_checks s (New index) = new_checks s index
instr_use_checks s (NewRefArray index) = class_use_checks s index
instr_use_checks s (NewMulti index dimensions) = class_use_checks s index
instr_use_checks s (Cast index) = class_use_checks s index
instr_use_checks s (InstanceOf index) = class_use_checks s index
instr_use_checks s other = []

abbrev pub instrs_checks : UseScope → Result (List Placed) Fault → List (Check Problem)
instrs_checks s (Ok instrs) = asked_each (λ placed. instr_use_checks s placed.instr) instrs
instrs_checks s (Err fault) = []

-- ---- caught classes

abbrev pub handler_use_checks : UseScope → Handler → List (Check Problem)
handler_use_checks s handler =
    asked_if (not (handler.catch_type == 0)) (class_use_checks s handler.catch_type)

-- ---- stated frames

abbrev pub type_name_checks : UseScope → Name → List (Check Problem)
type_name_checks s name = asked s.site rules.Missing (IsNamedThere s.headers name) ∷ []

abbrev pub type_checks : UseScope → VType → List (Check Problem)
type_checks s (Object name) = type_name_checks s name
type_checks s other = []

abbrev pub frame_checks : UseScope → PlacedFrame → List (Check Problem)
frame_checks s placed =
    asked_each (type_checks s) placed.frame.locals ++ asked_each (type_checks s) placed.frame.stack

-- ---- methods

abbrev pub code_use_checks : UseScope → Home → Method → CodePart → List (Check Problem)
code_use_checks s home method part =
    instrs_checks s (decoded part.code)
    ++ asked_each (handler_use_checks s) part.handlers
    ++ asked_each (frame_checks s) (stated_in home method part part.attrs)

abbrev pub attr_checks : UseScope → Home → Method → Attr → List (Check Problem)
attr_checks s home method (Code name part) = code_use_checks s home method part
attr_checks s home method (Raw name bytes) = []

-- the methods of a class file, each with its flags, name and descriptor
abbrev pub methods_use_checks : Headers → ClassFile → Header → List Method → List Member
    → List (Check Problem)
methods_use_checks headers class header (method ∷ methods) (member ∷ members) =
    asked_each (attr_checks (record {
      headers = headers;
      pool = class.pool;
      site = site_of header member;
    }) (home_of class) method) method.attrs
    ++ methods_use_checks headers class header methods members
methods_use_checks headers class header methods members = []

-- what the references of a class are asked
abbrev pub use_checks : Headers → ClassFile → List (Check Problem)
use_checks headers class =
    methods_use_checks headers class (header_of class) class.methods (header_of class).methods
