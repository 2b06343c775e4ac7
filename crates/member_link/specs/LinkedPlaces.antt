-- What it means that a folder is linked, place by place (JVM Specification SE 8, 5.4): by the number of a class in the
-- folder, of a method in the class, and of an instruction, an entry of the exception table or a stated frame in its code.
use Rattle.std.specs.Prelude.{◌≡◌, ℕ, List, Option, Some, slice_get, Ok}
use Rattle.class_model.specs.Checks.{AllHold}
use Rattle.class_model.specs.Header.{header_of}
use Rattle.class_model.specs.Instructions.{decoded}
use Rattle.class_model.specs.Methods.{home_of}
use Rattle.class_model.specs.Stated.{stated_in}
use Rattle.class_model.specs.declared.class_file.Attr.TheVariants.{Code}
use Rattle.class_model.specs.declared.class_file.ClassFile.{ClassFile}
use Rattle.class_model.specs.declared.class_file.CodePart.{CodePart}
use Rattle.class_model.specs.declared.class_file.Handler.{Handler}
use Rattle.class_model.specs.declared.class_file.Method.{Method}
use Rattle.class_model.specs.declared.frame.PlacedFrame.{PlacedFrame}
use Rattle.class_model.specs.declared.header.Header.{Header}
use Rattle.class_model.specs.declared.header.Member.{Member}
use Rattle.class_model.specs.declared.instr.Placed.{Placed}
use Rattle.class_tree.specs.Headers.{Name, Classes, IsThere, headers_of}
use Rattle.member_link.specs.Access.{IsAccessible}
use Rattle.member_link.specs.Declarations.{declaration_checks, site_of}
use Rattle.member_link.specs.DeclaredMembers.{Declared}
use Rattle.member_link.specs.Fields.{FindsField}
use Rattle.member_link.specs.Methods.{FindsMethod}
use Rattle.member_link.specs.References.{Reference, FieldTypeNames, DescriptorNames, IsNamedThere, IsNamedAccessible}
use Rattle.member_link.specs.Uses.{UseScope, instr_use_checks, handler_use_checks, frame_checks}

-- A method of the folder that has code: the class and the method of these numbers, and a Code attribute of the method.
pub record CodeAt (classes : Classes) (class_number method_number : ℕ) : Type 0 where
  pub class : ClassFile
  pub method : Method
  pub member : Member
  pub attr_number : ℕ
  pub name : ℕ
  pub part : CodePart
  pub class_is : slice_get classes.folder class_number ≡ Some class
  pub method_is : slice_get class.methods method_number ≡ Some method
  pub member_is : slice_get (header_of class).methods method_number ≡ Some member
  pub code_is : slice_get method.attrs attr_number ≡ Some (Code name part)

-- where its references stand
abbrev pub use_scope : (classes : Classes) (class_number method_number : ℕ)
    → CodeAt classes class_number method_number → UseScope
use_scope classes class_number method_number at = record {
  headers = headers_of classes;
  pool = at.class.pool;
  site = site_of (header_of at.class) at.member;
}

-- the frames that the code states
abbrev pub frames_stated : (classes : Classes) (class_number method_number : ℕ)
    → CodeAt classes class_number method_number → List PlacedFrame
frames_stated classes class_number method_number at =
    stated_in (home_of at.class) at.method at.part at.part.attrs

-- Each class declares what passes, and in each method with code each instruction, entry of the exception table and stated
-- frame names what passes.
pub record IsLinkedByPlace (classes : Classes) : Type 0 where
  pub declarations : (number : ℕ) (header : Header)
      → slice_get (headers_of classes).folder number ≡ Some header
      → AllHold (declaration_checks (headers_of classes) header)
  pub instructions : (class method number : ℕ) (at : CodeAt classes class method)
      (instrs : List Placed) (placed : Placed)
      → decoded at.part.code ≡ Ok instrs
      → slice_get instrs number ≡ Some placed
      → AllHold (instr_use_checks (use_scope classes class method at) placed.instr)
  pub handlers : (class method number : ℕ) (at : CodeAt classes class method)
      (handler : Handler)
      → slice_get at.part.handlers number ≡ Some handler
      → AllHold (handler_use_checks (use_scope classes class method at) handler)
  pub frames : (class method number : ℕ) (at : CodeAt classes class method)
      (frame : PlacedFrame)
      → slice_get (frames_stated classes class method at) number ≡ Some frame
      → AllHold (frame_checks (use_scope classes class method at) frame)

-- ---- what passes, fact by fact

-- a class that is named: it is there and accessible
pub record ClassPasses (s : UseScope) (name : Name) : Type 0 where
  pub there : IsNamedThere s.headers name
  pub accessible : IsNamedAccessible s.headers s.site.class name

-- A member that is named: the named class and the classes of the descriptor are there, the named class is accessible, the
-- member is found, it is of the form, and it is accessible.
pub record MemberPasses (s : UseScope) (reference : Reference) (OthersAreThere : Type 0)
    (Finds : Option Declared → Type 0) (HasForm : Declared → Type 0) : Type 0 where
  pub there : IsNamedThere s.headers reference.class
  pub others_there : OthersAreThere
  pub class_accessible : IsNamedAccessible s.headers s.site.class reference.class
  pub member : Declared
  pub found : Finds (Some member)
  pub form : HasForm member
  pub accessible : IsAccessible s.headers s.site.class reference.class member

-- a field that is named
abbrev pub FieldPasses : UseScope → (Declared → Type 0) → Reference → Type 0
FieldPasses s HasForm reference =
    MemberPasses s reference (FieldTypeNames (IsThere s.headers) reference.desc)
    (FindsField s.headers reference.class reference.name reference.desc) HasForm

-- a method that is named
abbrev pub MethodPasses : UseScope → (Reference → Declared → Type 0) → Reference → Type 0
MethodPasses s HasForm reference =
    MemberPasses s reference (DescriptorNames (IsThere s.headers) reference.desc)
    (FindsMethod s.headers reference.class reference.name reference.desc) (HasForm reference)
