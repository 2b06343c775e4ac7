-- What is asked of a written class so that its field constructor is linked (JVM Specification SE 8, 5.4.3 and 5.4.4). It is this project's profile.
use Rattle.std.specs.Prelude.{◌≡◌, ℕ, not, List, bytes_eq, codes, filter, Some, if◌then◌else◌}
use Rattle.std.specs.List.{AllByRecursion}
use Rattle.class_model.specs.Checks.{AllHold, asked_each}
use Rattle.class_model.specs.Header.{header_of, method_member}
use Rattle.class_model.specs.Members.{STATIC, has}
use Rattle.class_model.specs.Methods.{home_of}
use Rattle.class_model.specs.Names.{init}
use Rattle.class_model.specs.declared.class_file.ClassFile.{ClassFile}
use Rattle.class_model.specs.declared.opcodes.TheConstants.{INVOKESPECIAL}
use Rattle.class_model.specs.declared.pool.Const.TheVariants.{Methodref}
use Rattle.class_tree.specs.Headers.{IsThere, Headers, Name, class_named}
use Rattle.class_tree.specs.Layouts.{own_fields}
use Rattle.class_tree.specs.Names.{object}
use Rattle.member_link.specs.Declarations.{site_of}
use Rattle.member_link.specs.DeclaredMembers.{declared}
use Rattle.member_link.specs.Forms.{FitsCall}
use Rattle.member_link.specs.LinkedPlaces.{MethodPasses}
use Rattle.member_link.specs.References.{FieldTypeNames, Reference, element_class}
use Rattle.member_link.specs.Scope.{Scope}
use Rattle.member_link.specs.Uses.{UseScope, attr_checks}

-- where the references of the constructor stand
abbrev pub uses_in : Scope → UseScope
uses_in s = record {
  headers = s.headers;
  pool = s.class.pool;
  site = site_of (header_of s.class) (method_member s.class.pool s.method);
}

-- the constructor that it calls: java/lang/Object's own, or the field constructor of another class
abbrev pub called_of : (Name → List ℕ) → Name → Reference
called_of constructor above =
    if bytes_eq above object then record { class = object; name = init; desc = codes "()V" }
    else record { class = above; name = init; desc = constructor above }

-- Among the classes of the written folder the class has its name, and no array has it. Its own instance fields, by the headers of the folder, are
-- those of its file, each the first of its name and descriptor; the classes that their types name are there. The constructor that is called is
-- found, may be used, and is one that invokespecial may call.
pub record HasLinkedMembers (headers : Headers) (constructor : Name → List ℕ) (file : ClassFile) (above : Name)
    (s : Scope)
    : Type 0 where
  pub named : class_named s.headers (header_of file).name ≡ Some (header_of s.class)
  pub no_array : element_class (header_of file).name ≡ Some (header_of file).name
  pub own : own_fields headers (header_of file).name
      ≡ filter (λ field. not (has field.flags STATIC)) (header_of file).fields
  pub once :
      AllByRecursion (λ field. declared field.name field.desc (header_of file).fields ≡ Some field)
      (own_fields headers (header_of file).name)
  pub types : AllByRecursion (λ field. FieldTypeNames (IsThere s.headers) field.desc)
      (own_fields headers (header_of file).name)
  pub call :
      MethodPasses (uses_in s) (FitsCall s.headers INVOKESPECIAL (Some (Methodref 0 0)))
      (called_of constructor above)

-- every reference of the constructor passes
abbrev pub IsLinkedMethod : Scope → Type 0
IsLinkedMethod s =
    AllHold (asked_each (attr_checks (uses_in s) (home_of s.class) s.method) s.method.attrs)
