-- The field constructor of a class in the class file that is written of it. It is this project's profile.
use Rattle.std.specs.Prelude.{◌≡◌, ◌≢◌, ◌≤◌, ◌+◌, ◌++◌, ℕ, List, [], ◌∷◌, length, Some, None}
use Rattle.class_model.specs.Descriptors.{kind_of, parameters_of}
use Rattle.class_model.specs.Header.{header_of}
use Rattle.class_model.specs.Members.{PUBLIC}
use Rattle.class_model.specs.MethodCode.{code_of}
use Rattle.class_model.specs.Names.{init}
use Rattle.class_model.specs.Pool.{Constants}
use Rattle.class_model.specs.declared.class_file.ClassFile.{ClassFile}
use Rattle.class_model.specs.declared.descriptor.FieldType.{FieldType}
use Rattle.class_model.specs.declared.descriptor.Kind.TheVariants.{Ref}
use Rattle.class_model.specs.declared.header.Member.{Member}
use Rattle.class_tree.specs.Headers.{IsClassFile, Headers, Name}
use Rattle.class_tree.specs.Layouts.{instance_fields, own_fields}
use Rattle.class_tree.specs.Names.{object}
use Rattle.making_code.specs.Constants.{grow}
use Rattle.making_code.specs.ConstructorCode.{IsConstructorMethod, SYNTHETIC}
use Rattle.making_code.specs.FieldConstructor.{constructor_method_needs, superclass_of, units_of_fields}
use Rattle.member_link.specs.FieldConstructors.{field_types}
use Rattle.member_link.specs.References.{TypeNames}
use Rattle.member_link.specs.Scope.{Scope}
use Rattle.member_link.specs.Signatures.{result_of}
use Rattle.type_rules.specs.Grown.{IsGrownClass}

-- The descriptor of a class's field constructor: its parameters are the fields of the class's chain and behind them a reference whose type names no
-- class, and it has no result.
pub record IsDescribed (headers : Headers) (constructor : Name → List ℕ) (class : Name) : Type 0 where
  pub last : FieldType
  pub is_reference : kind_of last ≡ Ref
  pub names_none : TypeNames (λ name. ⊥) last
  pub parameters : parameters_of (constructor class) ≡ field_types headers class ++ last ∷ []
  pub no_result : result_of (constructor class) ≡ None

-- The method of a scope is the field constructor of a class of the folder, by its headers: it stands in a class file that has grown from the
-- class's, whose pool has its constants and maybe more. The fields of the class take at most 64 local units.
pub record IsConstructorIn (headers : Headers) (constructor : Name → List ℕ) (file : ClassFile) (s : Scope)
    : Type 0 where
  pub is_class_file : IsClassFile file
  pub class : IsGrownClass file s.class
  pub above : Name
  pub superclass : (header_of file).super_name ≡ Some above
  pub is_above : superclass_of headers (header_of file).name ≡ Some above
  pub fields : instance_fields headers (header_of file).name
      ≡ instance_fields headers above ++ own_fields headers (header_of file).name
  pub few : units_of_fields (instance_fields headers (header_of file).name) ≤ 64
  pub described : IsDescribed headers constructor (header_of file).name
  pub described_above : above ≢ object → IsDescribed headers constructor above
  pub before : Constants
  pub pool : Constants
  pub grows : grow 65535 before (constructor_method_needs headers constructor (header_of file).name)
      ≡ Some pool
  pub more : Constants
  pub has : s.class.pool ≡ pool ++ more
  pub count : length s.class.pool ≤ 65535
  pub method : IsConstructorMethod headers constructor (header_of file).name pool s.method
  pub code : code_of s.method.attrs ≡ Some s.part

-- what the headers of the written folder say of it: it is public and synthetic (JVM Specification SE 8, 4.6)
abbrev pub constructor_member : (Name → List ℕ) → Name → Member
constructor_member constructor class =
    record { flags = PUBLIC + SYNTHETIC; name = init; desc = constructor class }
