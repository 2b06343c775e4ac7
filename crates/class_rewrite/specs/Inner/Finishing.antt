-- What is written of a class once the whole folder is decided.
use Rattle.std.specs.Prelude.{◌≡◌, ◌≤◌, ◌++◌, ◌∷◌, ℕ, zero, Bool, true, false, List, [], get_or, length, slice_get, Some}
use Rattle.class_model.specs.declared.class_file.ClassFile.{ClassFile}
use Rattle.class_model.specs.declared.class_file.Field.{Field}
use Rattle.class_model.specs.declared.class_file.Method.{Method}
use Rattle.class_model.specs.declared.header.Header.{Header}
use Rattle.class_rewrite.specs.Inner.Marking.{IsMarked, cleared_flags, row_of}
use Rattle.class_rewrite.specs.declared.decided.Draft.{Draft}
use Rattle.class_tree.specs.Headers.{Classes, Headers, Name, headers_of}
use Rattle.constructor_methods.specs.ConstructorMethods.{HasWrittenConstructor}
use Rattle.making_code.specs.Constants.{grow}
use Rattle.making_code.specs.ConstructorCode.{IsConstructorMethod}
use Rattle.making_code.specs.FieldConstructor.{constructor_method_needs}
use Rattle.materialise.specs.MadeCode.{DescribesConstructors}
use Rattle.member_link.specs.Machine.Replaced.{map_numbered, without_flags}

-- ---- field constructors

-- the class may have a field constructor, and its file has room for it
pub record CanExtend (classes : Classes) (header : Header) (draft : Draft) : Type 0 where
  pub may : HasWrittenConstructor classes header
  pub room : length draft.pool ≤ 64535

-- those that are marked can be extended
pub record AllCanExtend (classes : Classes) (drafts : List Draft) (marks : List Bool)
    : Type 0 where
  pub each : (number : ℕ) (header : Header) (draft : Draft)
      → IsMarked marks number
      → slice_get (headers_of classes).folder number ≡ Some header
      → slice_get drafts number ≡ Some draft
      → CanExtend classes header draft

-- a class has its field constructor as its last method
pub record IsExtended (headers : Headers) (constructor : Name → List ℕ) (name : Name)
    (draft extended : Draft)
    : Type 0 where
  pub method : Method
  pub grows : grow 65535 draft.pool (constructor_method_needs headers constructor name)
      ≡ Some extended.pool
  pub is_method : IsConstructorMethod headers constructor name extended.pool method
  pub methods : extended.methods ≡ draft.methods ++ method ∷ []

pub record Extends (classes : Classes) (number : ℕ) (draft extended : Draft) : Type 0 where
  pub each : (header : Header) (constructor : Name → List ℕ)
      → slice_get (headers_of classes).folder number ≡ Some header
      → DescribesConstructors classes constructor
      → IsExtended (headers_of classes) constructor header.name draft extended

abbrev pub ExtendsIf : Classes → ℕ → Bool → Draft → Draft → Type 0
ExtendsIf classes number true draft extended = Extends classes number draft extended
ExtendsIf classes number false draft extended = extended ≡ draft

-- ---- classes

-- a field without the flags that marks clear
abbrev pub field_cleared : List Bool → List Bool → ℕ → Field → Field
field_cleared finals privates number field = record field {
  flags = without_flags field.flags
      (cleared_flags (get_or finals number false) (get_or privates number false));
}

-- what is written of a class
pub record IsFinished (classes : Classes) (number : ℕ) (file : ClassFile) (draft : Draft)
    (extends : Bool) (finals privates : List Bool) (also : ClassFile)
    : Type 0 where
  pub extended : Draft
  pub extends_if : ExtendsIf classes number extends draft extended
  pub is : also ≡ record file {
    pool = extended.pool;
    fields = map_numbered (field_cleared finals privates) zero file.fields;
    methods = extended.methods;
  }

-- what is written of the first so many classes
pub record AreFinished (classes : Classes) (drafts : List Draft) (extended : List Bool)
    (finals privates : List (List Bool)) (count : ℕ) (files : List ClassFile)
    : Type 0 where
  pub len : length files ≡ count
  pub each : (number : ℕ) (file also : ClassFile) (draft : Draft)
      → slice_get classes.folder number ≡ Some file
      → slice_get drafts number ≡ Some draft
      → slice_get files number ≡ Some also
      → IsFinished classes number file draft (get_or extended number false) (row_of finals number)
      (row_of privates number) also
