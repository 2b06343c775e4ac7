-- Field constructors of classes as methods of their files, in a constant pool that grows by what they need.
use Rattle.std.specs.Prelude.{◌≡◌, ◌≢◌, ◌≤◌, ◌+◌, ◌++◌, ℕ, List, length, slice_get, Some}
use Rattle.class_model.specs.Pool.{Constants}
use Rattle.class_model.specs.declared.class_file.Method.{Method}
use Rattle.class_model.specs.declared.header.Header.{Header}
use Rattle.class_tree.specs.Headers.{Classes, Name, headers_of}
use Rattle.class_tree.specs.Layouts.{instance_fields}
use Rattle.class_tree.specs.Names.{object}
use Rattle.making_code.specs.ConstructorCode.{IsConstructorMethod}
use Rattle.making_code.specs.FieldConstructor.{constructor_method_needs, units_of_fields}
use Rattle.materialise.specs.Growing.{Grows}
use Rattle.materialise.specs.MadeCode.{DescribesConstructors, IsMadeClass}
use Rattle.member_link.specs.FieldConstructors.{HasFieldConstructor}
use Rattle.pool_edit.specs.Edits.{Edit, grown}

-- A class that may have a field constructor, and so may its superclass unless that is java/lang/Object. The fields of its objects take at
-- most 64 local units.
pub record HasWrittenConstructor (classes : Classes) (header : Header) : Type 0 where
  pub may : HasFieldConstructor classes header.name
  pub above : (super : Name)
      → header.super_name ≡ Some super
      → super ≢ object
      → IsMadeClass classes super
  pub few : units_of_fields (instance_fields (headers_of classes) header.name) ≤ 64

-- 1,000 constants of one entry each fit behind the pool
abbrev pub HasRoomFor : ℕ → Edit → Type 0
HasRoomFor entries edit = length (grown edit) + entries ≤ edit.limit

-- the method, and the pool that has grown by what it needs
pub record IsFieldConstructor (classes : Classes) (number : ℕ) (old new : Edit) (method : Method)
    : Type 0 where
  pub grows : (header : Header) (constructor : Name → List ℕ)
      → slice_get (headers_of classes).folder number ≡ Some header
      → DescribesConstructors classes constructor
      → Grows old (constructor_method_needs (headers_of classes) constructor header.name) new
  pub method_is : (header : Header) (constructor : Name → List ℕ) (more : Constants)
      → slice_get (headers_of classes).folder number ≡ Some header
      → DescribesConstructors classes constructor
      → IsConstructorMethod (headers_of classes) constructor header.name (grown new ++ more) method
