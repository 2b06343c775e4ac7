-- The field constructors of the classes of a folder, as they are found.
use Rattle.std.specs.Prelude.{◌≡◌, ℕ, List, map, slice_get, Option, Some, None}
use Rattle.class_model.specs.declared.header.Header.{Header}
use Rattle.class_tree.specs.Headers.{Name, Classes, Headers, headers_of}
use Rattle.class_tree.specs.Layouts.{instance_fields}
use Rattle.member_link.specs.FieldConstructors.{HasFieldConstructor, constructor_descriptor}

-- the descriptors of the fields of an object of a class, those of the highest class first
abbrev pub field_descs : Headers → Name → List (List ℕ)
field_descs headers class = map (λ field. field.desc) (instance_fields headers class)

-- the descriptor of the field constructor of a class, if it may have one
abbrev pub IsConstructor : Classes → Name → Option (List ℕ) → Type 0
IsConstructor classes class (Some desc) =
    (may : HasFieldConstructor classes class)
    × (desc ≡ constructor_descriptor (headers_of classes) class may.dimensions)
IsConstructor classes class None = ¬ HasFieldConstructor classes class

-- that of the class of a number in the folder
abbrev pub IsConstructorAt : Classes → ℕ → Option (List ℕ) → Type 0
IsConstructorAt classes number found =
    (header : Header)
    → slice_get (headers_of classes).folder number ≡ Some header
    → IsConstructor classes header.name found
