-- The descriptor of the constructor that written code gives all fields of an object to. It is this project's profile.
use Rattle.std.specs.Prelude.{◌≡◌, ◌≢◌, ◌≤◌, ◌<◌, ◌++◌, ℕ, List, ◌∷◌, codes, length, map, replicate, Option, Some, None}
use Rattle.std.specs.List.{AllByRecursion, flat_map}
use Rattle.class_model.specs.Characters.{left_bracket, left_parenthesis}
use Rattle.class_model.specs.Descriptors.{type_of}
use Rattle.class_model.specs.Names.{init}
use Rattle.class_model.specs.Pool.{Constants, constant_at}
use Rattle.class_model.specs.declared.class_file.ClassFile.{ClassFile}
use Rattle.class_model.specs.declared.descriptor.FieldType.{FieldType}
use Rattle.class_model.specs.declared.pool.Const.{Const}
use Rattle.class_model.specs.declared.pool.Const.TheVariants.{MethodHandle}
use Rattle.class_tree.specs.Headers.{Name, Classes, Headers, headers_of}
use Rattle.class_tree.specs.Layouts.{instance_fields}
use Rattle.member_link.specs.DeclaredMembers.{own_method}
use Rattle.member_link.specs.References.{Reference}
use Rattle.member_link.specs.Signatures.{reference_of}

-- the types of the fields of an object of a class, those of the highest class first
abbrev pub field_types : Headers → Name → List FieldType
field_types headers class = map (λ field. type_of field.desc) (instance_fields headers class)

-- its parameters are these, and behind them a boolean array of so many dimensions
abbrev pub constructor_descriptor : Headers → Name → ℕ → List ℕ
constructor_descriptor headers class dimensions =
    left_parenthesis
    ∷ flat_map (λ field. field.desc) (instance_fields headers class)
    ++ replicate dimensions left_bracket
    ++ codes "Z)V"

-- the instance initialiser of that descriptor
abbrev pub constructor_reference : Headers → Name → ℕ → Reference
constructor_reference headers class dimensions =
    record { class = class; name = init; desc = constructor_descriptor headers class dimensions }

-- the member that a constant is a method handle of
abbrev pub handled : Constants → Option Const → Option Reference
handled pool (Some (MethodHandle kind reference)) = reference_of pool (constant_at pool reference)
handled pool constant = None

-- no method handle among the constants of a class file refers to a member
abbrev pub HandlesNone : Reference → ClassFile → Type 0
HandlesNone member class =
    AllByRecursion (λ constant. handled class.pool constant ≢ Some member) class.pool

-- The class declares no instance initialiser of that descriptor, and no method handle of the folder refers to one in it.
pub record IsFree (classes : Classes) (class : Name) (dimensions : ℕ) : Type 0 where
  pub undeclared : own_method (headers_of classes) class init
      (constructor_descriptor (headers_of classes) class dimensions) ≡ None
  pub unhandled : AllByRecursion
      (HandlesNone (constructor_reference (headers_of classes) class dimensions))
      classes.folder

-- The dimensions of the field constructor of a class: the fewest from 1 to 8 that are free.
pub record HasDimensions (classes : Classes) (class : Name) (dimensions : ℕ) : Type 0 where
  pub some : 1 ≤ dimensions
  pub few : dimensions ≤ 8
  pub free : IsFree classes class dimensions
  pub fewest : (fewer : ℕ) → 1 ≤ fewer → fewer < dimensions → ¬ IsFree classes class fewer

-- the class may have one: its descriptor fits a constant
pub record HasFieldConstructor (classes : Classes) (class : Name) : Type 0 where
  pub dimensions : ℕ
  pub has : HasDimensions classes class dimensions
  pub fits : length (constructor_descriptor (headers_of classes) class dimensions) ≤ 65535
