-- What the descriptor of a method says of a call (JVM Specification SE 8, 4.3.3).
use Rattle.std.specs.Prelude.{◌≡◌, ◌↔◌, ℕ, List, Option, Some, None, IsTrue}
use Rattle.class_model.specs.Descriptors.{SpellsDescriptor, parameter_units}
use Rattle.class_model.specs.PoolChecks.{IsMethodDescriptor, BytesSpell, ReturnsVoid}
use Rattle.class_model.specs.declared.descriptor.Descriptor.{Descriptor}
use Rattle.class_model.specs.declared.descriptor_bytes.MethodShape.{MethodShape}

-- the text is a method descriptor of this shape
pub record HasShape (text : List ℕ) (shape : MethodShape) : Type 0 where
  pub descriptor : Descriptor
  pub spelled : SpellsDescriptor text descriptor
  pub units : (d : Descriptor) → BytesSpell text d → shape.units ≡ parameter_units d.params
  pub void : IsTrue shape.is_void ↔ ReturnsVoid text

-- The shape of a text, where it is there and is a method descriptor.
abbrev pub IsShape : Option (List ℕ) → Option MethodShape → Type 0
IsShape None shape = shape ≡ None
IsShape (Some text) None = ¬ IsMethodDescriptor text
IsShape (Some text) (Some shape) = HasShape text shape
