-- What the checks of a class file ask of a field constructor, beside what it is (JVM Specification SE 8, 4.6). It is this project's profile.
use Rattle.std.specs.Prelude.{List, IsFalse}
use Rattle.class_model.specs.Descriptors.{SpellsDescriptor}
use Rattle.class_model.specs.Members.{INTERFACE, Signature, has, stands_before}
use Rattle.class_model.specs.Methods.{method_signature}
use Rattle.class_model.specs.declared.descriptor.Descriptor.{Descriptor}
use Rattle.class_tree.specs.Headers.{Name}
use Rattle.member_link.specs.Scope.{Scope}

-- The text is that of a method descriptor, the class is no interface, and no method of this name and descriptor stands before it.
pub record IsNewMethod (text : Name) (s : Scope) (before : List Signature) : Type 0 where
  pub descriptor : Descriptor
  pub spells : SpellsDescriptor text descriptor
  pub no_interface : IsFalse (has s.class.flags INTERFACE)
  pub is_first : IsFalse (stands_before s.class.pool before (method_signature s.method))
