-- What is known of the descriptor of a method that was checked last (JVM Specification SE 8, 4.3.3).
use Rattle.std.specs.Prelude.{◌↔◌, IsTrue}
use Rattle.class_tree.specs.Headers.{Headers, IsThere}
use Rattle.member_link.specs.References.{DescriptorNames}
use Rattle.member_link.specs.declared.named_descriptors.NamedDescriptor.{NamedDescriptor}

pub record IsAnswered (headers : Headers) (last : NamedDescriptor) : Type 0 where
  pub is : IsTrue last.is_there ↔ DescriptorNames (IsThere headers) last.desc.now
