-- Descriptors of a pool that were parsed.
use Rattle.std.specs.Prelude.{◌≡◌, ℕ, List, Option, Some, None}
use Rattle.class_model.specs.Descriptors.{SpellsDescriptor}
use Rattle.class_model.specs.Pool.{Constants, constant_at}
use Rattle.class_model.specs.PoolChecks.{descriptor_at, utf8_at}
use Rattle.class_model.specs.declared.descriptor.Descriptor.{Descriptor}
use Rattle.class_model.specs.declared.pool.Const.{Const}
use Rattle.class_model.specs.declared.pool.Const.TheVariants.{Methodref, InterfaceMethodref, InvokeDynamic}
use Rattle.member_link.specs.References.{Reference}
use Rattle.member_link.specs.Signatures.{reference_of}
use Rattle.type_rules.specs.declared.call_descriptors.CallDescriptor.{CallDescriptor}

-- the text at an index spells it, if one is there
pub record IsParsedAt (pool : Constants) (index : ℕ) (parsed : Descriptor) : Type 0 where
  pub is : (text : List ℕ) → Some text ≡ utf8_at pool index → SpellsDescriptor text parsed

abbrev pub IsFound : Constants → CallDescriptor → Type 0
IsFound pool found = IsParsedAt pool found.text found.parsed

-- the descriptor of the NameAndType constant at an index spells it, if one is there
pub record DescribesMember (pool : Constants) (member : ℕ) (parsed : Descriptor) : Type 0 where
  pub is : (text : List ℕ) → Some text ≡ descriptor_at pool member → SpellsDescriptor text parsed

-- that of what the constant at an index refers to
pub record DescribesReference (pool : Constants) (index : ℕ) (parsed : Descriptor) : Type 0 where
  pub is : (reference : Reference)
      → Some reference ≡ reference_of pool (constant_at pool index)
      → SpellsDescriptor reference.desc parsed

-- the NameAndType constant of a constant that calls name
abbrev pub member_of : Const → Option ℕ
member_of (Methodref class member) = Some member
member_of (InterfaceMethodref class member) = Some member
member_of (InvokeDynamic bootstrap member) = Some member
member_of constant = None
