-- A descriptor that was parsed for a NameAndType constant is that of what a constant with it refers to.
use Rattle.std.proofs.Common.{◌≡◌, ◌∙◌, ℕ, Bor, Option, Some, None, IfSome, sym, ap, subst}
use Rattle.class_model.specs.Pool.{Constants, constant_at}
use Rattle.class_model.specs.PoolChecks.{descriptor_at}
use Rattle.class_model.specs.declared.descriptor.Descriptor.{Descriptor}
use Rattle.class_model.specs.declared.pool.Const.{Const}
use Rattle.class_model.specs.declared.pool.Const.TheVariants as consts
use Rattle.member_link.specs.References.{Reference}
use Rattle.member_link.specs.Signatures.{reference_of}
use Rattle.type_rules.proofs.PoolFacts.{described}
use Rattle.type_rules.specs.Inner.ParsedCalls.{DescribesMember, DescribesReference, member_of}

module _ (pool : Constants) (member : ℕ) (reference : Reference) where
  described_by : (constant : Const) → Some member ≡ member_of constant → Some reference ≡ reference_of pool (Some constant) → Some reference.desc ≡ descriptor_at pool member
  described_by (consts.Methodref class own) is e =
      let same : own ≡ member = cc in
      subst (λ (m : ℕ). Some reference.desc ≡ descriptor_at pool m) same (sym (described pool class own reference (sym e)))
  described_by (consts.InterfaceMethodref class own) is e =
      let same : own ≡ member = cc in
      subst (λ (m : ℕ). Some reference.desc ≡ descriptor_at pool m) same (sym (described pool class own reference (sym e)))
  described_by (consts.InvokeDynamic bootstrap own) is e = absurd cc
  described_by other is e = absurd cc

pub describes : (pool : Constants) (index member : ℕ) (constant : Const) (parsed : Descriptor) → Some constant ≡ constant_at pool index → Some member ≡ member_of constant → DescribesMember pool member parsed → DescribesReference pool index parsed
describes pool index member constant parsed at is h = record {
  is = λ reference e. h.is reference.desc (described_by pool member reference constant is (e ∙ ap (reference_of pool) (sym at)));
}

pub describes_if : (pool : Constants) (index member : ℕ) (constant : Const) (found : Option (Bor Descriptor)) → Some constant ≡ constant_at pool index → Some member ≡ member_of constant → IfSome found (λ (d : Bor Descriptor). DescribesMember pool member d.now) → IfSome found (λ (d : Bor Descriptor). DescribesReference pool index d.now)
describes_if pool index member constant None at is h = h
describes_if pool index member constant (Some parsed) at is h = describes pool index member constant parsed.now at is h
