-- Constants of a pool that refer to the same.
use Rattle.std.specs.Prelude.{◌≡◌}
use Rattle.class_model.specs.Pool.{Constants}
use Rattle.class_model.specs.declared.pool.Const.{Const}
use Rattle.class_model.specs.declared.pool.Const.TheVariants.{Fieldref, Methodref, InterfaceMethodref}
use Rattle.member_link.specs.References.{reference_at}

-- members of the same kind, class, name and descriptor; other constants are equal
abbrev pub AreAlike : Constants → Const → Const → Type 0
AreAlike pool (Fieldref class member) (Fieldref named with_) =
    reference_at pool class member ≡ reference_at pool named with_
AreAlike pool (Methodref class member) (Methodref named with_) =
    reference_at pool class member ≡ reference_at pool named with_
AreAlike pool (InterfaceMethodref class member) (InterfaceMethodref named with_) =
    reference_at pool class member ≡ reference_at pool named with_
AreAlike pool one other = one ≡ other
