-- Rows that are changed in some parts.
use Rattle.std.proofs.Common.{◌≡◌, ℕ, List, Option, Some, None, refl}
use Rattle.class_model.specs.Pool.{Constants}
use Rattle.class_model.specs.PoolChecks.{descriptor_at}
use Rattle.class_model.specs.declared.frame.Frame.{Frame}
use Rattle.class_model.specs.declared.pool.Const.{Const}
use Rattle.class_model.specs.declared.pool.Const.TheVariants as consts
use Rattle.plan_flow.specs.Inner.RowViews.{described_row, dynamic_desc}
use Rattle.plan_flow.specs.PlanRows.{Change, Guard, Position, PlanRow}
use Rattle.plan_flow.specs.PlanTable.{dynamic_row}

pub updated :
    (one other : PlanRow) (asks also : List Position) (throws or : Option Guard)
    → one ≡ other
    → asks ≡ also
    → throws ≡ or
    → (let changed : PlanRow = record one { asks = asks; throws = throws } in changed) ≡ record other { asks = also; throws = or }
updated one other asks also throws or rows positions guards = λ i. record (rows i) { asks = positions i; throws = guards i }

pub updated_all :
    (one other : PlanRow) (asks also : List Position) (throws or : Option Guard) (how by : Change)
    → one ≡ other
    → asks ≡ also
    → throws ≡ or
    → how ≡ by
    → (let changed : PlanRow = record one { asks = asks; change = how; throws = throws } in changed) ≡ record other { asks = also; change = by; throws = or }
updated_all one other asks also throws or how by rows positions guards changes = λ i. record (rows i) { asks = positions i; change = changes i; throws = guards i }

-- the row of an invokedynamic by its descriptor
pub dynamic_is : (pool : Constants) (f : Frame) (constant : Option Const) → described_row f (dynamic_desc pool constant) ≡ dynamic_row pool f constant
dynamic_is pool f None = refl
dynamic_is pool f (Some (consts.InvokeDynamic bootstrap member)) = by (descriptor_at pool member) refl where
  by :
      (desc : Option (List ℕ))
      → descriptor_at pool member ≡ desc
      → described_row f (descriptor_at pool member) ≡ dynamic_row pool f (Some (consts.InvokeDynamic bootstrap member))
  by None is = rw is refl
  by (Some desc) is = rw is refl
dynamic_is pool f (Some (consts.Utf8 text)) = refl
dynamic_is pool f (Some (consts.Integer number)) = refl
dynamic_is pool f (Some (consts.Float bits)) = refl
dynamic_is pool f (Some (consts.Long number)) = refl
dynamic_is pool f (Some (consts.Double bits)) = refl
dynamic_is pool f (Some (consts.Class name)) = refl
dynamic_is pool f (Some (consts.String text)) = refl
dynamic_is pool f (Some (consts.Fieldref class member)) = refl
dynamic_is pool f (Some (consts.Methodref class member)) = refl
dynamic_is pool f (Some (consts.InterfaceMethodref class member)) = refl
dynamic_is pool f (Some (consts.NameAndType name desc)) = refl
dynamic_is pool f (Some (consts.MethodHandle kind index)) = refl
dynamic_is pool f (Some (consts.MethodType desc)) = refl
