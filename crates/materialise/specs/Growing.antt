-- A constant pool to which what is needed was added, and no more.
use Rattle.std.specs.Prelude.{◌≡◌, List, Some, None}
use Rattle.flow_code.specs.declared.reason.Reason.{Reason}
use Rattle.flow_code.specs.declared.reason.Reason.TheVariants.{PoolFull}
use Rattle.making_code.specs.Constants.{Need, grow}
use Rattle.pool_edit.specs.Edits.{Edit, grown}

-- what is needed was added, one constant after the other, where it was not there
pub record Grows (old : Edit) (needs : List Need) (new : Edit) : Type 0 where
  pub base : new.base ≡ old.base
  pub limit : new.limit ≡ old.limit
  pub grown_by : grow old.limit (grown old) needs ≡ Some (grown new)

-- it does not fit into the pool, and that is the reason why a method is kept
pub record IsFull (edit : Edit) (needs : List Need) (reason : Reason) : Type 0 where
  pub is : reason ≡ PoolFull
  pub past : grow edit.limit (grown edit) needs ≡ None
