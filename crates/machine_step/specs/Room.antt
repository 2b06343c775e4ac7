-- What keeps the counts of a run within 64 bits, and its number of allocated objects within 128.
use Rattle.std.specs.Prelude.{◌<◌, ◌-◌, ◌^◌, ℕ}
use Rattle.member_link.specs.Machine.Bounds.{IsBounded}
use Rattle.member_link.specs.Machine.Worlds.{Memory}

-- the memory is one of a run that can take one step more
pub record HasRoom (memory : Memory) : Type 0 where
  pub steps : ℕ
  pub few : steps < 2 ^ 64 - 1
  pub bounded : IsBounded memory steps
