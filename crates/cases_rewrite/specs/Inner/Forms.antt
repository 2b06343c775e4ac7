-- What is tested of switches.
use Rattle.std.specs.Prelude.{◌≡◌, ℕ, ℤ, ◌≤◌, ◌<◌, pos}

-- a lowest key and a number of targets that are small
pub record IsSmallTable (low : ℤ) (targets : ℕ) : Type 0 where
  pub key : ℕ
  pub is : low ≡ pos key
  pub small : key < 1000
  pub some : 1 ≤ targets
  pub few : targets < 1000
