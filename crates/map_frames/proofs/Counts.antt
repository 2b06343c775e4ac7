-- How many items are left to read.
use Rattle.std.proofs.Common.{◌≡◌, ℕ, suc, ◌+◌, ◌-◌, ◌<◌, arith}

-- one item more is left than behind it
pub left_more : (count done : ℕ) → done < count → count - done ≡ suc (count - (done + 1))
left_more count done lt = omega arith
