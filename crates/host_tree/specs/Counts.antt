-- The counts of failed calls.
use Rattle.std.specs.Prelude.{◌≡◌, ◌≢◌, ℕ, ◌-◌, ◌^◌, ◌<◌, ◌≤◌, ◌⊎◌}
use Rattle.host_tree.specs.declared.call.HostCall.{HostCall}

-- where a count stands still
abbrev pub last_count : ℕ
last_count = 2 ^ 64 - 1

-- a count does not fall, and stands still at its last number
pub record NeverFalls (old new : ℕ) : Type 0 where
  pub later : old ≤ new
  pub stands : old ≡ last_count → new ≡ last_count

-- the count rose, or stands at its last number
abbrev pub Rose : ℕ → ℕ → Type 0
Rose old new = (old < new) ⊎ (new ≡ last_count)

-- of the counts by kind of call, only that of this kind may be another than before
pub record CountsOnly (kind : HostCall) (old new : HostCall → ℕ) : Type 0 where
  pub own : NeverFalls (old kind) (new kind)
  pub others : (other : HostCall) → other ≢ kind → new other ≡ old other
