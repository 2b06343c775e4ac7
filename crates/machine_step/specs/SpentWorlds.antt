-- A world of which memory may have run out.
use Rattle.std.specs.Prelude.{Bool, false}
use Rattle.member_link.specs.Machine.Worlds.{World}

-- nothing is said of the world once it is spent
pub record SpentWorld : Type 0 where
  pub world : World
  pub spent : Bool

abbrev pub unspent : World → SpentWorld
unspent world = record { world = world; spent = false }
