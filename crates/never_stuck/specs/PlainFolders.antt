-- The world of a folder without classes (this project's profile).
use Rattle.std.specs.Prelude.{◌≡◌, ◌≢◌, [], ◌∷◌, None}
use Rattle.machine_values.specs.declared.frame.RunFrame.TheVariants.{Library}
use Rattle.member_link.specs.Machine.Worlds.{World, stuck}

-- only the library's frame stands, and the run is not stuck
pub record LibraryAlone (w : World) : Type 0 where
  pub frames : w.frames ≡ Library None ∷ []
  pub not_stuck : w.halt ≢ stuck
