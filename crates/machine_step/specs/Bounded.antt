-- What a world keeps so that its numbers fit the types of the code.
use Rattle.std.specs.Prelude.{◌<◌, ◌-◌, ◌^◌, All, List, [], ◌∷◌}
use Rattle.machine_values.specs.declared.frame.RunFrame.{RunFrame}
use Rattle.machine_values.specs.declared.frame.RunFrame.TheVariants.{Method}
use Rattle.member_link.specs.Machine.Bounds.{HasBoundedCounts}
use Rattle.member_link.specs.Machine.Worlds.{World}

-- there is a place behind the one where a frame stands
abbrev pub HasNextPlace : RunFrame → Type 0
HasNextPlace (Method f) = f.place < 2 ^ 32 - 1
HasNextPlace frame = Unit {0}

-- each frame but the top one can go on behind its place
abbrev pub CanGoOn : List RunFrame → Type 0
CanGoOn [] = Unit {0}
CanGoOn (top ∷ rest) = All HasNextPlace rest

pub record IsBoundedWorld (w : World) : Type 0 where
  pub counts : HasBoundedCounts w
  pub places : CanGoOn w.frames
