-- What an instruction pops and pushes.
use Rattle.std.specs.Prelude.{ℕ, List, [], ◌∷◌, ◌++◌, Option, Some, None}
use Rattle.class_model.specs.declared.frame.Frame.{Frame}
use Rattle.class_model.specs.declared.frame.VType.{VType}
use Rattle.member_link.specs.Rows.Operands.{under}

-- a value that is pushed, or none
abbrev pub given : Option VType → List VType
given None = []
given (Some type) = type ∷ []

-- these types stand for the topmost entries, so many
abbrev pub leaves : Frame → ℕ → List VType → Option Frame
leaves f count gives = Some (record { locals = f.locals; stack = under count f.stack ++ gives })
