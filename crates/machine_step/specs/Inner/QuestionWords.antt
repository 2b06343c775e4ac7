-- Words of the questions that the machine asks of descriptors.
use Rattle.std.specs.Prelude.{◌==◌, [], ◌∷◌, if◌then◌else◌, List, ℕ, Option, Some, None}
use Rattle.class_model.specs.Characters.{left_bracket}

-- what stands behind a bracket at the front
abbrev pub behind_bracket : List ℕ → Option (List ℕ)
behind_bracket [] = None
behind_bracket (first ∷ rest) = if first == left_bracket then Some rest else None
