-- The parameters of a descriptor's text, one after the other.
use Rattle.std.specs.Prelude.{◌==◌, List, [], ◌∷◌, ℕ, drop, Option, Some, None, if◌then◌else◌}
use Rattle.class_model.specs.Characters.{right_parenthesis}
use Rattle.class_model.specs.Descriptors.{type_len}

-- the bytes behind the parameter at the front, if one stands there
abbrev pub behind_parameter : List ℕ → Option (List ℕ)
behind_parameter [] = None
behind_parameter (first ∷ rest) =
    if first == right_parenthesis then None
    else Some (drop (type_len (first ∷ rest)) (first ∷ rest))
