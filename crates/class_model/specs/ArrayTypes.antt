-- The components of arrays (JVM Specification SE 8, 4.3.2).
use Rattle.std.specs.Prelude.{◌==◌, ◌-◌, ℕ, List, [], ◌∷◌, length, take, if◌then◌else◌}
use Rattle.class_model.specs.Characters.{class_letter}

-- the component of an array of references by its descriptor: an array, or a class between L and ;
abbrev pub component_of : List ℕ → List ℕ
component_of [] = []
component_of (first ∷ rest) = inner rest where
  inner : List ℕ → List ℕ
  inner [] = []
  inner (head ∷ tail) = if head == class_letter then take (length tail - 1) tail else head ∷ tail
