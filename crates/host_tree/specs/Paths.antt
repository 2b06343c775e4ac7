-- The path of a name below a folder.
use Rattle.std.specs.Prelude.{ℕ, List, [], ◌∷◌, ◌++◌}

-- the folder, a slash and the name, or the name alone where the folder has no name
abbrev pub path_below : List ℕ → List ℕ → List ℕ
path_below [] name = name
path_below (byte ∷ bytes) name = (byte ∷ bytes) ++ (47 ∷ name)
