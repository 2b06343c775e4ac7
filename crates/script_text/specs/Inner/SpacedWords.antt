-- The words of a line.
use Rattle.std.specs.Prelude.{List, [], ◌∷◌, ◌++◌}
use Rattle.script_text.specs.Events.{spaced}
use Rattle.script_text.specs.PrintedTexts.{Bytes}
use Rattle.script_text.specs.Scripts.{Word}

-- words with a space between them
abbrev pub spaced_line : List Word → Bytes
spaced_line [] = []
spaced_line (first ∷ words) = first ++ spaced words
