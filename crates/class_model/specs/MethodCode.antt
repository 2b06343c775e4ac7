-- The code of a method among its attributes (JVM Specification SE 8, 4.7.3).
use Rattle.std.specs.Prelude.{ℕ, List, [], ◌∷◌, Option, Some, None}
use Rattle.class_model.specs.declared.class_file.Attr.{Attr}
use Rattle.class_model.specs.declared.class_file.Attr.TheVariants.{Raw, Code}
use Rattle.class_model.specs.declared.class_file.CodePart.{CodePart}

-- the content of the first Code attribute
abbrev pub code_of : List Attr → Option CodePart
code_of [] = None
code_of (Code name part ∷ attrs) = Some part
code_of (Raw name bytes ∷ attrs) = code_of attrs
