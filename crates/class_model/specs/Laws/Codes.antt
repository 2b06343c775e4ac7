-- The code among attributes.
use Rattle.std.proofs.Common.{◌≡◌, ℕ, List, [], ◌∷◌, Some, subst}
use Rattle.std.proofs.lemmas.Option.{same_Some}
use Rattle.std.specs.List.{AllByRecursion}
use Rattle.class_model.specs.MethodCode.{code_of}
use Rattle.class_model.specs.declared.class_file.Attr.{Attr}
use Rattle.class_model.specs.declared.class_file.Attr.TheVariants.{Raw, Code}
use Rattle.class_model.specs.declared.class_file.CodePart.{CodePart}

-- what holds of each attribute holds of the first code among them
pub code_has :
    (P : Attr → Type 0) (Q : CodePart → Type 0)
    → ((name : ℕ) (part : CodePart) → P (Code name part) → Q part)
    → (attrs : List Attr) (part : CodePart)
    → AllByRecursion P attrs
    → code_of attrs ≡ Some part
    → Q part
code_has P Q of_code [] part all is = absurd cc
code_has P Q of_code (Code name own ∷ attrs) part all is = subst Q (same_Some own part is) (of_code name own all.0)
code_has P Q of_code (Raw name bytes ∷ attrs) part all is = code_has P Q of_code attrs part all.1 is
