-- The stack of a walk over methods, the topmost visit first.
use Rattle.std.specs.Prelude.{◌≡◌, ◌⊎◌, List, [], ◌∷◌, Option, Some, None}
use Rattle.class_model.specs.declared.class_file.MethodAt.{MethodAt}
use Rattle.inline_expand.specs.declared.visits.Visit.{Visit}
use Rattle.inline_expand.specs.declared.visits.Visit.TheVariants.{Enter, Leave}

abbrev pub method_of : Visit → MethodAt
method_of (Enter at) = at
method_of (Leave at) = at

-- methods that are to be looked at, put on top one by one
abbrev pub stacked : List MethodAt → List Visit → List Visit
stacked [] stack = stack
stacked (at ∷ methods) stack = stacked methods (Enter at ∷ stack)

-- the topmost method that is to be left
abbrev pub nearest : List Visit → Option MethodAt
nearest [] = None
nearest (Enter at ∷ below) = nearest below
nearest (Leave at ∷ below) = Some at

abbrev pub IsLeft : List Visit → MethodAt → Type 0
IsLeft [] at = ⊥
IsLeft (Enter other ∷ below) at = IsLeft below at
IsLeft (Leave other ∷ below) at = (at ≡ other) ⊎ IsLeft below at

abbrev pub IsAmong : List MethodAt → MethodAt → Type 0
IsAmong [] at = ⊥
IsAmong (other ∷ methods) at = (at ≡ other) ⊎ IsAmong methods at
