-- The class of the new at an offset is that of the first instruction there.
use Rattle.std.proofs.Common.{◌≡◌, ◌∙◌, ℕ, Bool, true, false, List, [], ◌∷◌, Option, Some, None, Ok, option_and_then, refl, ap, subst}
use Rattle.std.specs.Prelude.{◌==◌, if◌then◌else◌}
use Rattle.class_model.specs.Instructions.{decoded}
use Rattle.class_model.specs.declared.instr.Placed.{Placed}
use Rattle.class_tree.specs.Headers.{Name}
use Rattle.member_link.specs.CodedMethods.{CodedMethod, placed_at}
use Rattle.type_rules.specs.Inner.CodedScopes.{coded_of}
use Rattle.type_rules.specs.Inner.NewClasses.{class_made}
use Rattle.member_link.specs.Scope.{Scope, class_of_new, instructions}

pub are_own : (s : Scope) (instrs : List Placed) → decoded s.part.code ≡ Ok instrs → instrs ≡ instructions s
are_own s instrs read = rw read refl

module _ (s : Scope) (at : ℕ) where
  abbrev new_among : List Placed → Option Name
  new_among [] = None
  new_among (placed ∷ others) = if placed.at == at then class_made s placed.instr else new_among others

  abbrev made_by : Option Placed → Option Name
  made_by found = option_and_then (λ placed. class_made s placed.instr) found

  one_more : (here : Bool) (placed : Placed) (found : Option Placed) (name : Option Name) → made_by found ≡ name
      → made_by (if here then Some placed else found) ≡ (if here then class_made s placed.instr else name)
  one_more true placed found name is = refl
  one_more false placed found name is = is

  first_made : (instrs : List Placed) → made_by (placed_at instrs at) ≡ new_among instrs
  first_made [] = refl
  first_made (placed ∷ others) = one_more (placed.at == at) placed (placed_at others at) (new_among others) (first_made others)

  -- what the body says of the offset
  pub made_there : (body : CodedMethod) → body ≡ coded_of s → (found : Option Placed) → (instrs : List Placed) × (decoded body.part.code ≡ Ok instrs) × (found ≡ placed_at instrs at) → made_by found ≡ class_of_new s at
  made_there body own found (instrs, read, is) =
      ap made_by is ∙ first_made instrs ∙ ap new_among (are_own s instrs (subst (λ (m : CodedMethod). decoded m.part.code ≡ Ok instrs) own read))
