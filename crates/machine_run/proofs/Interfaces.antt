-- Lists of names that are all those of interfaces.
use Rattle.std.proofs.Common.{◌≡◌, ◌||◌, not, Bool, List, ◌∷◌, ap, ◌∙◌}
use Rattle.std.specs.List.{list_any}
use Rattle.class_tree.specs.Headers.{Name}
use Rattle.member_link.specs.Machine.Programs.{Program, is_interface_named}

abbrev pub has_other : Program → List Name → Bool
has_other P names = list_any (λ name. not (is_interface_named P name)) names

-- by the first of them
pub by_first : (P : Program) (names : List Name) (first : Name) (rest : List Name) (b : Bool)
    → names ≡ first ∷ rest
    → is_interface_named P first ≡ b
    → has_other P names ≡ (not b || has_other P rest)
by_first P names first rest b is test = ap (has_other P) is ∙ ap (λ (b : Bool). not b || has_other P rest) test
