-- Names that are one of several.
use Rattle.std.proofs.Common.{◌≡◌, ◌⊎◌, List, [], ◌∷◌, ◌++◌, bytes_eq, IsTrue, sym, subst, ◌∙◌, inl, inr}
use Rattle.std.specs.List.{AllByRecursion, list_any}
use Rattle.std.proofs.lemmas.Bool.{false≢true, or_cases, or_left, or_right}
use Rattle.std.proofs.lemmas.List.Folds.{list_any-append}
use Rattle.std.proofs.lemmas.Slice.Eq.{bytes_eq-Decides}
use Rattle.class_tree.specs.Headers.{Name}

-- a name is one of these
abbrev pub IsOneName : List Name → Name → Type 0
IsOneName names name = IsTrue (list_any (bytes_eq name) names)

pub one_name_first :
    (name other : Name) (names : List Name) → other ≡ name → IsOneName (other ∷ names) name
one_name_first name other names same = or_left _ _ ((bytes_eq-Decides name other).1 (sym same))

pub none_of_none : (name : Name) → ¬ IsOneName [] name
none_of_none name one = false≢true one

pub one_of_first :
    (first : Name) (names : List Name) (name : Name)
    → IsOneName (first ∷ names) name
    → (first ≡ name) ⊎ IsOneName names name
one_of_first first names name one = elim (or_cases _ _ one) [ inl here ↦ inl (sym ((bytes_eq-Decides name first).0 here)) | inr there ↦ inr there ]

pub one_of_either :
    (front back : List Name) (name : Name)
    → IsOneName (front ++ back) name
    → IsOneName front name ⊎ IsOneName back name
one_of_either front back name one = or_cases _ _ (sym (list_any-append (bytes_eq name) front back) ∙ one)

pub one_in_front :
    (front back : List Name) (name : Name) → IsOneName front name → IsOneName (front ++ back) name
one_in_front front back name one = list_any-append (bytes_eq name) front back ∙ or_left _ _ one

pub one_in_back :
    (front back : List Name) (name : Name) → IsOneName back name → IsOneName (front ++ back) name
one_in_back front back name one = list_any-append (bytes_eq name) front back ∙ or_right _ _ one

-- what holds of each of them holds of one
pub each_of_names :
    (P : Name → Type 0) (names : List Name)
    → AllByRecursion P names
    → (name : Name)
    → IsOneName names name
    → P name
each_of_names P [] all name one = absurd (none_of_none name one)
each_of_names P (first ∷ names) all name one =
    elim (one_of_first first names name one) [ inl here ↦ subst P here all.0 | inr there ↦ each_of_names P names all.1 name there ]
