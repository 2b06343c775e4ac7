-- Descriptors of field constructors are modified UTF-8.
use Rattle.std.proofs.Common.{◌≡◌, ◌+◌, ◌++◌, refl, ℕ, zero, suc, List, [], ◌∷◌, codes, replicate, slice_get, take, Some, sym, ap, subst, ◌∙◌}
use Rattle.std.proofs.lemmas.List.{append-nil}
use Rattle.std.proofs.lemmas.List.Concat.{flat_map-append}
use Rattle.std.specs.List.{flat_map}
use Rattle.class_model.specs.Characters.{left_bracket, left_parenthesis}
use Rattle.class_model.specs.Laws.Lists.{take_item}
use Rattle.class_model.specs.Laws.Texts.{plain_text}
use Rattle.class_model.specs.ModifiedUtf8.{IsModifiedUtf8, IsText}
use Rattle.field_constructors.specs.Inner.ConstructorWords.{IsOpened}
use Rattle.field_constructors.specs.Laws.JoinedTexts.{joined}

pub none_opened : (fields : List (List ℕ)) (bytes : List ℕ) → bytes ≡ left_parenthesis ∷ [] → IsOpened (take 0 fields) bytes
none_opened fields bytes is = record { same = is; text = subst IsModifiedUtf8 (sym is) (plain_text (left_parenthesis ∷ []) refl).spelling }

pub one_opened : (fields : List (List ℕ)) (index : ℕ) (field bytes more : List ℕ) → slice_get fields index ≡ Some field → IsText field → more ≡ bytes ++ field
    → IsOpened (take index fields) bytes → IsOpened (take (index + 1) fields) more
one_opened fields index field bytes more at text is opened = record {
  same =
      is ∙ ap (λ (l : List ℕ). l ++ field) opened.same
      ∙ ap (λ (l : List ℕ). (left_parenthesis ∷ flat_map (λ (f : List ℕ). f) (take index fields)) ++ l) (sym (append-nil field))
      ∙ ap (λ (l : List ℕ). left_parenthesis ∷ l) (sym (flat_map-append (λ (f : List ℕ). f) (take index fields) (field ∷ [])))
      ∙ ap (λ (l : List (List ℕ)). left_parenthesis ∷ flat_map (λ (f : List ℕ). f) l) (sym (take_item fields index field at));
  text = subst IsModifiedUtf8 (sym is) (joined bytes field opened.text text.spelling);
}

brackets : (count : ℕ) → IsModifiedUtf8 (replicate count left_bracket)
brackets zero = (plain_text [] refl).spelling
brackets (suc count) = joined (left_bracket ∷ []) (replicate count left_bracket) (plain_text (left_bracket ∷ []) refl).spelling (brackets count)

pub closed : (fields : List (List ℕ)) (count : ℕ) (bytes most all : List ℕ) → IsOpened fields bytes → most ≡ bytes ++ replicate count left_bracket → all ≡ most ++ codes "Z)V" → IsModifiedUtf8 all
closed fields count bytes most all opened is whole =
    subst IsModifiedUtf8 (sym whole) (joined most (codes "Z)V") (subst IsModifiedUtf8 (sym is) (joined bytes (replicate count left_bracket) opened.text (brackets count))) (plain_text (codes "Z)V") refl).spelling)
