-- Attributes one after the other, with another content of Code.
use Rattle.std.proofs.Common.{◌≡◌, ◌<◌, ◌+◌, ◌++◌, ℕ, List, [], ◌∷◌, length, take, get_or, refl, sym, ap, ◌∙◌}
use Rattle.std.proofs.lemmas.List.{take_more}
use Rattle.class_model.specs.declared.class_file.Attr.{Attr}
use Rattle.class_model.specs.declared.class_file.Attr.TheVariants.{Code, Raw}
use Rattle.class_model.specs.declared.class_file.CodePart.{CodePart}
use Rattle.class_rewrite.specs.Rewriting.Folders.{with_part}

part_append : (part : CodePart) (front back : List Attr) → with_part part (front ++ back) ≡ with_part part front ++ with_part part back
part_append part [] back = refl
part_append part (Raw name bytes ∷ front) back = ap (λ (rest : List Attr). Raw name bytes ∷ rest) (part_append part front back)
part_append part (Code name old ∷ front) back = ap (λ (rest : List Attr). Code name part ∷ rest) (part_append part front back)

-- one more attribute
pub part_more : (part : CodePart) (attrs written : List Attr) (at : ℕ) (attr one : Attr) → at < length attrs → attr ≡ get_or attrs at attr
    → written ≡ with_part part (take at attrs)
    → with_part part (attr ∷ []) ≡ one ∷ []
    → written ++ one ∷ [] ≡ with_part part (take (at + 1) attrs)
part_more part attrs written at attr one within is so_far here =
    ap (λ (front : List Attr). front ++ one ∷ []) so_far
    ∙ ap (λ (back : List Attr). with_part part (take at attrs) ++ back) (sym here)
    ∙ sym (part_append part (take at attrs) (attr ∷ []))
    ∙ ap (λ (x : Attr). with_part part (take at attrs ++ x ∷ [])) is
    ∙ ap (with_part part) (sym (take_more attrs at attr within))
