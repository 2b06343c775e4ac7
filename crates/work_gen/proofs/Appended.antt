-- A loop that appends what a function gives of each item.
use Rattle.std.proofs.Common.{◌≡◌, ◌+◌, ◌<◌, ◌≤◌, ℕ, suc, List, [], ◌∷◌, ◌++◌, length, map, take, get_or, sym, ap, ◌∙◌, arith}
use Rattle.std.proofs.Math.Seq.{take-suc}
use Rattle.std.proofs.lemmas.List.{take_all, map-append, append_assoc}
use Rattle.std.proofs.lemmas.Simd.{map-map}

pub one_appended : {X Y : Type 0} (f : X → Y) (done : List Y) (items : List X) (i : ℕ) (d : X) → i < length items
    → (done ++ map f (take i items)) ++ f (get_or items i d) ∷ [] ≡ done ++ map f (take (i + 1) items)
one_appended f done items i d within =
    let next : suc i ≡ i + 1 = omega arith in
    append_assoc done (map f (take i items)) (f (get_or items i d) ∷ [])
    ∙ ap (λ given. done ++ given) (sym (map-append f (take i items) (get_or items i d ∷ [])) ∙ ap (map f) (sym (take-suc items i d within) ∙ ap (λ n. take n items) next))

pub all_appended : {X Y Z : Type 0} (f : Y → Z) (g : X → Y) (done : List Z) (items : List X) (i : ℕ) → length items ≤ i
    → done ++ map (λ x. f (g x)) (take i items) ≡ done ++ map f (map g items)
all_appended f g done items i end =
    ap (λ given. done ++ given) (ap (map (λ x. f (g x))) (take_all i items end) ∙ sym (map-map f g items))

-- one more item behind what was appended before
pub appended_more : {X : Type 0} (old some : List X) (x : X) {before all : List X}
    → all ≡ before ++ x ∷ []
    → before ≡ old ++ some
    → all ≡ old ++ (some ++ x ∷ [])
appended_more old some x last before =
    last ∙ ap (λ done. done ++ x ∷ []) before ∙ append_assoc old some (x ∷ [])
