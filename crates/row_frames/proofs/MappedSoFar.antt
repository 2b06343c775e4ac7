-- A list whose items are mapped one after another.
use Rattle.std.proofs.Common.{◌≡◌, ℕ, zero, suc, ◌≤◌, List, [], ◌∷◌, ◌++◌, length, map, take, drop, slice_get, slice_set, replicate, Some, ◌-◌, refl, ap, sym, subst, ◌∙◌, arith}
use Rattle.class_model.specs.declared.frame.VType.{VType}
use Rattle.class_model.specs.declared.frame.VType.TheVariants.{Top}

-- the first so many are mapped
abbrev pub mapped_to : (VType → VType) → ℕ → List VType → List VType
mapped_to f i xs = map f (take i xs) ++ drop i xs

pub mapped_to-length : (f : VType → VType) (i : ℕ) (xs : List VType) → length (mapped_to f i xs) ≡ length xs
mapped_to-length f zero xs = refl
mapped_to-length f (suc i) [] = refl
mapped_to-length f (suc i) (x ∷ xs) = ap suc (mapped_to-length f i xs)

-- the next is set
pub next_mapped : (f : VType → VType) (xs after : List VType) (i : ℕ) (x : VType) → slice_get xs i ≡ Some x → after ≡ mapped_to f i xs → slice_set after i (f x) ≡ mapped_to f (suc i) xs
next_mapped f xs after i x there is = ap (λ (list : List VType). slice_set list i (f x)) is ∙ set_next xs i there
  where
    set_next : (xs : List VType) (i : ℕ) → slice_get xs i ≡ Some x → slice_set (mapped_to f i xs) i (f x) ≡ mapped_to f (suc i) xs
    set_next [] i there = absurd (cc there)
    set_next (first ∷ xs) zero there =
        let same : x ≡ first = cc there in
        ap (λ (y : VType). f y ∷ xs) same
    set_next (first ∷ xs) (suc i) there = ap (λ (list : List VType). f first ∷ list) (set_next xs i there)

-- the next stays, since it is mapped to itself
pub next_kept : (f : VType → VType) (xs after : List VType) (i : ℕ) (x : VType) → slice_get xs i ≡ Some x → f x ≡ x → after ≡ mapped_to f i xs → after ≡ mapped_to f (suc i) xs
next_kept f xs after i x there kept is = is ∙ keep_next xs i there
  where
    keep_next : (xs : List VType) (i : ℕ) → slice_get xs i ≡ Some x → mapped_to f i xs ≡ mapped_to f (suc i) xs
    keep_next [] i there = absurd (cc there)
    keep_next (first ∷ xs) zero there =
        let same : x ≡ first = cc there in
        ap (λ (y : VType). y ∷ xs) (sym same ∙ sym kept ∙ ap f same)
    keep_next (first ∷ xs) (suc i) there = ap (λ (list : List VType). f first ∷ list) (keep_next xs i there)

-- all are mapped, since those behind are Top
pub all_mapped : (f : VType → VType) (xs after : List VType) (i n : ℕ) → f Top ≡ Top → n ≤ i → i ≤ n → drop n xs ≡ replicate (length xs - n) Top → after ≡ mapped_to f i xs → after ≡ map f xs
all_mapped f xs after i n kept low high tops is =
    let same : n ≡ i = omega (arith, low, high) in
    is ∙ to_end xs i (subst (λ k. drop k xs ≡ replicate (length xs - k) Top) same tops)
  where
    tops_kept : (k : ℕ) → replicate k Top ≡ map f (replicate k Top)
    tops_kept zero = refl
    tops_kept (suc k) = ap (λ (type : VType). type ∷ replicate k Top) (sym kept) ∙ ap (λ (list : List VType). f Top ∷ list) (tops_kept k)

    to_end : (xs : List VType) (i : ℕ) → drop i xs ≡ replicate (length xs - i) Top → mapped_to f i xs ≡ map f xs
    to_end xs zero tops = subst (λ (list : List VType). list ≡ map f list) (sym tops) (tops_kept (length xs - zero))
    to_end [] (suc i) tops = refl
    to_end (x ∷ xs) (suc i) tops = ap (λ (list : List VType). f x ∷ list) (to_end xs i (tops ∙ ap (λ k. replicate k Top) (omega arith)))
