-- Lists that a test compares item by item.
use Rattle.std.proofs.Common.{◌≡◌, ◌≤◌, ◌<◌, ◌+◌, ◌-◌, ◌&&◌, max, ℕ, zero, suc, Bool, true, false, eqb, List, [], ◌∷◌, length, take, drop, replicate, sym, refl, ap, ◌∙◌, arith, add-one, Option, Some, None, Bor}
use Rattle.std.proofs.lemmas.Bool.{false≢true, false_from_ne_true, and_parts, ne_eqb}
use Rattle.std.proofs.Math.Bool.{and-true, and_assoc}
use Rattle.std.proofs.lemmas.List.{drop-drop, drop-replicate}
use Rattle.std.specs.Cmp.Lexicographic.{pointwise}
use Rattle.std.specs.List.{slice_get}
use Rattle.std.specs.Option.{option_copied, option_eq}

-- options of references
option_eq-copied : {X : Type 0} (E : X → X → Bool) (o p : Option (Bor X)) → option_eq (λ x y. E x.now y.now) o p ≡ option_eq E (option_copied o) (option_copied p)
option_eq-copied E None None = refl
option_eq-copied E None (Some y) = refl
option_eq-copied E (Some x) None = refl
option_eq-copied E (Some x) (Some y) = refl

-- the items up to the next
pointwise-take_suc : {X : Type 0} (E : X → X → Bool) (xs ys : List X) (i : ℕ) → pointwise E (take (suc i) xs) (take (suc i) ys) ≡ (pointwise E (take i xs) (take i ys) && option_eq E (slice_get xs i) (slice_get ys i))
pointwise-take_suc E [] [] zero = refl
pointwise-take_suc E [] [] (suc i) = refl
pointwise-take_suc E [] (y ∷ ys) zero = refl
pointwise-take_suc E [] (y ∷ ys) (suc i) = refl
pointwise-take_suc E (x ∷ xs) [] zero = refl
pointwise-take_suc E (x ∷ xs) [] (suc i) = refl
pointwise-take_suc E (x ∷ xs) (y ∷ ys) zero = and-true (E x y)
pointwise-take_suc E (x ∷ xs) (y ∷ ys) (suc i) = ap (λ rest. E x y && rest) (pointwise-take_suc E xs ys i) ∙ sym (and_assoc (E x y) (pointwise E (take i xs) (take i ys)) (option_eq E (slice_get xs i) (slice_get ys i)))

-- fewer items of lists that agree
pointwise-take_fewer : {X : Type 0} (E : X → X → Bool) (xs ys : List X) (i n : ℕ) → i ≤ n → pointwise E (take n xs) (take n ys) ≡ true → pointwise E (take i xs) (take i ys) ≡ true
pointwise-take_fewer E xs ys zero n h t = refl
pointwise-take_fewer E xs ys (suc i) zero h t = absurd (omega arith)
pointwise-take_fewer E [] [] (suc i) (suc n) h t = refl
pointwise-take_fewer E [] (y ∷ ys) (suc i) (suc n) h t = t
pointwise-take_fewer E (x ∷ xs) [] (suc i) (suc n) h t = t
pointwise-take_fewer E (x ∷ xs) (y ∷ ys) (suc i) (suc n) h t =
    let parts = and_parts (E x y) (pointwise E (take n xs) (take n ys)) t in
    rw (parts.0, pointwise-take_fewer E xs ys i n (omega arith) parts.1)

-- lists that agree are as long
pointwise-length : {X : Type 0} (E : X → X → Bool) (xs ys : List X) → pointwise E xs ys ≡ true → length xs ≡ length ys
pointwise-length E [] [] t = refl
pointwise-length E [] (y ∷ ys) t = absurd (false≢true t)
pointwise-length E (x ∷ xs) [] t = absurd (false≢true t)
pointwise-length E (x ∷ xs) (y ∷ ys) t = ap suc (pointwise-length E xs ys (and_parts (E x y) (pointwise E xs ys) t).1)

-- lists that begin and end alike
pointwise-split : {X : Type 0} (E : X → X → Bool) (xs ys : List X) (n : ℕ) → length xs ≡ length ys → pointwise E (drop n xs) (drop n ys) ≡ true → pointwise E (take n xs) (take n ys) ≡ pointwise E xs ys
pointwise-split E xs ys zero e t = sym t
pointwise-split E [] [] (suc n) e t = refl
pointwise-split E [] (y ∷ ys) (suc n) e t = refl
pointwise-split E (x ∷ xs) [] (suc n) e t = refl
pointwise-split E (x ∷ xs) (y ∷ ys) (suc n) e t = ap (λ rest. E x y && rest) (pointwise-split E xs ys n (omega arith) t)

pointwise-replicate : {X : Type 0} (E : X → X → Bool) (x : X) (n : ℕ) → E x x ≡ true → pointwise E (replicate n x) (replicate n x) ≡ true
pointwise-replicate E x zero t = refl
pointwise-replicate E x (suc n) t = rw (t, pointwise-replicate E x n t)

-- behind more items the rest is the same
drop-fill : {X : Type 0} (xs : List X) (x : X) (n m : ℕ) → n ≤ m → drop n xs ≡ replicate (length xs - n) x → drop m xs ≡ replicate (length xs - m) x
drop-fill xs x n m h e =
    let more : n + (m - n) ≡ m = omega arith in
    let fewer : length xs - n - (m - n) ≡ length xs - m = omega arith in
    ap (λ k. drop k xs) (sym more) ∙ (sym (drop-drop (m - n) n xs) ∙ (ap (drop (m - n)) e ∙ (drop-replicate (m - n) (length xs - n) x ∙ ap (λ k. replicate k x) fewer)))

-- lists of one length whose items from some on are the same
pub pointwise-filled : {X : Type 0} (E : X → X → Bool) (xs ys : List X) (x : X) (n m : ℕ) → E x x ≡ true → length xs ≡ length ys → drop n xs ≡ replicate (length xs - n) x → drop m ys ≡ replicate (length ys - m) x → pointwise E (take (max n m) xs) (take (max n m) ys) ≡ pointwise E xs ys
pointwise-filled E xs ys x n m t e ends others =
    let first : drop (max n m) xs ≡ replicate (length xs - max n m) x = drop-fill xs x n (max n m) (omega arith) ends in
    let second : drop (max n m) ys ≡ replicate (length ys - max n m) x = drop-fill ys x m (max n m) (omega arith) others in
    pointwise-split E xs ys (max n m) e (rw (first, second, e) (pointwise-replicate E x (length ys - max n m) t))

-- one item after another, where what is known of the next is an answer about references
pub pointwise-more : {X : Type 0} (E : X → X → Bool) (xs ys : List X) (i : ℕ) (o p : Option (Bor X)) → option_copied o ≡ slice_get xs i → option_copied p ≡ slice_get ys i → pointwise E (take (i + 1) xs) (take (i + 1) ys) ≡ (pointwise E (take i xs) (take i ys) && option_eq (λ x y. E x.now y.now) o p)
pointwise-more E xs ys i o p first second =
    ap (λ k. pointwise E (take k xs) (take k ys)) (add-one i)
    ∙ (pointwise-take_suc E xs ys i
    ∙ ap (λ t. pointwise E (take i xs) (take i ys) && t) (rw (← first, ← second) (sym (option_eq-copied E o p))))

-- an item that differs
pub pointwise-differs : {X : Type 0} (E : X → X → Bool) (xs ys : List X) (i n : ℕ) → pointwise E (take (i + 1) xs) (take (i + 1) ys) ≡ false → i < n → false ≡ pointwise E (take n xs) (take n ys)
pointwise-differs E xs ys i n f h = sym (false_from_ne_true _ (λ t. false≢true (sym f ∙ pointwise-take_fewer E xs ys (i + 1) n (omega arith) t)))

-- lists of other lengths
pub pointwise-longer : {X : Type 0} (E : X → X → Bool) (xs ys : List X) (n m : ℕ) → length xs ≡ n → length ys ≡ m → (n ≡ m → ⊥) → eqb n m ≡ pointwise E xs ys
pointwise-longer E xs ys n m first second ne = ne_eqb n m ne ∙ sym (false_from_ne_true (pointwise E xs ys) (λ t. ne (sym first ∙ (pointwise-length E xs ys t ∙ second))))
