-- The top of frames whose list has the top last.
use Rattle.std.proofs.Common.{◌≡◌, ℕ, ◌-◌, List, [], ◌∷◌, ◌++◌, length, get_or, reverse, slice_get, slice_set, Some, refl, sym, ap, ◌∙◌, arith}
use Rattle.std.proofs.lemmas.List.{reverse-append, reverse-reverse, length-reverse}
use Rattle.std.proofs.lemmas.Option.{get_or_from_slice_get}

module _ {X : Type 0} where
  got_last : (front : List X) (x : X) → slice_get (front ++ x ∷ []) (length front) ≡ Some x
  got_last [] x = refl
  got_last (y ∷ front) x = got_last front x

  put_last : (front : List X) (x y : X) → slice_set (front ++ x ∷ []) (length front) y ≡ front ++ y ∷ []
  put_last [] x y = refl
  put_last (z ∷ front) x y = ap (λ xs. z ∷ xs) (put_last front x y)

  -- the list of frames whose top is this one
  pub below_top : (xs : List X) (x : X) (rest : List X) → reverse xs ≡ x ∷ rest → xs ≡ reverse rest ++ x ∷ []
  below_top xs x rest is = sym (reverse-reverse xs) ∙ ap reverse is ∙ reverse-append (x ∷ []) rest

  pub last_number : (xs : List X) (x : X) (rest : List X) → reverse xs ≡ x ∷ rest → length xs - 1 ≡ length (reverse rest)
  last_number xs x rest is =
      let many : length xs ≡ length (x ∷ rest) = sym (length-reverse xs) ∙ ap length is in
      let front : length (reverse rest) ≡ length rest = length-reverse rest in
      omega (arith, many, front)

  pub top_got : (xs : List X) (x : X) (rest : List X) → reverse xs ≡ x ∷ rest → slice_get xs (length xs - 1) ≡ Some x
  top_got xs x rest is =
      ap (slice_get xs) (last_number xs x rest is)
      ∙ ap (λ xs. slice_get xs (length (reverse rest))) (below_top xs x rest is)
      ∙ got_last (reverse rest) x

  pub top_put :
      (xs : List X) (x y : X) (rest : List X)
      → reverse xs ≡ x ∷ rest
      → reverse (slice_set xs (length xs - 1) y) ≡ y ∷ rest
  top_put xs x y rest is =
      ap reverse
      (ap (λ n. slice_set xs n y) (last_number xs x rest is)
      ∙ ap (λ xs. slice_set xs (length (reverse rest)) y) (below_top xs x rest is)
      ∙ put_last (reverse rest) x y)
      ∙ reverse-append (reverse rest) (y ∷ [])
      ∙ ap (λ xs. y ∷ xs) (reverse-reverse rest)

  -- what was read at the last index, and what the list is with another item there
  pub top_read :
      (xs : List X) (x : X) (rest : List X) (len : ℕ) (got : X)
      → reverse xs ≡ x ∷ rest
      → len ≡ length xs
      → got ≡ get_or xs (len - 1) got
      → got ≡ x
  top_read xs x rest len got is many read =
      read
      ∙ ap (λ n. get_or xs (n - 1) got) many
      ∙ get_or_from_slice_get xs (length xs - 1) x got (top_got xs x rest is)

  pub top_set :
      (xs : List X) (x y : X) (rest : List X) (len : ℕ)
      → reverse xs ≡ x ∷ rest
      → len ≡ length xs
      → reverse (slice_set xs (len - 1) y) ≡ y ∷ rest
  top_set xs x y rest len is many = ap (λ n. reverse (slice_set xs (n - 1) y)) many ∙ top_put xs x y rest is
