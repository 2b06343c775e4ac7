-- A test of all numbers below one, which the checker computes.
use Rattle.std.proofs.Common.{◌≡◌, ◌⊎◌, inl, inr, ◌&&◌, ◌<◌, ℕ, zero, suc, Bool, true, refl, subst, sym, arith}
use Rattle.std.proofs.lemmas.Bool.{and_parts}

abbrev pub below : ℕ → (ℕ → Bool) → Bool
below zero test = true
below (suc count) test = test count && below count test

last_or_before : (number count : ℕ) → number < suc count → (number ≡ count) ⊎ (number < count)
last_or_before zero zero less = inl refl
last_or_before (suc number) zero less = absurd (omega (arith, less))
last_or_before zero (suc count) less = inr (omega arith)
last_or_before (suc number) (suc count) less = next (last_or_before number count (omega (arith, less)))
  where
    next : (number ≡ count) ⊎ (number < count) → (suc number ≡ suc count) ⊎ (suc number < suc count)
    next (inl same) = inl cc
    next (inr before) = inr (omega (arith, before))

by_last : (count : ℕ) (test : ℕ → Bool) → test count ≡ true → (number : ℕ) → (number < count → test number ≡ true) → (number ≡ count) ⊎ (number < count) → test number ≡ true
by_last count test last number others (inl same) = subst (λ (at : ℕ). test at ≡ true) (sym same) last
by_last count test last number others (inr before) = others before

pub passes_below : (count : ℕ) (test : ℕ → Bool) → below count test ≡ true → (number : ℕ) → number < count → test number ≡ true
passes_below zero test all number less = absurd (omega (arith, less))
passes_below (suc count) test all number less =
    let parts = and_parts (test count) (below count test) all in
    by_last count test parts.0 number (passes_below count test parts.1 number) (last_or_before number count less)
