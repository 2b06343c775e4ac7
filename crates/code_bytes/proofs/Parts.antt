-- Bytes cut into parts of one length.
use Rattle.std.proofs.Common.{◌≡◌, ℕ, zero, suc, ◌+◌, ◌*◌, ◌/◌, ◌<◌, ◌≤◌, List, ◌∷◌, length, take, drop, refl, ap, ◌∙◌, arith}
use Rattle.std.proofs.Math.Nat.{mul-div-le, mul-le-mul_left}
use Rattle.std.specs.List.{slice_range}
use Rattle.std.specs.Simd.{first_chunks}
use Rattle.std.proofs.lemmas.List.{length-drop}
use Rattle.std.proofs.lemmas.Slice.{between_to_end, between_from_start}

length-first_chunks : (n count : ℕ) (xs : List ℕ) → length (first_chunks n count xs) ≡ count
length-first_chunks n zero xs = refl
length-first_chunks n (suc count) xs = ap suc (length-first_chunks n count (drop n xs))

-- fewer parts
take-first_chunks : (n count all : ℕ) (xs : List ℕ) → count ≤ all → take count (first_chunks n all xs) ≡ first_chunks n count xs
take-first_chunks n zero all xs few = refl
take-first_chunks n (suc count) zero xs few = absurd (omega (arith, few))
take-first_chunks n (suc count) (suc all) xs few = ap (λ (parts : List (List ℕ)). take n xs ∷ parts) (take-first_chunks n count all (drop n xs) (omega (arith, few)))

-- so many of the parts behind a place
pub some_parts : (n count from : ℕ) (bytes rest : List ℕ) (all parts : List (List ℕ)) → 0 < n → from ≤ length bytes → rest ≡ slice_range bytes from (length bytes) → all ≡ first_chunks n (length rest / n) rest
    → count ≤ length all → parts ≡ slice_range all 0 count → (from + n * count ≤ length bytes) × (parts ≡ first_chunks n count (drop from bytes))
some_parts n count from bytes rest all parts some inside rest_is all_is few parts_is =
    let behind : rest ≡ drop from bytes = rest_is ∙ between_to_end bytes from (length bytes) (omega arith) in
    let all_len : length all ≡ length rest / n = ap length all_is ∙ length-first_chunks n (length rest / n) rest in
    let enough : count ≤ length rest / n = omega (arith, few, all_len) in (
      omega (arith, mul-le-mul_left n enough, mul-div-le (length rest) n, ap length behind, length-drop from bytes),
      parts_is ∙ between_from_start all count ∙ ap (take count) all_is ∙ take-first_chunks n count (length rest / n) rest enough ∙ ap (first_chunks n count) behind,
    )
