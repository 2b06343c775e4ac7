-- Keys that increase.
use Rattle.std.proofs.Common.{◌≡◌, ℕ, zero, suc, ◌+◌, ◌<◌, Bool, true, false, ◌&&◌, List, [], ◌∷◌, length, get_or, refl, ap, arith}
use Rattle.std.specs.Prelude.{int_lt}
use Rattle.std.specs.List.{IsAllAdjacentAnswer}
use Rattle.class_model.specs.Instructions.{keys_increase}
use Rattle.class_model.specs.declared.instr.Pair.{Pair}

abbrev before : Pair → Pair → Bool
before pair next = int_lt pair.key next.key

and_false : (test : Bool) → false ≡ test && false
and_false true = refl
and_false false = refl

increase : (pairs : List Pair) → ((k j : ℕ) (d : Pair) → j ≡ suc k → j < length pairs → true ≡ before (get_or pairs k d) (get_or pairs j d)) → true ≡ keys_increase pairs
increase [] each = refl
increase (p ∷ []) each = refl
increase (p ∷ q ∷ pairs) each =
    let first : true ≡ before p q = each 0 1 p refl (omega arith) in
    let others = increase (q ∷ pairs) (λ k j d e lt. each (suc k) (suc j) d (ap suc e) (omega arith)) in
    rw (← first) others

do_not : (pairs : List Pair) (k j : ℕ) → j ≡ suc k → j < length pairs → ((d : Pair) → false ≡ before (get_or pairs k d) (get_or pairs j d)) → false ≡ keys_increase pairs
do_not [] k j e lt here = absurd (omega arith)
do_not (p ∷ []) k j e lt here = absurd (omega arith)
do_not (p ∷ q ∷ pairs) k zero e lt here = absurd (omega arith)
do_not (p ∷ q ∷ pairs) (suc k) (suc j) e lt here = let others = do_not (q ∷ pairs) k j (omega arith) (omega arith) here in rw (← others) (and_false (before p q))
do_not (p ∷ q ∷ pairs) zero (suc zero) e lt here = let first : false ≡ before p q = here p in rw (← first) refl
do_not (p ∷ q ∷ pairs) zero (suc (suc j)) e lt here = absurd (omega arith)

pub keys_are_told : (pairs : List Pair) (result : Bool) → IsAllAdjacentAnswer (λ x y b. b ≡ before x y) pairs result → result ≡ keys_increase pairs
keys_are_told pairs true h = increase pairs (λ k j d e lt. let next : j ≡ k + 1 = omega arith in rw next (h k d (omega arith)))
keys_are_told pairs false h = do_not pairs h.0 (h.0 + 1) (omega arith) h.1 h.2
