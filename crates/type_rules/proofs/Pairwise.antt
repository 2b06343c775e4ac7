-- A test of the pairs of two lists.
use Rattle.std.proofs.Common.{◌≡◌, ◌↔◌, ◌<◌, ℕ, zero, suc, Bool, true, false, IsTrue, List, [], ◌∷◌, length, map, refl, arith}
use Rattle.std.specs.Bool.{MatchBool}
use Rattle.std.specs.List.{AllWithin, AllZip, HoldsAt, zip}
use Rattle.std.proofs.lemmas.Bool.{false≢true}
use Rattle.class_model.specs.declared.frame.VType.{VType}
use Rattle.class_tree.specs.Headers.{Headers}
use Rattle.member_link.specs.Assignability.{IsAssignable}
use Rattle.member_link.specs.RowScope.{RowScope}
use Rattle.member_link.specs.Rows.FrameAssignability.{AreAssignable}
use Rattle.member_link.specs.Rows.Operands.{Need, Fits, AllFit}

each_pair : {A B : Type 0} (R : A → B → Type 0) (xs : List A) (ys : List B) → length xs ≡ length ys → AllWithin (λ p. R p.0 p.1) (zip xs ys) 0 (length (zip xs ys)) → AllZip R xs ys
each_pair R [] [] long within = tt
each_pair R [] (y ∷ ys) long within = absurd (omega (arith, long))
each_pair R (x ∷ xs) [] long within = absurd (omega (arith, long))
each_pair R (x ∷ xs) (y ∷ ys) long within = (within 0 (x, y) (omega arith) (omega arith), each_pair R xs ys (omega (arith, long)) (λ k d low high. within (suc k) d (omega arith) (omega (arith, high))))

no_pair : {A B : Type 0} (R : A → B → Type 0) (xs : List A) (ys : List B) (k : ℕ) → AllZip R xs ys → k < length (zip xs ys) → HoldsAt (λ p. ¬ R p.0 p.1) (zip xs ys) k → ⊥
no_pair R [] ys k all below at = omega (arith, below)
no_pair R (x ∷ xs) [] k all below at = omega (arith, below)
no_pair R (x ∷ xs) (y ∷ ys) zero all below at = at (x, y) all.0
no_pair R (x ∷ xs) (y ∷ ys) (suc k) all below at = no_pair R xs ys k all.1 (omega (arith, below)) (λ d. at d)

-- a test of all pairs tests the lists
pub pairs_decide : {A B : Type 0} (R : A → B → Type 0) (xs : List A) (ys : List B) (answer : Bool) → length xs ≡ length ys → MatchBool answer (AllWithin (λ p. R p.0 p.1) (zip xs ys) 0 (length (zip xs ys))) ((k : ℕ) × (k < length (zip xs ys)) × HoldsAt (λ p. ¬ R p.0 p.1) (zip xs ys) k) → IsTrue answer ↔ AllZip R xs ys
pairs_decide R xs ys true long within = (λ yes. each_pair R xs ys long within, λ all. refl)
pairs_decide R xs ys false long failed = (λ yes. absurd (false≢true yes), λ all. absurd (no_pair R xs ys failed.0 all failed.1 failed.2))

pub are_assignable_pairs : (headers : Headers) (lows highs : List VType) → AllZip (IsAssignable headers) lows highs ↔ AreAssignable headers lows highs
are_assignable_pairs headers [] [] = (λ all. tt, λ all. tt)
are_assignable_pairs headers [] (high ∷ highs) = (λ all. absurd all, λ all. absurd all)
are_assignable_pairs headers (low ∷ lows) [] = (λ all. absurd all, λ all. absurd all)
are_assignable_pairs headers (low ∷ lows) (high ∷ highs) =
    let rest = are_assignable_pairs headers lows highs in
    (λ all. (all.0, rest.0 all.1), λ all. (all.0, rest.1 all.1))

pub are_as_long : (headers : Headers) (lows highs : List VType) → AreAssignable headers lows highs → length lows ≡ length highs
are_as_long headers [] [] all = refl
are_as_long headers [] (high ∷ highs) all = absurd all
are_as_long headers (low ∷ lows) [] all = absurd all
are_as_long headers (low ∷ lows) (high ∷ highs) all = omega (arith, are_as_long headers lows highs all.1)

-- needs by what they mean
pub all_fit_pairs : {A : Type 0} (s : RowScope) (meant : A → Need) (needs : List A) (types : List VType) → AllZip (λ need type. Fits s (meant need) type) needs types ↔ AllFit s (map meant needs) types
all_fit_pairs s meant [] [] = (λ all. tt, λ all. tt)
all_fit_pairs s meant [] (type ∷ types) = (λ all. absurd all, λ all. absurd all)
all_fit_pairs s meant (need ∷ needs) [] = (λ all. absurd all, λ all. absurd all)
all_fit_pairs s meant (need ∷ needs) (type ∷ types) =
    let rest = all_fit_pairs s meant needs types in
    (λ all. (all.0, rest.0 all.1), λ all. (all.0, rest.1 all.1))

pub fit_as_long : {A : Type 0} (s : RowScope) (meant : A → Need) (needs : List A) (types : List VType) → AllFit s (map meant needs) types → length needs ≡ length types
fit_as_long s meant [] [] all = refl
fit_as_long s meant [] (type ∷ types) all = absurd all
fit_as_long s meant (need ∷ needs) [] all = absurd all
fit_as_long s meant (need ∷ needs) (type ∷ types) all = omega (arith, fit_as_long s meant needs types all.1)
