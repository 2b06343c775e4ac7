-- What is decided: it holds, or it does not.
use Rattle.std.proofs.Common.{◌≡◌, ◌⊎◌, inl, inr, ℕ, ◌<◌, ◌≤◌, Bool, true, false, List, [], ◌∷◌, ◌++◌, Option, Some, None, IfSome, Result, Ok, Err, refl, arith}
use Rattle.std.specs.Prelude.{IsSome}
use Rattle.std.specs.List.{AllByRecursion}
use Rattle.std.proofs.lemmas.Bool.{cases_eq, cases_lt}
use Rattle.class_model.specs.Checks.{Check, Fault, AllHold, IsFirstFault, asked_if, asked_of}
use Rattle.class_model.specs.Laws.Decisions.{Decision, mapped, both}

-- ---- words of logic

pub three : {P Q R : Type 0} → Decision P → Decision Q → Decision R → Decision (P × Q × R)
three p q r = mapped (λ h. (h.0, h.1.0, h.1.1)) (λ h. (h.0, (h.1, h.2))) (both p (both q r))

pub four : {P Q R S : Type 0} → Decision P → Decision Q → Decision R → Decision S → Decision (P × Q × R × S)
four p q r s = mapped (λ h. (h.0, h.1.0, h.1.1, h.1.2)) (λ h. (h.0, (h.1, h.2, h.3))) (both p (three q r s))

-- ---- words on numbers, tests, lists and options

pub less : (n m : ℕ) → Decision (n < m)
less n m = elim (cases_lt n m) [ inl low ↦ inl low | inr high ↦ inr (λ low. omega (arith, low, high)) ]

pub at_most : (n m : ℕ) → Decision (n ≤ m)
at_most n m = elim (cases_lt m n) [ inl high ↦ inr (λ low. omega (arith, low, high)) | inr low ↦ inl low ]

pub equal_bytes : (xs ys : List ℕ) → Decision (xs ≡ ys)
equal_bytes [] [] = inl refl
equal_bytes [] (y ∷ ys) = inr (λ e. absurd cc)
equal_bytes (x ∷ xs) [] = inr (λ e. absurd cc)
equal_bytes (x ∷ xs) (y ∷ ys) =
    elim (cases_eq x y) [
      | inl same ↦ elim (equal_bytes xs ys) [
        | inl e ↦ inl cc
        | inr other ↦ inr (λ e. other cc)
      ]
      | inr other ↦ inr (λ e. other cc)
    ]

pub each : {A : Type 0} {P : A → Type 0} → ((x : A) → Decision (P x)) → (xs : List A) → Decision (AllByRecursion P xs)
each decides [] = inl tt
each decides (x ∷ xs) = both (decides x) (each decides xs)

pub if_some : {A : Type 0} {P : A → Type 0} → ((x : A) → Decision (P x)) → (option : Option A) → Decision (IfSome option P)
if_some decides None = inl tt
if_some decides (Some x) = decides x

pub is_some : {A : Type 0} → (option : Option A) → Decision (IsSome option)
is_some None = inr (λ h. absurd cc)
is_some (Some x) = inl refl

-- ---- checks

abbrev pub AllDecided : List (Check Fault) → Type 0
AllDecided [] = Unit {0}
AllDecided (c ∷ checks) = Decision c.holds × AllDecided checks

pub decided-append : (checks others : List (Check Fault)) → AllDecided checks → AllDecided others → AllDecided (checks ++ others)
decided-append [] others h k = k
decided-append (c ∷ checks) others h k = (h.0, decided-append checks others h.1 k)

pub decided_if : (test : Bool) (checks : List (Check Fault)) → AllDecided checks → AllDecided (asked_if test checks)
decided_if true checks h = h
decided_if false checks h = tt

pub decided_of : {X : Type 0} (part : Result X Fault) (asks : X → List (Check Fault)) → ((x : X) → AllDecided (asks x)) → AllDecided (asked_of part asks)
decided_of (Ok x) asks decides = decides x
decided_of (Err f) asks decides = (inr (λ h. h), tt)

-- all checks hold, or one is the first that does not
pub settled : (checks : List (Check Fault)) → AllDecided checks → AllHold checks ⊎ ((f : Fault) × IsFirstFault checks f)
settled [] h = inl tt
settled (c ∷ checks) h =
    elim h.0 [
      | inl holds ↦ elim (settled checks h.1) [
        | inl others ↦ inl (holds, others)
        | inr first ↦ inr (first.0, inr (holds, first.1))
      ]
      | inr fails ↦ inr (c.fault, inl (fails, refl))
    ]
