-- The names of generated methods: where they stand in the pool, and that they differ.
use Rattle.std.proofs.Common.{◌≡◌, ◌+◌, ◌<◌, ◌≤◌, ℕ, zero, suc, Bool, true, false, List, [], ◌∷◌, ◌++◌, length, slice_get, Some, refl, ap, ◌∙◌, bytes_eq, arith}
use Rattle.std.specs.List.{list_all}
use Rattle.std.proofs.lemmas.Fmt.{decimal_injective}
use Rattle.std.proofs.lemmas.List.Folds.{list_any-append}
use Rattle.std.proofs.lemmas.Slice.Eq.{bytes_eq-Decides}
use Rattle.std.specs.Fmt.{digits}
use Rattle.class_model.specs.Members.{Signature, same_signature, stands_before}
use Rattle.class_model.specs.Names.{IsMethodName}
use Rattle.class_model.specs.Pool.{Constants}
use Rattle.class_model.specs.PoolChecks.{utf8_at}
use Rattle.work_gen.specs.Generated.{indexed, method_name, name_constant, work_constants}
use Rattle.work_gen.specs.declared.choices.Choice.{Choice}
use Rattle.work_gen.proofs.Indexed.{names}
use Rattle.work_gen.specs.Laws.Below.{below, passes_below}
use Rattle.work_gen.proofs.PlainNames as plain_names
use Rattle.work_gen.proofs.PlainNames.{is_unqualified, is_no_angle}

-- ---- where they stand

behind : {X : Type 0} (xs ys : List X) (n : ℕ) → slice_get (xs ++ ys) (length xs + n) ≡ slice_get ys n
behind [] ys n =
    let none : 0 + n ≡ n = omega arith in
    ap (slice_get ys) none
behind (x ∷ xs) ys n =
    let one : suc (length xs) + n ≡ suc (length xs + n) = omega arith in
    ap (slice_get (x ∷ (xs ++ ys))) one ∙ behind xs ys n

named_from : (number : ℕ) (chosen : List Choice) (n : ℕ) → n < length chosen → slice_get (indexed names number chosen) n ≡ Some (Some (name_constant (number + n)))
named_from number [] n within = absurd (omega (arith, within))
named_from number (choice ∷ chosen) zero within =
    let same : number ≡ number + 0 = omega arith in
    ap (λ (at : ℕ). Some (Some (name_constant at))) same
named_from number (choice ∷ chosen) (suc n) within =
    let same : suc number + n ≡ number + suc n = omega arith in
    named_from (suc number) chosen n (omega (arith, within)) ∙ ap (λ (at : ℕ). Some (Some (name_constant at))) same

-- the text of the name of a method
pub is_named : (chosen : List Choice) (n : ℕ) → n < length chosen → utf8_at (work_constants ++ indexed names 0 chosen) (30 + n) ≡ Some (method_name n)
is_named chosen n within =
    let same : 0 + n ≡ n = omega arith in
    let at : slice_get (work_constants ++ indexed names 0 chosen) (30 + n) ≡ Some (Some (name_constant n)) =
    behind work_constants (indexed names 0 chosen) n ∙ named_from 0 chosen n within ∙ ap (λ (at : ℕ). Some (Some (name_constant at))) same
    in
    rw at refl

-- ---- they differ

is_false : (test : Bool) → ¬ (test ≡ true) → test ≡ false
is_false true never = absurd (never refl)
is_false false never = refl

abbrev tail_of : List ℕ → List ℕ
tail_of [] = []
tail_of (byte ∷ bytes) = bytes

names_differ : (m n : ℕ) → n < m → m ≤ 1000 → bytes_eq (method_name m) (method_name n) ≡ false
names_differ m n less few =
    is_false (bytes_eq (method_name m) (method_name n)) (λ same.
    let equal : m ≡ n = decimal_injective m n (omega (arith, few)) (omega (arith, few, less)) (ap tail_of ((bytes_eq-Decides (method_name m) (method_name n)).0 same)) in
    absurd (omega (arith, less, equal)))

-- the name and descriptor of a method
abbrev pub signature_of : ℕ → Signature
signature_of number = record { name = 30 + number; desc = 6 }

-- those of the first methods
abbrev pub signatures : ℕ → List Signature
signatures zero = []
signatures (suc count) = signatures count ++ signature_of count ∷ []

-- a method has another name than those before it
pub none_before : (pool : Constants) (m : ℕ) → m ≤ 1000 → ((n : ℕ) → n ≤ m → utf8_at pool (30 + n) ≡ Some (method_name n))
    → (count : ℕ) → count ≤ m → stands_before pool (signatures count) (signature_of m) ≡ false
none_before pool m few named zero within = refl
none_before pool m few named (suc count) within =
    let less : count < m = omega (arith, within) in
    let here : same_signature pool (signature_of m) (signature_of count) ≡ false =
    rw (named m (omega arith), named count (omega (arith, within)), names_differ m count less few) refl
    in
    list_any-append (same_signature pool (signature_of m)) (signatures count) (signature_of count ∷ [])
    ∙ rw (none_before pool m few named count (omega (arith, within)), here) refl

-- ---- they are names

unqualified_names : below 1001 (λ number. is_unqualified (method_name number)) ≡ true
unfolding digits
unqualified_names = refl

open_names : below 1001 (λ number. list_all is_no_angle (method_name number)) ≡ true
unfolding digits
open_names = refl

pub is_method_name : (number : ℕ) → number ≤ 1000 → IsMethodName (method_name number)
is_method_name number few =
    plain_names.method_name (method_name number)
    (passes_below 1001 (λ n. is_unqualified (method_name n)) unqualified_names number (omega (arith, few)))
    (passes_below 1001 (λ n. list_all is_no_angle (method_name n)) open_names number (omega (arith, few)))
