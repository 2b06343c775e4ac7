-- Where a test of a list's items holds, one by one.
use Rattle.std.proofs.Common.{◌≡◌, ◌+◌, ◌<◌, ℕ, zero, suc, Bool, true, false, List, [], ◌∷◌, ◌++◌, map, length, take, get_or, ap, ◌∙◌, arith}
use Rattle.virtual_state.specs.Gaps.{true_from}

-- behind the first items of a list comes one at which the test holds
holds_from :
    {X : Type 0} (test : X → Bool) (items : List X) (first at : ℕ) (blank : X)
    → at < length items
    → test (get_or items at blank) ≡ true
    → true_from first (map test (take (suc at) items)) ≡ true_from first (map test (take at items)) ++ (first + at) ∷ []
holds_from test [] first at blank low holds = absurd (omega (arith, low))
holds_from test (item ∷ items) first zero blank low holds =
    let same : first ≡ first + 0 = omega arith in
    ap (λ (one : Bool). true_from first (one ∷ [])) holds ∙ ap (λ (number : ℕ). number ∷ []) same
holds_from test (item ∷ items) first (suc at) blank low holds =
    let same : suc first + at ≡ first + suc at = omega arith in
    begun (test item) (map test (take (suc at) items)) (map test (take at items)) (suc first + at) (first + suc at) (holds_from test items (suc first) at blank (omega (arith, low)) holds) same where
      begun : (one : Bool) (more tests : List Bool) (number also : ℕ) → true_from (suc first) more ≡ true_from (suc first) tests ++ number ∷ [] → number ≡ also → true_from first (one ∷ more) ≡ true_from first (one ∷ tests) ++ also ∷ []
      begun true more tests number also is same = λ i. first ∷ (is ∙ ap (λ (last : ℕ). true_from (suc first) tests ++ last ∷ []) same) i
      begun false more tests number also is same = is ∙ ap (λ (last : ℕ). true_from (suc first) tests ++ last ∷ []) same

-- behind them comes one at which it does not
fails_from :
    {X : Type 0} (test : X → Bool) (items : List X) (first at : ℕ) (blank : X)
    → at < length items
    → test (get_or items at blank) ≡ false
    → true_from first (map test (take (suc at) items)) ≡ true_from first (map test (take at items))
fails_from test [] first at blank low fails = absurd (omega (arith, low))
fails_from test (item ∷ items) first zero blank low fails = ap (λ (one : Bool). true_from first (one ∷ [])) fails
fails_from test (item ∷ items) first (suc at) blank low fails =
    begun (test item) (map test (take (suc at) items)) (map test (take at items)) (fails_from test items (suc first) at blank (omega (arith, low)) fails) where
      begun : (one : Bool) (more tests : List Bool) → true_from (suc first) more ≡ true_from (suc first) tests → true_from first (one ∷ more) ≡ true_from first (one ∷ tests)
      begun true more tests is = λ i. first ∷ is i
      begun false more tests is = is

pub one_more :
    {X : Type 0} (test : X → Bool) (items : List X) (at : ℕ) (blank : X)
    → at < length items
    → test (get_or items at blank) ≡ true
    → true_from 0 (map test (take (at + 1) items)) ≡ true_from 0 (map test (take at items)) ++ at ∷ []
one_more test items at blank low holds =
    let next : at + 1 ≡ suc at = omega arith in
    let same : 0 + at ≡ at = omega arith in
    ap (λ (count : ℕ). true_from 0 (map test (take count items))) next
    ∙ holds_from test items 0 at blank low holds
    ∙ ap (λ (number : ℕ). true_from 0 (map test (take at items)) ++ number ∷ []) same

pub none_more :
    {X : Type 0} (test : X → Bool) (items : List X) (at : ℕ) (blank : X)
    → at < length items
    → test (get_or items at blank) ≡ false
    → true_from 0 (map test (take (at + 1) items)) ≡ true_from 0 (map test (take at items))
none_more test items at blank low fails =
    let next : at + 1 ≡ suc at = omega arith in
    ap (λ (count : ℕ). true_from 0 (map test (take count items))) next ∙ fails_from test items 0 at blank low fails
