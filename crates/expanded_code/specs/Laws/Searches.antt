-- What a search decides: whether something holds of an item of a list, of each, or of a number below another.
use Rattle.std.proofs.Common.{◌≡◌, ◌⊎◌, ◌<◌, ◌≤◌, ℕ, zero, suc, List, [], ◌∷◌, slice_get, Option, Some, None, IfSome, refl, sym, ap, subst, inl, inr, arith}
use Rattle.std.specs.List.{AllByRecursion}
use Rattle.std.proofs.lemmas.Bool.{cases_eq, cases_lt}
use Rattle.std.proofs.lemmas.Option.{none-some, same_Some}
use Rattle.class_model.specs.Laws.Decisions.{Decision, both, denied, mapped}

-- ---- words of logic

pub three : {P Q R : Type 0} → Decision P → Decision Q → Decision R → Decision (P × Q × R)
three p q r = mapped (λ h. (h.0, h.1.0, h.1.1)) (λ h. (h.0, (h.1, h.2))) (both p (both q r))

pub less : (one other : ℕ) → Decision (one < other)
less one other = elim (cases_lt one other) [ inl low ↦ inl low | inr high ↦ inr (λ low. omega (arith, low, high)) ]

pub at_most : (one other : ℕ) → Decision (one ≤ other)
at_most one other = elim (cases_lt other one) [ inl high ↦ inr (λ low. omega (arith, low, high)) | inr low ↦ inl low ]

pub empty : {A : Type 0} (items : List A) → Decision (items ≡ [])
empty [] = inl refl
empty (item ∷ items) = inr (λ e. absurd cc)

-- ---- an item of a list, and of an option

pub record HasOne {A : Type 0} (items : List A) (P : ℕ → A → Type 0) : Type 0 where
  pub number : ℕ
  pub item : A
  pub is : slice_get items number ≡ Some item
  pub holds : P number item

pub record HasSome {A : Type 0} (found : Option A) (P : A → Type 0) : Type 0 where
  pub item : A
  pub is : found ≡ Some item
  pub holds : P item

first_or_other : {A : Type 0} (item : A) (items : List A) (P : ℕ → A → Type 0) (number : ℕ) (found : A)
    → slice_get (item ∷ items) number ≡ Some found
    → P number found
    → P 0 item ⊎ HasOne items (λ n. P (suc n))
first_or_other item items P zero found is holds = inl (subst (P 0) (sym (same_Some item found is)) holds)
first_or_other item items P (suc number) found is holds = inr (record { number = number; item = found; is = is; holds = holds })

pub one_decided : {A : Type 0} (items : List A) (P : ℕ → A → Type 0)
    → ((number : ℕ) (item : A) → slice_get items number ≡ Some item → Decision (P number item))
    → Decision (HasOne items P)
one_decided [] P each = inr (λ one. none-some one.item one.is)
one_decided (item ∷ items) P each = elim (each 0 item refl) [
  | inl holds ↦ inl (record { number = 0; item = item; is = refl; holds = holds })
  | inr fails ↦ elim (one_decided items (λ n. P (suc n)) (λ n x is. each (suc n) x is)) [
    | inl one ↦ inl (record { number = suc one.number; item = one.item; is = one.is; holds = one.holds })
    | inr none ↦ inr (λ one. elim (first_or_other item items P one.number one.item one.is one.holds) [ inl here ↦ fails here | inr there ↦ none there ])
  ]
]

pub some_decided : {A : Type 0} (found : Option A) (P : A → Type 0)
    → ((item : A) → found ≡ Some item → Decision (P item))
    → Decision (HasSome found P)
some_decided None P each = inr (λ some. none-some some.item some.is)
some_decided (Some item) P each =
    mapped (λ holds. record { item = item; is = refl; holds = holds }) (λ some. subst P (sym (same_Some item some.item some.is)) some.holds)
    (each item refl)

-- ---- each item

pub each_decided : {A : Type 0} (items : List A) (P : ℕ → A → Type 0)
    → ((number : ℕ) (item : A) → slice_get items number ≡ Some item → Decision (P number item))
    → Decision ((number : ℕ) (item : A) → slice_get items number ≡ Some item → P number item)
each_decided {A} items P each = by (one_decided items (λ n x. ¬ P n x) (λ n x is. denied (each n x is))) where
  one_of : (fails : ¬ HasOne items (λ n x. ¬ P n x)) (number : ℕ) (item : A) (is : slice_get items number ≡ Some item) → Decision (P number item) → P number item
  one_of fails number item is (inl holds) = holds
  one_of fails number item is (inr not) = absurd (fails (record { number = number; item = item; is = is; holds = not }))

  by : Decision (HasOne items (λ n x. ¬ P n x)) → Decision ((number : ℕ) (item : A) → slice_get items number ≡ Some item → P number item)
  by (inl one) = inr (λ all. one.holds (all one.number one.item one.is))
  by (inr none) = inl (λ number item is. one_of none number item is (each number item is))

pub all_decided : {A : Type 0} (P : A → Type 0) → ((item : A) → Decision (P item)) → (items : List A) → Decision (AllByRecursion P items)
all_decided P each [] = inl tt
all_decided P each (item ∷ items) = both (each item) (all_decided P each items)

-- what is asked of an option's item, if there is one
pub if_decided : {A : Type 0} (found : Option A) (P : A → Type 0)
    → ((item : A) → found ≡ Some item → Decision (P item))
    → Decision ((item : A) → found ≡ Some item → P item)
if_decided None P each = inl (λ item is. absurd (none-some item is))
if_decided (Some first) P each =
    mapped (λ holds item is. subst P (same_Some first item is) holds) (λ all. all first refl)
    (each first refl)

pub if_some_decided : {A : Type 0} (P : A → Type 0) → ((item : A) → Decision (P item)) → (found : Option A) → Decision (IfSome found P)
if_some_decided P each None = inl tt
if_some_decided P each (Some item) = each item

-- it is this one
pub is_item : {A : Type 0} → ((one other : A) → Decision (one ≡ other)) → (found : Option A) (item : A) → Decision (found ≡ Some item)
is_item same None item = inr (λ e. none-some item e)
is_item {A} same (Some one) item = mapped (λ e. ap (λ (x : A). Some x) e) (λ e. same_Some one item e) (same one item)

-- ---- numbers below one

pub record HasBelow (count : ℕ) (P : ℕ → Type 0) : Type 0 where
  pub number : ℕ
  pub below : number < count
  pub holds : P number

pub below_decided : (P : ℕ → Type 0) → ((number : ℕ) → Decision (P number)) → (count : ℕ) → Decision (HasBelow count P)
below_decided P each zero = inr (λ has. let low = has.below in omega (arith, low))
below_decided P each (suc count) = elim (each count) [
  | inl holds ↦ inl (record { number = count; below = omega arith; holds = holds })
  | inr fails ↦ elim (below_decided P each count) [
    | inl has ↦ inl (record { number = has.number; below = omega (arith, has.below); holds = has.holds })
    | inr none ↦ inr (λ has. elim (cases_eq has.number count) [
      | inl same ↦ fails (subst P same has.holds)
      | inr other ↦ none (record { number = has.number; below = omega (arith, other, has.below); holds = has.holds })
    ])
  ]
]

pub each_below_decided : (P : ℕ → Type 0) → ((number : ℕ) → Decision (P number)) → (count : ℕ) → Decision ((number : ℕ) → number < count → P number)
each_below_decided P each count = by (below_decided (λ n. ¬ P n) (λ n. denied (each n)) count) where
  one_of : (¬ HasBelow count (λ n. ¬ P n)) → (number : ℕ) → number < count → Decision (P number) → P number
  one_of none number low (inl holds) = holds
  one_of none number low (inr fails) = absurd (none (record { number = number; below = low; holds = fails }))

  by : Decision (HasBelow count (λ n. ¬ P n)) → Decision ((number : ℕ) → number < count → P number)
  by (inl has) = inr (λ all. has.holds (all has.number has.below))
  by (inr none) = inl (λ number low. one_of none number low (each number))

-- ---- what is asked under a condition

-- the condition's decision is known where the rest is asked
pub given : {P Q : Type 0} → Decision P → (P → Decision Q) → Decision (P × Q)
given (inl p) q = mapped (λ holds. (p, holds)) (λ h. h.1) (q p)
given (inr fails) q = inr (λ h. fails h.0)
