-- Checks asked one part after the other.
use Rattle.std.proofs.Common.{◌≡◌, ◌↔◌, ◌+◌, ◌<◌, ◌≤◌, ℕ, Bool, true, false, not, List, [], ◌∷◌, ◌++◌, length, drop, get_or, refl, sym, subst, ◌∙◌, inl, inr}
use Rattle.std.proofs.lemmas.Bool.{false≢true}
use Rattle.std.proofs.lemmas.List.{drop_more, drop_all}
use Rattle.class_model.specs.Checks.{Check, AllHold, IsFirstFault, asked_each}

pub both_hold : {F : Type 0} (a b : List (Check F)) → AllHold a → AllHold b → AllHold (a ++ b)
both_hold [] b h k = k
both_hold (c ∷ a) b h k = (h.0, both_hold a b h.1 k)

-- what holds of a check, and then of those behind it
infixr 5 ◌▸◌
abbrev pub ◌▸◌ : {A B : Type 0} → A → B → A × B
a ▸ b = (a, b)

pub first_holds : {F : Type 0} (a b : List (Check F)) → AllHold (a ++ b) → AllHold a
first_holds [] b h = tt
first_holds (c ∷ a) b h = (h.0, first_holds a b h.1)

pub others_hold : {F : Type 0} (a b : List (Check F)) → AllHold (a ++ b) → AllHold b
others_hold [] b h = h
others_hold (c ∷ a) b h = others_hold a b h.1

pub first_behind :
    {F : Type 0} (a b : List (Check F)) (f : F)
    → AllHold a
    → IsFirstFault b f
    → IsFirstFault (a ++ b) f
first_behind [] b f h first = first
first_behind (c ∷ a) b f h first = inr (h.0, first_behind a b f h.1 first)

pub first_before :
    {F : Type 0} (a b : List (Check F)) (f : F) → IsFirstFault a f → IsFirstFault (a ++ b) f
first_before [] b f first = absurd first
first_before (c ∷ a) b f (inl here) = inl here
first_before (c ∷ a) b f (inr later) = inr (later.0, first_before a b f later.1)

-- ---- checks tell one thing

pub one_fault :
    {F : Type 0} (checks : List (Check F)) (one other : F)
    → IsFirstFault checks one
    → IsFirstFault checks other
    → one ≡ other
one_fault [] one other h k = absurd h
one_fault (c ∷ checks) one other (inl a) (inl b) = a.1 ∙ sym b.1
one_fault (c ∷ checks) one other (inl a) (inr b) = absurd (a.0 b.0)
one_fault (c ∷ checks) one other (inr a) (inl b) = absurd (b.0 a.0)
one_fault (c ∷ checks) one other (inr a) (inr b) = one_fault checks one other a.1 b.1

pub all_or_fault :
    {F : Type 0} (checks : List (Check F)) (f : F) → AllHold checks → ¬ IsFirstFault checks f
all_or_fault [] f h k = k
all_or_fault (c ∷ checks) f h (inl b) = b.0 h.0
all_or_fault (c ∷ checks) f h (inr b) = all_or_fault checks f h.1 b.1

-- ---- checks that are left

-- Some of the checks hold, and these are left.
pub record Remain {F : Type 0} (whole left : List (Check F)) : Type 0 where
  pub hold : AllHold left → AllHold whole
  pub fail : (f : F) → IsFirstFault left f → IsFirstFault whole f

pub all_remain : {F : Type 0} (whole : List (Check F)) → Remain whole whole
all_remain whole = record { hold = λ h. h; fail = λ f first. first }

-- the first of them hold too
pub remain :
    {F : Type 0} {whole : List (Check F)} (a b : List (Check F))
    → Remain whole (a ++ b)
    → AllHold a
    → Remain whole b
remain a b left h = record { hold = λ k. left.hold (both_hold a b h k); fail = λ f first. left.fail f (first_behind a b f h first) }

-- one of the first fails
pub fails_first :
    {F : Type 0} {whole : List (Check F)} (a b : List (Check F)) (f : F)
    → Remain whole (a ++ b)
    → IsFirstFault a f
    → IsFirstFault whole f
fails_first a b f left first = left.fail f (first_before a b f first)

-- one check holds
pub passes :
    {F : Type 0} {whole rest : List (Check F)} {c : Check F}
    → Remain whole (c ∷ rest)
    → c.holds
    → Remain whole rest
passes left h = record { hold = λ k. left.hold (h, k); fail = λ f first. left.fail f (inr (h, first)) }

-- ---- what each of these is asked, one after the other

-- A loop over these is at an item: `is` is what the loop says of it.
pub asked_at :
    {F X : Type 0} {whole : List (Check F)} (asks : X → List (Check F)) (items : List X) (i : ℕ)
    (x : X)
    → i < length items
    → x ≡ get_or items i x
    → Remain whole (asked_each asks (drop i items))
    → Remain whole (asks x ++ asked_each asks (drop (i + 1) items))
asked_at {whole} asks items i x within is left =
    subst (λ item. Remain whole (asks item ++ asked_each asks (drop (i + 1) items))) (sym is)
    (subst (λ rest. Remain whole (asked_each asks rest)) (drop_more items i x within) left)

pub asked_all :
    {F X : Type 0} {whole : List (Check F)} (asks : X → List (Check F)) (items : List X) (i : ℕ)
    → length items ≤ i
    → Remain whole (asked_each asks (drop i items))
    → AllHold whole
asked_all {whole} asks items i end left = (subst (λ rest. Remain whole (asked_each asks rest)) (drop_all i items end) left).hold tt

-- ---- a check by a test that decides it

-- a test and its other way
pub not_so : {test : Bool} {P : Type 0} → (test ≡ true ↔ P) → (not test ≡ true) ↔ (¬ P)
not_so {test} same = by test same
  where
    by : {P : Type 0} (t : Bool) → (t ≡ true ↔ P) → (not t ≡ true) ↔ (¬ P)
    by true same = (λ e. absurd (false≢true e), λ no. absurd (no (same.0 refl)))
    by false same = (λ e h. false≢true (same.1 h), λ no. refl)
