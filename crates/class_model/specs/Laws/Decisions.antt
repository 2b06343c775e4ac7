-- What is decided: it holds, or it does not.
use Rattle.std.proofs.Common.{◌⊎◌, Bool, true, false, IsTrue, IsFalse, refl, sym, inl, inr}
use Rattle.std.proofs.lemmas.Bool.{false≢true}

abbrev pub Decision : Type 0 → Type 0
Decision P = P ⊎ (¬ P)

pub mapped : {P Q : Type 0} → (P → Q) → (Q → P) → Decision P → Decision Q
mapped to from (inl p) = inl (to p)
mapped to from (inr p) = inr (λ q. p (from q))

pub both : {P Q : Type 0} → Decision P → Decision Q → Decision (P × Q)
both (inl p) (inl q) = inl (p, q)
both (inl p) (inr q) = inr (λ h. q h.1)
both (inr p) q = inr (λ h. p h.0)

pub either : {P Q : Type 0} → Decision P → Decision Q → Decision (P ⊎ Q)
either (inl p) q = inl (inl p)
either (inr p) (inl q) = inl (inr q)
either (inr p) (inr q) = inr (λ h. elim h [ inl a ↦ p a | inr b ↦ q b ])

pub denied : {P : Type 0} → Decision P → Decision (¬ P)
denied (inl p) = inr (λ h. h p)
denied (inr p) = inl p

pub implied : {P Q : Type 0} → Decision P → Decision Q → Decision (P → Q)
implied (inl p) (inl q) = inl (λ _. q)
implied (inl p) (inr q) = inr (λ h. q (h p))
implied (inr p) q = inl (λ h. absurd (p h))

pub is_true : (test : Bool) → Decision (IsTrue test)
is_true true = inl refl
is_true false = inr (λ is. false≢true is)

pub is_false : (test : Bool) → Decision (IsFalse test)
is_false true = inr (λ is. false≢true (sym is))
is_false false = inl refl
