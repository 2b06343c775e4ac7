-- Checks in their order, and the first that fails.
use Rattle.std.specs.Prelude.{◌≡◌, ◌⊎◌, ℕ, Bool, true, false, List, [], ◌∷◌, ◌++◌, Result, Ok, Err}
use Rattle.class_model.specs.declared.fault.FileRule.{FileRule}

-- what is asked, and the fault where it does not hold
pub record Check (F : Type 0) : Type 1 where
  pub fault : F
  pub holds : Type 0

-- every check holds
abbrev pub AllHold : {F : Type 0} → List (Check F) → Type 0
AllHold [] = Unit {0}
AllHold (c ∷ checks) = c.holds × AllHold checks

-- the first check that does not hold is of this fault
abbrev pub IsFirstFault : {F : Type 0} → List (Check F) → F → Type 0
IsFirstFault [] f = ⊥
IsFirstFault (c ∷ checks) f = ((¬ c.holds) × (f ≡ c.fault)) ⊎ (c.holds × IsFirstFault checks f)

-- what is asked where a test holds, and else nothing
abbrev pub asked_if : {F : Type 0} → Bool → List (Check F) → List (Check F)
asked_if true checks = checks
asked_if false checks = []

-- what each of these is asked, one after the other
abbrev pub asked_each : {F X : Type 0} → (X → List (Check F)) → List X → List (Check F)
asked_each asks [] = []
asked_each asks (x ∷ xs) = asks x ++ asked_each asks xs

-- ---- checks of bytes

-- the rule that bytes break, and the place where
pub record Fault : Type 0 where
  pub at : ℕ
  pub rule : FileRule

abbrev pub fault : ℕ → FileRule → Fault
fault at rule = record { at = at; rule = rule }

-- what is asked at a place
abbrev pub check : ℕ → FileRule → Type 0 → Check Fault
check at rule holds = record { fault = fault at rule; holds = holds }

-- What is asked of a part that could be cut out of bytes. Where it could not, that is the one check, and
-- it fails.
abbrev pub asked_of : {X : Type 0} → Result X Fault → (X → List (Check Fault)) → List (Check Fault)
asked_of (Ok part) asks = asks part
asked_of (Err f) asks = check f.at f.rule ⊥ ∷ []

-- a step that may fail, and one on what it gives
infixl 10 ◌>>=◌
abbrev pub ◌>>=◌ : {A B : Type 0} → Result A Fault → (A → Result B Fault) → Result B Fault
(Ok x) >>= f = f x
(Err e) >>= f = Err e
