-- Locals that have the same units.
use Rattle.std.proofs.Common.{◌≡◌, ◌<◌, ◌≤◌, ◌+◌, ◌∙◌, subst, ℕ, zero, suc, Bool, true, false, not, List, [], ◌∷◌, Option, Some, None, Bor, slice_get, refl, sym, ap, arith, inl, inr}
use Rattle.std.specs.Bool.{Decides}
use Rattle.std.specs.Option.{option_copied, option_eq}
use Rattle.std.proofs.lemmas.Bool.{cases_lt, false≢true}
use Rattle.std.proofs.lemmas.Option.{same_Some}
use Rattle.class_model.specs.declared.frame.VType.{VType}
use Rattle.type_rules.specs.Changes.{AreSameBut}

same_units : (last locals : List VType) → ((unit : ℕ) → slice_get last unit ≡ slice_get locals unit) → last ≡ locals
same_units [] [] each = refl
same_units [] (other ∷ locals) each = absurd (cc (each zero))
same_units (one ∷ last) [] each = absurd (cc (each zero))
same_units (one ∷ last) (other ∷ locals) each =
    ap (λ (type : VType). type ∷ last) (same_Some one other (each zero))
    ∙ ap (λ (rest : List VType). other ∷ rest) (same_units last locals (λ unit. each (suc unit)))

-- those that may differ were compared
pub same_within : (last locals : List VType) (from end at : ℕ) → end ≤ at → ((unit : ℕ) → from ≤ unit → unit < at → slice_get last unit ≡ slice_get locals unit) → AreSameBut from end last locals → last ≡ locals
same_within last locals from end at over compared same =
    same_units last locals
    (λ unit.
    elim (cases_lt unit from) [
      | inl less ↦ sym (same.others unit (inl less))
      | inr more ↦
          elim (cases_lt unit end) [
            | inl below ↦ compared unit more (omega (arith, below, over))
            | inr above ↦ sym (same.others unit (inr above))
          ]
    ])

-- one more was compared
pub one_compared : (last locals : List VType) (from at : ℕ) → ((unit : ℕ) → from ≤ unit → unit < at → slice_get last unit ≡ slice_get locals unit) → slice_get last at ≡ slice_get locals at → (unit : ℕ) → from ≤ unit → unit < at + 1 → slice_get last unit ≡ slice_get locals unit
one_compared last locals from at compared here unit low below =
    elim (cases_lt unit at) [
      | inl less ↦ compared unit low less
      | inr more ↦
          let is : at ≡ unit = omega (arith, more, below) in
          subst (λ (n : ℕ). slice_get last n ≡ slice_get locals n) is here
    ]

-- ---- one unit

-- a test of answers about references
pub same_options : (E : VType → VType → Bool) (o p : Option (Bor VType)) → false ≡ not (option_eq (λ x y. E x.now y.now) o p) → ((x y : VType) → Decides (E x y) (x ≡ y)) → option_copied o ≡ option_copied p
same_options E None None is each = refl
same_options E None (Some y) is each = absurd (false≢true is)
same_options E (Some x) None is each = absurd (false≢true is)
same_options E (Some x) (Some y) is each = ap Some ((each x.now y.now).0 (not_false (E x.now y.now) is))
  where
    not_false : (test : Bool) → false ≡ not test → test ≡ true
    not_false true e = refl
    not_false false e = e
