-- The constants that have references, by value and by reference.
use Rattle.std.proofs.Common.{◌≡◌, ◌↔◌, IsTrue, ℕ, suc, ◌+◌, Bool, true, false, cond, not, List, [], ◌∷◌, slice_get, position, Some, None, option_map, refl, sym, ap, ◌∙◌, arith, nat_eq, ◌||◌}
use Rattle.std.specs.List.{list_any, position_or_len}
use Rattle.std.specs.Map.{lookup}
use Rattle.std.proofs.lemmas.Bool.{eqb-true, eq-eqb}
use Rattle.machine_values.specs.Heaps.{constant_in, kept_in, same_constant}
use Rattle.machine_values.specs.declared.object.Constant.{Constant}
use Rattle.machine_heap.specs.Inner.Kept.{AreBelow, kept_of, numbers_of}

-- two tests of one fact are one
pub same_test : {P : Type 0} (one other : Bool) → IsTrue one ↔ P → IsTrue other ↔ P → one ≡ other
same_test true true a b = refl
same_test false false a b = refl
same_test true false a b = absurd (let e : false ≡ true = b.1 (a.0 refl) in cc)
same_test false true a b = absurd (let e : false ≡ true = a.1 (b.0 refl) in cc)

-- numbers are compared either way round
pub nat_eq_turned : (one other : ℕ) → nat_eq one other ≡ nat_eq other one
nat_eq_turned one other = same_test {P = one ≡ other} (nat_eq one other) (nat_eq other one) (eqb-true one other, eq-eqb one other) (λ t. sym (eqb-true other one t), λ e. eq-eqb other one (sym e))

-- a comparison that holds of equal constants alone finds the reference that is kept
module _ (eq : Constant → Constant → Bool) (found : (one other : Constant) → IsTrue (eq one other) ↔ (one ≡ other))
    (same : (one other : Constant) → IsTrue (same_constant one other) ↔ (one ≡ other)) where
  alike : (one other : Constant) → eq one other ≡ same_constant other one
  alike one other = same_test {P = one ≡ other} (eq one other) (same_constant other one) (found one other) (λ t. sym ((same other one).0 t), λ e. (same other one).1 (sym e))

  pub found_reference : (entries : List (Constant × ℕ)) (constant : Constant) → lookup (eq constant) entries ≡ kept_in (kept_of entries) constant
  found_reference [] constant = refl
  found_reference (e ∷ entries) constant = λ i. cond (alike constant e.0 i) (Some e.1) (found_reference entries constant i)

-- ---- by reference

-- where its number stands first is the constant
pub constant_at_place : (at : ℕ) (entries : List (Constant × ℕ)) → constant_in (kept_of entries) at ≡ option_map (λ e. e.0) (slice_get entries (position_or_len (nat_eq at) (numbers_of entries)))
constant_at_place at [] = refl
constant_at_place at (e ∷ entries) =
    ap (λ (b : Bool). cond b (Some e.0) (constant_in (kept_of entries) at)) (nat_eq_turned e.1 at)
    ∙ by (nat_eq at e.1) (position_or_len (nat_eq at) (numbers_of entries)) (constant_at_place at entries)
  where
    by : (b : Bool) (n : ℕ) → constant_in (kept_of entries) at ≡ option_map (λ e. e.0) (slice_get entries n)
        → cond b (Some e.0) (constant_in (kept_of entries) at) ≡ option_map (λ e. e.0) (slice_get (e ∷ entries) (cond (not b) (1 + n) 0))
    by true n later = refl
    by false n later = later ∙ ap (λ (m : ℕ). option_map (λ e. e.0) (slice_get (e ∷ entries) m)) {x = suc n} (omega arith)

-- a number that stands nowhere is no constant's
pub no_constant_at : (at : ℕ) (entries : List (Constant × ℕ)) → list_any (nat_eq at) (numbers_of entries) ≡ false → constant_in (kept_of entries) at ≡ None
no_constant_at at [] none = refl
no_constant_at at (e ∷ entries) none =
    ap (λ (b : Bool). cond b (Some e.0) (constant_in (kept_of entries) at)) (nat_eq_turned e.1 at)
    ∙ by (nat_eq at e.1) none (no_constant_at at entries)
  where
    by : (b : Bool) → (b || list_any (nat_eq at) (numbers_of entries)) ≡ false
        → (list_any (nat_eq at) (numbers_of entries) ≡ false → constant_in (kept_of entries) at ≡ None)
        → cond b (Some e.0) (constant_in (kept_of entries) at) ≡ None
    by true none later = absurd cc
    by false none later = later none

-- what a position is
pub position_is : (test : ℕ → Bool) (numbers : List ℕ) (place : ℕ) → Some place ≡ position test numbers → place ≡ position_or_len test numbers
position_is test numbers place is = grind arith

-- ---- appending

-- a number above all stands nowhere
pub none_above : (at : ℕ) (entries : List (Constant × ℕ)) → AreBelow at (kept_of entries) → list_any (nat_eq at) (numbers_of entries) ≡ false
none_above at [] below = refl
none_above at (e ∷ entries) below = by (nat_eq at e.1) (λ t. eqb-true at e.1 t) (none_above at entries below.1)
  where
    by : (b : Bool) → (b ≡ true → at ≡ e.1) → list_any (nat_eq at) (numbers_of entries) ≡ false → (b || list_any (nat_eq at) (numbers_of entries)) ≡ false
    by true same later = absurd (let s = same refl in omega (arith, below.0))
    by false same later = later
