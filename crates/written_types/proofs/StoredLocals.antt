-- Locals behind a store: the unit has the type, and all others keep theirs, but for a long or double whose second unit is written.
use Rattle.std.proofs.Common.{◌≡◌, ◌≢◌, ◌⊎◌, ◌+◌, ◌==◌, ◌<◌, ◌≤◌, ℕ, zero, suc, Bool, true, false, List, [], ◌∷◌, length, slice_get, slice_set, Option, Some, None, refl, sym, ap, subst, ◌∙◌, inl, inr, arith}
use Rattle.std.proofs.lemmas.Bool.{eq-eqb, eqb-true, false≢true}
use Rattle.std.proofs.lemmas.Option.{slice_get_within}
use Rattle.class_model.specs.Frames.{is_wide, units}
use Rattle.class_model.specs.declared.frame.VType.{VType}
use Rattle.class_model.specs.declared.frame.VType.TheVariants as types
use Rattle.member_link.specs.Rows.LocalRows.{cut_before, stored, with_units}
use Rattle.same_runs.specs.Laws.Objects.{set_other}
use Rattle.same_runs.specs.Laws.Stored.{set_in}

set_long : (locals : List VType) (at : ℕ) (type : VType) → length (slice_set locals at type) ≡ length locals
set_long [] at type = refl
set_long (first ∷ locals) zero type = refl
set_long (first ∷ locals) (suc at) type = ap suc (set_long locals at type)

-- a unit before the one that is written is cut
pub record IsCut (at : ℕ) (locals : List VType) (unit : ℕ) : Type 0 where
  pub before : suc unit ≡ at
  pub type : VType
  pub was : slice_get locals unit ≡ Some type
  pub wide : is_wide type ≡ true

-- a unit behind a cut: as it was, or Top where it was cut
abbrev pub StaysOr : ℕ → List VType → List VType → ℕ → Type 0
StaysOr at locals after unit =
    (slice_get after unit ≡ slice_get locals unit) ⊎ ((slice_get after unit ≡ Some types.Top) × IsCut at locals unit)

cut_long : (at : ℕ) (locals : List VType) → length (cut_before at locals) ≡ length locals
cut_long zero locals = refl
cut_long (suc at) locals = by (slice_get locals at) refl where
  by : (found : Option VType) → slice_get locals at ≡ found → length (cut_before (suc at) locals) ≡ length locals
  by None is = rw (is) refl
  by (Some type) is = of_wide (is_wide type) refl where
    of_wide : (b : Bool) → is_wide type ≡ b → length (cut_before (suc at) locals) ≡ length locals
    of_wide true wide = rw (is, wide) (set_long locals at types.Top)
    of_wide false narrow = rw (is, narrow) refl

cut_stays : (at : ℕ) (locals : List VType) (unit : ℕ) → StaysOr at locals (cut_before at locals) unit
cut_stays zero locals unit = inl refl
cut_stays (suc at) locals unit = by (slice_get locals at) refl where
  by : (found : Option VType) → slice_get locals at ≡ found → StaysOr (suc at) locals (cut_before (suc at) locals) unit
  by None is = inl (rw (is) refl)
  by (Some type) is = of_wide (is_wide type) refl where
    of_wide : (b : Bool) → is_wide type ≡ b → StaysOr (suc at) locals (cut_before (suc at) locals) unit
    of_wide false narrow = inl (rw (is, narrow) refl)
    of_wide true wide = of_unit (split at unit) where
      after : cut_before (suc at) locals ≡ slice_set locals at types.Top
      after = rw (is, wide) refl

      split : (a b : ℕ) → (a ≡ b) ⊎ (a ≡ b → ⊥)
      split a b = of (a == b) refl where
        of : (x : Bool) → (a == b) ≡ x → (a ≡ b) ⊎ (a ≡ b → ⊥)
        of true e = inl (eqb-true a b e)
        of false e = inr (λ same. absurd (false≢true (sym e ∙ eq-eqb a b same)))

      of_unit : (at ≡ unit) ⊎ (at ≡ unit → ⊥) → StaysOr (suc at) locals (cut_before (suc at) locals) unit
      of_unit (inr other) = inl (ap (λ (xs : List VType). slice_get xs unit) after ∙ set_other locals at unit types.Top other)
      of_unit (inl same) =
          inr (
            ap (λ (xs : List VType). slice_get xs unit) after
                ∙ subst (λ (n : ℕ). slice_get (slice_set locals at types.Top) n ≡ Some types.Top) same
                (set_in locals at types.Top (slice_get_within locals at type is)),
            record {
              before = ap suc (sym same);
              type = type;
              was = ap (slice_get locals) (sym same) ∙ is;
              wide = wide;
            },
          )

-- ---- one unit

pub record Stored (at : ℕ) (type : VType) (locals after : List VType) : Type 0 where
  pub long : length after ≡ length locals
  pub there : slice_get after at ≡ Some type
  pub others : (unit : ℕ) → unit ≢ at → (is_wide type ≡ true → unit ≢ suc at) → StaysOr at locals after unit
  pub second : is_wide type ≡ true → slice_get after (suc at) ≡ Some types.Top

stored_one : (at : ℕ) (type : VType) (locals : List VType)
    → is_wide type ≡ false
    → units type ≡ type ∷ []
    → at < length locals
    → Stored at type locals (stored at type locals)
stored_one at type locals narrow one room = record {
  long = ap length after ∙ set_long (cut_before at locals) at type ∙ cut_long at locals;
  there = ap (λ (xs : List VType). slice_get xs at) after ∙ set_in (cut_before at locals) at type (let long = cut_long at locals in omega (arith, long, room));
  others = λ unit other only.
      subst (λ (xs : List VType). StaysOr at locals xs unit) (sym after)
      (subst (λ (found : Option VType). (found ≡ slice_get locals unit) ⊎ ((found ≡ Some types.Top) × IsCut at locals unit))
      (sym (set_other (cut_before at locals) at unit type (λ same. other (sym same)))) (cut_stays at locals unit));
  second = λ wide. absurd (false≢true (sym narrow ∙ wide));
} where
  after : stored at type locals ≡ slice_set (cut_before at locals) at type
  after = ap (λ (parts : List VType). with_units at parts (cut_before at locals)) one

stored_two : (at : ℕ) (type : VType) (locals : List VType)
    → is_wide type ≡ true
    → units type ≡ type ∷ types.Top ∷ []
    → suc at < length locals
    → Stored at type locals (stored at type locals)
stored_two at type locals wide two room = record {
  long = ap length after ∙ set_long (slice_set (cut_before at locals) at type) (suc at) types.Top ∙ set_long (cut_before at locals) at type
      ∙ cut_long at locals;
  there =
      ap (λ (xs : List VType). slice_get xs at) after
      ∙ set_other (slice_set (cut_before at locals) at type) (suc at) at types.Top (λ same. absurd (omega (arith, same)))
      ∙ set_in (cut_before at locals) at type (let long = cut_long at locals in omega (arith, long, room));
  others = λ unit other only.
      subst (λ (xs : List VType). StaysOr at locals xs unit) (sym after)
      (subst (λ (found : Option VType). (found ≡ slice_get locals unit) ⊎ ((found ≡ Some types.Top) × IsCut at locals unit))
      (sym (set_other (slice_set (cut_before at locals) at type) (suc at) unit types.Top (λ same. only wide (sym same))
      ∙ set_other (cut_before at locals) at unit type (λ same. other (sym same)))) (cut_stays at locals unit));
  second = λ is.
      ap (λ (xs : List VType). slice_get xs (suc at)) after
      ∙ set_in (slice_set (cut_before at locals) at type) (suc at) types.Top
      (let long = cut_long at locals in let set = set_long (cut_before at locals) at type in omega (arith, long, set, room));
} where
  next : at + 1 ≡ suc at
  next = omega arith

  after : stored at type locals ≡ slice_set (slice_set (cut_before at locals) at type) (suc at) types.Top
  after =
      ap (λ (parts : List VType). with_units at parts (cut_before at locals)) two
      ∙ ap (λ (n : ℕ). slice_set (slice_set (cut_before at locals) at type) n types.Top) next

-- how many units a type takes
abbrev pub units_long : VType → ℕ
units_long type = length (units type)

pub stored_is : (at : ℕ) (type : VType) (locals : List VType) → at + units_long type ≤ length locals → Stored at type locals (stored at type locals)
stored_is at types.Long locals room = stored_two at types.Long locals refl refl (omega (arith, room))
stored_is at types.Double locals room = stored_two at types.Double locals refl refl (omega (arith, room))
stored_is at types.Int locals room = stored_one at types.Int locals refl refl (omega (arith, room))
stored_is at types.Float locals room = stored_one at types.Float locals refl refl (omega (arith, room))
stored_is at types.Top locals room = stored_one at types.Top locals refl refl (omega (arith, room))
stored_is at types.Null locals room = stored_one at types.Null locals refl refl (omega (arith, room))
stored_is at types.UninitThis locals room = stored_one at types.UninitThis locals refl refl (omega (arith, room))
stored_is at (types.Object name) locals room = stored_one at (types.Object name) locals refl refl (omega (arith, room))
stored_is at (types.Uninit number) locals room = stored_one at (types.Uninit number) locals refl refl (omega (arith, room))
