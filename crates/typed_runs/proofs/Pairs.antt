use Rattle.std.specs.Prelude.{◌≡◌, ◌+◌, refl, ℕ, zero, suc, Bool, true, false, List, [], ◌∷◌, length, nat_le, slice_get, slice_set, Option, Some, None, if◌then◌else◌}
use Rattle.std.proofs.Common.{arith, ap, sym, ◌∙◌, subst}
use Rattle.std.proofs.Math.Numerals.{add-one}
use Rattle.machine_values.specs.Values.{is_wide_value}
use Rattle.machine_values.specs.declared.value.Value.{Value}
use Rattle.member_link.specs.Machine.Locals.{cut_before, stored}
use Rattle.typed_runs.proofs.Basics.{some_of}
use Rattle.typed_runs.specs.TypedFrames.{ArePaired, BeginsEmpty}

-- a value of one unit stands before a place, or none
abbrev pub NarrowBefore : ℕ → List (Option Value) → Type 0
NarrowBefore at us = (k : ℕ) (v : Value) → at ≡ suc k → slice_get us k ≡ Some (Some v) → is_wide_value v ≡ false

pub empty_kept : (us : List (Option Value)) (at : ℕ) (u : Option Value) → BeginsEmpty us → BeginsEmpty (slice_set us (suc at) u)
empty_kept [] at u is = tt
empty_kept (None ∷ us) at u is = tt
empty_kept (Some v ∷ us) at u is = is

pub begins_empty : (us : List (Option Value)) → BeginsEmpty (slice_set us zero None)
begins_empty [] = tt
begins_empty (u ∷ us) = tt

pub unset_paired : (us : List (Option Value)) (at : ℕ) → ArePaired us → ArePaired (slice_set us at None)
unset_paired [] at is = tt
unset_paired (None ∷ us) zero is = is
unset_paired (Some v ∷ us) zero is = is.1
unset_paired (None ∷ us) (suc at) is = unset_paired us at is
unset_paired (Some v ∷ us) (suc zero) is = (λ wide. begins_empty us, unset_paired us zero is.1)
unset_paired (Some v ∷ us) (suc (suc at)) is = (λ wide. empty_kept us at None (is.0 wide), unset_paired us (suc at) is.1)

pub put_paired : (us : List (Option Value)) (at : ℕ) (v : Value) → ArePaired us → NarrowBefore at us → is_wide_value v ≡ false → ArePaired (slice_set us at (Some v))
put_paired [] at v is before narrow = tt
put_paired (None ∷ us) zero v is before narrow = (λ wide. cc, is)
put_paired (Some u ∷ us) zero v is before narrow = (λ wide. cc, is.1)
put_paired (None ∷ us) (suc at) v is before narrow = put_paired us at v is (λ k w e there. before (suc k) w (ap suc e) there) narrow
put_paired (Some u ∷ us) (suc zero) v is before narrow =
    (λ wide. let no : is_wide_value u ≡ false = before zero u refl refl in cc, put_paired us zero v is.1 (λ k w e there. before (suc k) w (ap suc e) there) narrow)
put_paired (Some u ∷ us) (suc (suc at)) v is before narrow =
    (λ wide. empty_kept us at (Some v) (is.0 wide), put_paired us (suc at) v is.1 (λ k w e there. before (suc k) w (ap suc e) there) narrow)

-- a value of two units
pub wide_paired : (us : List (Option Value)) (at : ℕ) (v : Value) → ArePaired us → NarrowBefore at us → ArePaired (slice_set (slice_set us at (Some v)) (suc at) None)
wide_paired [] at v is before = tt
wide_paired (None ∷ us) zero v is before = (λ wide. begins_empty us, unset_paired us zero is)
wide_paired (Some u ∷ us) zero v is before = (λ wide. begins_empty us, unset_paired us zero is.1)
wide_paired (None ∷ us) (suc at) v is before = wide_paired us at v is (λ k w e there. before (suc k) w (ap suc e) there)
wide_paired (Some u ∷ us) (suc zero) v is before =
    (λ wide. let no : is_wide_value u ≡ false = before zero u refl refl in cc, wide_paired us zero v is.1 (λ k w e there. before (suc k) w (ap suc e) there))
wide_paired (Some u ∷ us) (suc (suc at)) v is before =
    (λ wide. empty_kept (slice_set us (suc at) (Some v)) (suc at) None (empty_kept us at (Some v) (is.0 wide)), wide_paired us (suc at) v is.1 (λ k w e there. before (suc k) w (ap suc e) there))

-- ---- behind a cut

pub cut_of : (us : List (Option Value)) (at : ℕ) (v : Value) → slice_get us at ≡ Some (Some v) → cut_before (suc at) us ≡ (if is_wide_value v then slice_set us at None else us)
cut_of us at v is = rw is refl

pub record Cut (at : ℕ) (us cut : List (Option Value)) : Type 0 where
  pub paired : ArePaired cut
  pub narrow : NarrowBefore at cut

suc_is : {a b : ℕ} → suc a ≡ suc b → a ≡ b
suc_is e = omega (arith, e)

pub set_there : (us : List (Option Value)) (at : ℕ) (v : Value) → slice_get (slice_set us at None) at ≡ Some (Some v) → is_wide_value v ≡ false
set_there [] at v is = cc
set_there (u ∷ us) zero v is = cc
set_there (u ∷ us) (suc at) v is = set_there us at v is

pub cut_paired : (at : ℕ) (us : List (Option Value)) → ArePaired us → Cut at us (cut_before at us)
cut_paired zero us is = record { paired = is; narrow = λ k v e there. absurd (omega (arith, e)) }
cut_paired (suc at) us is = by (slice_get us at) refl where
  at_place : (cut : List (Option Value)) → ((v : Value) → slice_get cut at ≡ Some (Some v) → is_wide_value v ≡ false) → NarrowBefore (suc at) cut
  at_place cut narrow k v e there = narrow v (subst (λ n. slice_get cut n ≡ Some (Some v)) (sym (suc_is e)) there)

  by_width : (v : Value) (b : Bool) → is_wide_value v ≡ b → slice_get us at ≡ Some (Some v) → Cut (suc at) us (if b then slice_set us at None else us)
  by_width v true wide there = record { paired = unset_paired us at is; narrow = at_place (slice_set us at None) (λ u. set_there us at u) }
  by_width v false narrow there = record { paired = is; narrow = at_place us (λ u same. let e : u ≡ v = cc in subst (λ x. is_wide_value x ≡ false) (sym e) narrow) }

  by : (u : Option (Option Value)) → slice_get us at ≡ u → Cut (suc at) us (cut_before (suc at) us)
  by None none = rw none (record { paired = is; narrow = at_place us (λ u same. cc) })
  by (Some None) none = rw none (record { paired = is; narrow = at_place us (λ u same. cc) })
  by (Some (Some v)) some = subst (λ cut. Cut (suc at) us cut) (sym (cut_of us at v some)) (by_width v (is_wide_value v) refl some)

-- a value has no wide one before it
pub before_value : (us : List (Option Value)) (at : ℕ) (v : Value) → ArePaired us → slice_get us at ≡ Some (Some v) → NarrowBefore at us
before_value [] at v is there k w e other = cc
before_value (u ∷ us) zero v is there k w e other = absurd (omega (arith, e))
before_value (None ∷ us) (suc at) v is there zero w e other = cc
before_value (None ∷ us) (suc at) v is there (suc k) w e other = before_value us at v is there k w (suc_is e) other
before_value (Some u ∷ us) (suc at) v is there (suc k) w e other = before_value us at v is.1 there k w (suc_is e) other
before_value (Some u ∷ []) (suc at) v is there zero w e other = cc
before_value (Some u ∷ None ∷ us) (suc at) v is there zero w e other = cc
before_value (Some u ∷ Some x ∷ us) (suc at) v is there zero w e other = by (is_wide_value w) refl where
  same : u ≡ w
  same = cc

  by : (b : Bool) → is_wide_value w ≡ b → is_wide_value w ≡ false
  by true wide = absurd (is.0 (subst (λ y. is_wide_value y ≡ true) (sym same) wide))
  by false narrow = narrow

pub uncut : (us : List (Option Value)) (at : ℕ) → NarrowBefore at us → cut_before at us ≡ us
uncut us zero before = refl
uncut us (suc at) before = by (slice_get us at) refl where
  by : (u : Option (Option Value)) → slice_get us at ≡ u → cut_before (suc at) us ≡ us
  by None none = rw none refl
  by (Some None) none = rw none refl
  by (Some (Some v)) some = cut_of us at v some ∙ (let narrow : is_wide_value v ≡ false = before at v refl some in rw narrow refl)

-- what a store leaves
pub stored_paired : (us units : List (Option Value)) (at : ℕ) (v : Value) → ArePaired us → stored at v us ≡ Some units → ArePaired units
stored_paired us units at v is same = by (is_wide_value v) refl where
  cut : Cut at us (cut_before at us)
  cut = cut_paired at us is

  of_one : (b : Bool) → (if b then Some (slice_set (cut_before at us) at (Some v)) else None) ≡ Some units → is_wide_value v ≡ false → ArePaired units
  of_one false e narrow = cc
  of_one true e narrow = subst ArePaired (some_of e) (put_paired (cut_before at us) at v cut.paired cut.narrow narrow)

  of_two : (b : Bool) → (if b then Some (slice_set (slice_set (cut_before at us) at (Some v)) (at + 1) None) else None) ≡ Some units → ArePaired units
  of_two false e = cc
  of_two true e = subst ArePaired (some_of e) (subst (λ n. ArePaired (slice_set (slice_set (cut_before at us) at (Some v)) n None)) (sym (add-one at)) (wide_paired (cut_before at us) at v cut.paired cut.narrow))

  by : (b : Bool) → is_wide_value v ≡ b → ArePaired units
  by false narrow = of_one (nat_le (at + 1) (length us)) (rw narrow at same) narrow
  by true wide = of_two (nat_le (at + 2) (length us)) (rw wide at same)
