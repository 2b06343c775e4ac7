-- Locals of which a few units change.
use Rattle.std.proofs.Common.{◌≡◌, ◌≢◌, ◌∙◌, ◌<◌, ◌≤◌, ◌-◌, ◌+◌, ℕ, zero, suc, Bool, true, false, IsTrue, List, [], ◌∷◌, Option, Some, None, length, sym, refl, ap, subst, arith, inl, inr}
use Rattle.std.specs.Prelude.{if◌then◌else◌, min, slice_get, slice_set}
use Rattle.std.specs.List.{list_any}
use Rattle.std.proofs.lemmas.List.{length-set}
use Rattle.std.proofs.lemmas.Bool.{cases_lt}
use Rattle.class_model.specs.Frames.{is_wide, units}
use Rattle.class_model.specs.declared.frame.Frame.{Frame}
use Rattle.class_model.specs.declared.frame.VType.{VType}
use Rattle.class_model.specs.declared.frame.VType.TheVariants.{Top, Int, Float, Long, Double, Null, UninitThis, Object, Uninit}
use Rattle.class_tree.specs.Headers.{Headers}
use Rattle.member_link.specs.Assignability.{IsAssignable}
use Rattle.member_link.specs.Rows.FrameAssignability.{AreAssignable, IsFrameAssignable, is_uninit_this}
use Rattle.member_link.specs.Rows.LocalRows.{cut_before, stored, with_units}
use Rattle.std.proofs.lemmas.Option.{same_Some, slice_get_within}
use Rattle.type_rules.proofs.LocalWalks.{any_found}
use Rattle.type_rules.proofs.UninitThis.{found_at}
use Rattle.type_rules.proofs.Pairwise.{are_as_long}
use Rattle.type_rules.specs.Changes.{AreSameBut}
use Rattle.type_rules.specs.Inner.Changes.{IsUnitAssignable}

-- ---- a store

-- a unit beside one that is written
other_unit : (locals : List VType) (at other : ℕ) (type : VType) → other ≢ at → slice_get (slice_set locals at type) other ≡ slice_get locals other
other_unit [] at other type apart = refl
other_unit (first ∷ locals) zero zero type apart = absurd (apart refl)
other_unit (first ∷ locals) zero (suc other) type apart = refl
other_unit (first ∷ locals) (suc at) zero type apart = refl
other_unit (first ∷ locals) (suc at) (suc other) type apart = other_unit locals at other type (λ same. apart (ap suc same))

module _ (from end : ℕ) (before : List VType) where
  none_changed : AreSameBut from end before before
  none_changed = record { as_many = refl; others = λ unit apart. refl }

  -- one unit more
  one_changed : (after : List VType) (at : ℕ) (type : VType) → from ≤ at → at < end → AreSameBut from end before after → AreSameBut from end before (slice_set after at type)
  one_changed after at type low high same = record {
    as_many = length-set after at type ∙ same.as_many;
    others = λ unit apart.
        other_unit after at unit type
        (λ is.
        elim apart [
          | inl less ↦ omega (arith, low, less, is)
          | inr more ↦ omega (arith, high, more, is)
        ])
        ∙ same.others unit apart;
  }

  module _ (after : List VType) (at : ℕ) (low : from ≤ at) (high : at + 1 < end) (same : AreSameBut from end before after) where
    one : (type : VType) → AreSameBut from end before (slice_set after at type)
    one type = one_changed after at type low (omega (arith, high)) same

    both : (type : VType) → AreSameBut from end before (slice_set (slice_set after at type) (at + 1) Top)
    both type = one_changed (slice_set after at type) (at + 1) Top (omega (arith, low)) high (one type)

    written : (value : VType) → AreSameBut from end before (with_units at (units value) after)
    written Top = one Top
    written Int = one Int
    written Float = one Float
    written Long = both Long
    written Double = both Double
    written Null = one Null
    written UninitThis = one UninitThis
    written (Object name) = one (Object name)
    written (Uninit made) = one (Uninit made)

-- the unit before the first that is written, which may be cut
module _ (at : ℕ) (locals : List VType) where
  cut_by : (wide : Bool) → AreSameBut at (suc at + 2) locals (if wide then slice_set locals at Top else locals)
  cut_by true = one_changed at (suc at + 2) locals locals at Top (omega arith) (omega arith) (none_changed at (suc at + 2) locals)
  cut_by false = none_changed at (suc at + 2) locals

  cut_behind : AreSameBut at (suc at + 2) locals (cut_before (suc at) locals)
  cut_behind = by (slice_get locals at) refl where
    by : (unit : Option VType) → slice_get locals at ≡ unit → AreSameBut at (suc at + 2) locals (cut_before (suc at) locals)
    by None is = rw is (none_changed at (suc at + 2) locals)
    by (Some type) is = rw is (cut_by (is_wide type))

cut : (at : ℕ) (locals : List VType) → AreSameBut (at - 1) (at + 2) locals (cut_before at locals)
cut zero locals = none_changed (zero - 1) (zero + 2) locals
cut (suc at) locals =
    let same : suc at - 1 ≡ at = omega arith in
    rw same (cut_behind at locals)

-- what a store writes
pub store_changes : (at : ℕ) (value : VType) (locals : List VType) → AreSameBut (at - 1) (at + 2) locals (stored at value locals)
store_changes at value locals =
    written (at - 1) (at + 2) locals (cut_before at locals) at (omega arith) (omega arith) (cut at locals) value

-- ---- assignability

each_assignable : (headers : Headers) (lows highs : List VType) (at : ℕ) (low high : VType) → slice_get lows at ≡ Some low → slice_get highs at ≡ Some high → AreAssignable headers lows highs → IsAssignable headers low high
each_assignable headers [] highs at low high here there all = absurd cc
each_assignable headers (x ∷ lows) [] at low high here there all = absurd cc
each_assignable headers (x ∷ lows) (y ∷ highs) zero low high here there all =
    let first : low ≡ x = cc in
    let second : high ≡ y = cc in
    rw (first, second) all.0
each_assignable headers (x ∷ lows) (y ∷ highs) (suc at) low high here there all = each_assignable headers lows highs at low high here there all.1

all_assignable : (headers : Headers) (lows highs : List VType) → length lows ≡ length highs
    → ((at : ℕ) (low high : VType) → slice_get lows at ≡ Some low → slice_get highs at ≡ Some high → IsAssignable headers low high)
    → AreAssignable headers lows highs
all_assignable headers [] [] same each = tt
all_assignable headers [] (y ∷ highs) same each = absurd (omega (arith, same))
all_assignable headers (x ∷ lows) [] same each = absurd (omega (arith, same))
all_assignable headers (x ∷ lows) (y ∷ highs) same each =
    (each zero x y refl refl, all_assignable headers lows highs (omega (arith, same)) (λ at low high here there. each (suc at) low high here there))

module _ (headers : Headers) (locals : List VType) (to : Frame) (from end stop : ℕ) (stop_is : stop ≡ min end (length locals))
    (units : (at : ℕ) → from ≤ at → at < stop → IsUnitAssignable headers locals to.locals at)
    (before stack : List VType) (same : AreSameBut from end before locals)
    (might : IsFrameAssignable headers (record { locals = before; stack = stack }) to) where
  -- a unit that is there changed, or is the one before
  by_unit : (P : Type 0) (at : ℕ) (low : VType) → slice_get locals at ≡ Some low → (slice_get before at ≡ Some low → P) → (IsUnitAssignable headers locals to.locals at → P) → P
  by_unit P at low here was changed =
      elim (cases_lt at from) [
        | inl less ↦ was (sym (same.others at (inl less)) ∙ here)
        | inr more ↦
            elim (cases_lt at end) [
              | inl below ↦ changed (units at more (omega (arith, below, stop_is, slice_get_within locals at low here)))
              | inr above ↦ was (sym (same.others at (inr above)) ∙ here)
            ]
      ]

  each_unit : (at : ℕ) (low high : VType) → slice_get locals at ≡ Some low → slice_get to.locals at ≡ Some high → IsAssignable headers low high
  each_unit at low high here there =
      by_unit (IsAssignable headers low high) at low here
      (λ was. each_assignable headers before to.locals at low high was there might.locals)
      (λ unit.
      let first : unit.low ≡ low = same_Some unit.low low (sym unit.low_is ∙ here) in
      let second : unit.high ≡ high = same_Some unit.high high (sym unit.high_is ∙ there) in
      subst (λ (type : VType). IsAssignable headers type high) first (subst (IsAssignable headers unit.low) second unit.may))

  pub changed_assignable : IsFrameAssignable headers (record { locals = locals; stack = stack }) to
  changed_assignable = record {
    locals = all_assignable headers locals to.locals (same.as_many ∙ are_as_long headers before to.locals might.locals) each_unit;
    stack = might.stack;
    keeps_this = λ any.
        let this = found_at locals any in
        by_unit (IsTrue (list_any is_uninit_this to.locals)) this.0 UninitThis this.1
        (λ was. might.keeps_this (any_found before this.0 was))
        (λ unit. unit.keeps_this this.1);
  }
