-- Stores to units behind others: what becomes of the units before them, and of types that all local units have.
use Rattle.std.proofs.Common.{◌≡◌, ◌⊎◌, ◌+◌, ℕ, zero, suc, Bool, true, false, List, [], ◌∷◌, ◌++◌, length, slice_get, Option, Some, None, refl, sym, ap, subst, ◌∙◌, inl, inr}
use Rattle.std.specs.Prelude.{slice_set, if◌then◌else◌}
use Rattle.std.specs.List.{AllByRecursion}
use Rattle.std.proofs.lemmas.Bool.{false≢true}
use Rattle.std.proofs.lemmas.List.{append_assoc, length-append}
use Rattle.class_model.specs.Frames.{is_wide, units}
use Rattle.class_model.specs.declared.frame.VType.{VType}
use Rattle.class_model.specs.declared.frame.VType.TheVariants as types
use Rattle.class_tree.specs.Headers.{Headers}
use Rattle.member_link.specs.Assignability.{IsAssignable, from_null, of_names, to_same, to_top}
use Rattle.member_link.specs.Rows.FrameAssignability.{AreAssignable}
use Rattle.member_link.specs.Rows.LocalRows.{cut_before, stored, with_units}
use Rattle.written_types.proofs.FieldUnits.{EndsNarrow, narrow_right}
use Rattle.written_types.specs.Inner.CarriedFrames.{AgreeIn}

-- ---- the unit before

-- a long or double at the end of units loses its second unit
abbrev pub cut_end : List VType → List VType
cut_end [] = []
cut_end (type ∷ []) = (if is_wide type then types.Top else type) ∷ []
cut_end (type ∷ next ∷ rest) = type ∷ cut_end (next ∷ rest)

cut_step : (at : ℕ) (type : VType) (all : List VType) → cut_before (suc (suc at)) (type ∷ all) ≡ type ∷ cut_before (suc at) all
cut_step at type all = by (slice_get all at) refl where
  by_width : (one : VType) → slice_get all at ≡ Some one → (wide : Bool) → is_wide one ≡ wide
      → cut_before (suc (suc at)) (type ∷ all) ≡ type ∷ cut_before (suc at) all
  by_width one is true wide = rw (is, wide) refl
  by_width one is false wide = rw (is, wide) refl

  by : (found : Option VType) → slice_get all at ≡ found → cut_before (suc (suc at)) (type ∷ all) ≡ type ∷ cut_before (suc at) all
  by None none = rw (none) refl
  by (Some one) some = by_width one some (is_wide one) refl

cut_is : (ones others : List VType) → cut_before (length ones) (ones ++ others) ≡ cut_end ones ++ others
cut_is [] others = refl
cut_is (type ∷ []) others = by (is_wide type) refl where
  by : (b : Bool) → is_wide type ≡ b → cut_before 1 (type ∷ others) ≡ (if is_wide type then types.Top else type) ∷ others
  by true wide = rw (wide) refl
  by false narrow = rw (narrow) refl
cut_is (type ∷ next ∷ rest) others =
    cut_step (length rest) type ((next ∷ rest) ++ others)
    ∙ ap (λ (all : List VType). type ∷ all) (cut_is (next ∷ rest) others)

cut_long : (ones : List VType) → length (cut_end ones) ≡ length ones
cut_long [] = refl
cut_long (type ∷ []) = refl
cut_long (type ∷ next ∷ rest) = ap suc (cut_long (next ∷ rest))

-- ---- the units that are stored

set_behind : (ones others : List VType) (old new : VType) → slice_set (ones ++ (old ∷ others)) (length ones) new ≡ ones ++ (new ∷ others)
set_behind [] others old new = refl
set_behind (type ∷ ones) others old new = ap (λ (rest : List VType). type ∷ rest) (set_behind ones others old new)

one_set : (ones : List VType) (at : ℕ) (type : VType) (old rest : List VType) → length ones ≡ at → length old ≡ 1
    → with_units at (type ∷ []) (ones ++ (old ++ rest)) ≡ ones ++ ((type ∷ []) ++ rest)
one_set ones at type [] rest here long = absurd cc
one_set ones at type (old ∷ []) rest here long =
    ap (λ (n : ℕ). slice_set (ones ++ (old ∷ rest)) n type) (sym here) ∙ set_behind ones rest old type
one_set ones at type (old ∷ other ∷ more) rest here long = absurd cc

two_set : (ones : List VType) (at : ℕ) (type next : VType) (old rest : List VType) → length ones ≡ at → length old ≡ 2
    → with_units at (type ∷ next ∷ []) (ones ++ (old ++ rest)) ≡ ones ++ ((type ∷ next ∷ []) ++ rest)
two_set ones at type next [] rest here long = absurd cc
two_set ones at type next (old ∷ []) rest here long = absurd cc
two_set ones at type next (old ∷ other ∷ []) rest here long =
    ap (λ (all : List VType). slice_set all (at + 1) next) (one_set ones at type (old ∷ []) (other ∷ rest) here refl)
    ∙ ap (λ (all : List VType). slice_set all (at + 1) next) (sym (append_assoc ones (type ∷ []) (other ∷ rest)))
    ∙ ap (λ (n : ℕ). slice_set ((ones ++ type ∷ []) ++ (other ∷ rest)) n next) (sym there)
    ∙ set_behind (ones ++ type ∷ []) rest other next
    ∙ append_assoc ones (type ∷ []) (next ∷ rest) where
      there : length (ones ++ type ∷ []) ≡ at + 1
      there = length-append ones (type ∷ []) ∙ ap (λ (n : ℕ). n + 1) here
two_set ones at type next (old ∷ other ∷ third ∷ more) rest here long = absurd cc

pub stored_is : (ones : List VType) (at : ℕ) (type : VType) (old rest : List VType) → length ones ≡ at → length old ≡ length (units type)
    → stored at type (ones ++ (old ++ rest)) ≡ cut_end ones ++ (units type ++ rest)
stored_is ones at type old rest here long =
    ap (λ (all : List VType). with_units at (units type) all) (ap (λ (n : ℕ). cut_before n (ones ++ (old ++ rest))) (sym here) ∙ cut_is ones (old ++ rest))
    ∙ by type (cut_long ones ∙ here) long where
      by : (one : VType) → length (cut_end ones) ≡ at → length old ≡ length (units one)
          → with_units at (units one) (cut_end ones ++ (old ++ rest)) ≡ cut_end ones ++ (units one ++ rest)
      by types.Long before many = two_set (cut_end ones) at types.Long types.Top old rest before many
      by types.Double before many = two_set (cut_end ones) at types.Double types.Top old rest before many
      by other before many = one_set (cut_end ones) at other old rest before many

-- ---- what the units before are

cut_assigned : (headers : Headers) (ones written : List VType) → AreAssignable headers ones written → EndsNarrow written
    → AreAssignable headers (cut_end ones) written
cut_assigned headers [] [] are ends = are
cut_assigned headers [] (other ∷ written) are ends = absurd are
cut_assigned headers (type ∷ []) [] are ends = absurd are
cut_assigned headers (type ∷ []) (other ∷ []) are ends = (by (is_wide type) refl are.0, tt) where
  top_of : {low high : VType} → IsAssignable headers low high → is_wide low ≡ true → is_wide high ≡ false → IsAssignable headers types.Top high
  top_of (to_same one) wide narrow = absurd (false≢true (sym narrow ∙ wide))
  top_of (to_top one) wide narrow = to_same types.Top
  top_of (from_null name) wide narrow = absurd (false≢true wide)
  top_of (of_names low high names) wide narrow = absurd (false≢true wide)

  by : (b : Bool) → is_wide type ≡ b → IsAssignable headers type other → IsAssignable headers (if is_wide type then types.Top else type) other
  by true wide is = rw (wide) (top_of is wide ends)
  by false narrow is = rw (narrow) is
cut_assigned headers (type ∷ []) (other ∷ next ∷ written) are ends = absurd are.1
cut_assigned headers (type ∷ one ∷ rest) [] are ends = absurd are
cut_assigned headers (type ∷ one ∷ rest) (other ∷ []) are ends = absurd are.1
cut_assigned headers (type ∷ one ∷ rest) (other ∷ next ∷ written) are ends = (are.0, cut_assigned headers (one ∷ rest) (next ∷ written) are.1 ends)

cut_agrees : (ones written : List VType) → AgreeIn ones written → EndsNarrow written → AgreeIn (cut_end ones) written
cut_agrees [] [] agree ends = agree
cut_agrees [] (other ∷ written) agree ends = absurd agree
cut_agrees (type ∷ []) [] agree ends = absurd agree
cut_agrees (type ∷ []) (other ∷ []) agree ends = (by agree.0, tt) where
  by : (other ≡ types.Top) ⊎ (type ≡ other) → (other ≡ types.Top) ⊎ ((if is_wide type then types.Top else type) ≡ other)
  by (inl top) = inl top
  by (inr same) = inr (ap (λ (b : Bool). if b then types.Top else type) (ap is_wide same ∙ ends) ∙ same)
cut_agrees (type ∷ []) (other ∷ next ∷ written) agree ends = absurd agree.1
cut_agrees (type ∷ one ∷ rest) [] agree ends = absurd agree
cut_agrees (type ∷ one ∷ rest) (other ∷ []) agree ends = absurd agree.1
cut_agrees (type ∷ one ∷ rest) (other ∷ next ∷ written) agree ends = (agree.0, cut_agrees (one ∷ rest) (next ∷ written) agree.1 ends)

cut_right : (ones others : List VType) (other : VType) → cut_end (ones ++ (other ∷ others)) ≡ ones ++ cut_end (other ∷ others)
cut_right [] others other = refl
cut_right (type ∷ []) others other = refl
cut_right (type ∷ next ∷ rest) others other = ap (λ (all : List VType). type ∷ all) (cut_right (next ∷ rest) others other)

-- Units of a method, which agree with written ones, and field units behind them, which may stand for theirs.
pub record Suits (headers : Headers) (all own fields : List VType) : Type 0 where
  pub locals : List VType
  pub units_of : List VType
  pub is : all ≡ locals ++ units_of
  pub agree : AgreeIn locals own
  pub assigned : AreAssignable headers units_of fields

pub suits_cut : (headers : Headers) (all own fields : List VType) → Suits headers all own fields → EndsNarrow (own ++ fields)
    → Suits headers (cut_end all) own fields
suits_cut headers all own fields suits ends = by suits.units_of fields suits.is suits.assigned ends where
  no_more : (ones : List VType) → ones ++ [] ≡ ones
  no_more [] = refl
  no_more (one ∷ ones) = ap (λ (rest : List VType). one ∷ rest) (no_more ones)

  by : (units_of written : List VType) → all ≡ suits.locals ++ units_of → AreAssignable headers units_of written → EndsNarrow (own ++ written)
      → Suits headers (cut_end all) own written
  by [] [] is are narrow = record {
    locals = cut_end suits.locals;
    units_of = [];
    is = ap cut_end (is ∙ no_more suits.locals) ∙ sym (no_more (cut_end suits.locals));
    agree = cut_agrees suits.locals own suits.agree (subst EndsNarrow (no_more own) narrow);
    assigned = tt;
  }
  by [] (other ∷ written) is are narrow = absurd are
  by (type ∷ rest) [] is are narrow = absurd are
  by (type ∷ rest) (other ∷ written) is are narrow = record {
    locals = suits.locals;
    units_of = cut_end (type ∷ rest);
    is = ap cut_end is ∙ cut_right suits.locals rest type;
    agree = suits.agree;
    assigned = cut_assigned headers (type ∷ rest) (other ∷ written) are (narrow_right own written other narrow);
  }

-- ---- what all units have

module _ (P : VType → Type 0) (of_top : P types.Top) where
  set_all : (all : List VType) (n : ℕ) (type : VType) → AllByRecursion P all → P type → AllByRecursion P (slice_set all n type)
  set_all [] n type have has = tt
  set_all (first ∷ rest) zero type have has = (has, have.1)
  set_all (first ∷ rest) (suc n) type have has = (have.0, set_all rest n type have.1 has)

  cut_all : (at : ℕ) (all : List VType) → AllByRecursion P all → AllByRecursion P (cut_before at all)
  cut_all zero all have = have
  cut_all (suc at) all have = by (slice_get all at) refl where
    by_width : (wide : Bool) → AllByRecursion P (if wide then slice_set all at types.Top else all)
    by_width true = set_all all at types.Top have of_top
    by_width false = have

    by : (found : Option VType) → slice_get all at ≡ found → AllByRecursion P (cut_before (suc at) all)
    by None none = rw none have
    by (Some type) some = rw some (by_width (is_wide type))

  with_all : (at : ℕ) (own all : List VType) → AllByRecursion P own → AllByRecursion P all → AllByRecursion P (with_units at own all)
  with_all at [] all own have = have
  with_all at (type ∷ rest) all own have = with_all (at + 1) rest (slice_set all at type) own.1 (set_all all at type have own.0)

  units_all : (type : VType) → P type → AllByRecursion P (units type)
  units_all types.Long has = (has, (of_top, tt))
  units_all types.Double has = (has, (of_top, tt))
  units_all type has = (has, tt)

  pub stored_all : (at : ℕ) (type : VType) (all : List VType) → P type → AllByRecursion P all → AllByRecursion P (stored at type all)
  stored_all at type all has have = with_all at (units type) (cut_before at all) (units_all type has) (cut_all at all have)
