-- Where a value is stored among local units: what is there behind it.
use Rattle.std.proofs.Common.{◌≡◌, ◌⊎◌, inl, inr, ◌==◌, ◌+◌, ◌≤◌, ◌<◌, nat_le, ℕ, zero, suc, Bool, true, false, List, [], ◌∷◌, length, slice_get, slice_set, Option, Some, None, if◌then◌else◌, refl, sym, ap, subst, ◌∙◌, arith}
use Rattle.std.proofs.lemmas.Bool.{eqb-true, eqb-false, leb-true, leb-false, le-leb}
use Rattle.std.proofs.lemmas.Option.{none-some}
use Rattle.machine_values.specs.Values.{is_wide_value}
use Rattle.machine_values.specs.declared.value.Value.{Value}
use Rattle.member_link.specs.Machine.Locals.{cut_before, stored, width_of}
use Rattle.same_runs.specs.Laws.Objects.{set_other}
use Rattle.same_runs.specs.Laws.Units.{cut_by, stored_by}

abbrev pub Units : Type 0
Units = List (Option Value)

-- a value in a unit
abbrev pub Has : Units → ℕ → Value → Type 0
Has units at value = slice_get units at ≡ Some (Some value)

-- the units of a value are before others, or behind
abbrev pub IsClear : ℕ → Value → ℕ → ℕ → Type 0
IsClear n v at end = (n + width_of v ≤ at) ⊎ (end ≤ n)

-- What a store does. No value that is there behind it overlaps with the one that is stored.
pub record IsStored (at : ℕ) (value : Value) (locals units : Units) : Type 0 where
  pub room : at + width_of value ≤ length locals
  pub count : length units ≡ length locals
  pub here : Has units at value
  pub was : (n : ℕ) (v : Value) → (n ≡ at → ⊥) → Has units n v → Has locals n v
  pub stays : (n : ℕ) (v : Value) → IsClear n v at (at + width_of value) → Has locals n v → Has units n v
  pub apart : (n : ℕ) (v : Value) → (n ≡ at → ⊥) → Has units n v → IsClear n v at (at + width_of value)

-- ---- widths

-- a value takes one unit or two
pub width_low : (v : Value) → 1 ≤ width_of v
width_low v = by (is_wide_value v) where
  by : (b : Bool) → 1 ≤ (if b then 2 else 1)
  by true = omega arith
  by false = omega arith

pub width_high : (v : Value) → width_of v ≤ 2
width_high v = by (is_wide_value v) where
  by : (b : Bool) → (if b then 2 else 1) ≤ 2
  by true = omega arith
  by false = omega arith

-- ---- lists

-- what is set in a list is there
pub set_in : {A : Type 0} (xs : List A) (at : ℕ) (x : A) → at < length xs → slice_get (slice_set xs at x) at ≡ Some x
set_in [] at x low = absurd (omega (arith, low))
set_in (y ∷ xs) zero x low = refl
set_in (y ∷ xs) (suc at) x low = set_in xs at x (omega (arith, low))

-- and the list is as long as before
pub set_count : {A : Type 0} (xs : List A) (at : ℕ) (x : A) → length (slice_set xs at x) ≡ length xs
set_count [] at x = refl
set_count (y ∷ xs) zero x = refl
set_count (y ∷ xs) (suc at) x = ap suc (set_count xs at x)

-- numbers are equal or not
pub equal_or : (n m : ℕ) → (n ≡ m) ⊎ (n ≡ m → ⊥)
equal_or n m = by (n == m) refl where
  by : (b : Bool) → (n == m) ≡ b → (n ≡ m) ⊎ (n ≡ m → ⊥)
  by true e = inl (eqb-true n m e)
  by false e = inr (eqb-false n m e)

-- a unit that is emptied holds no value, and the others stay
emptied_differs : (units : Units) (at n : ℕ) (v : Value) → Has (slice_set units at None) n v → n ≡ at → ⊥
emptied_differs [] at n v is same = none-some (Some v) is
emptied_differs (first ∷ units) zero zero v is same = cc is
emptied_differs (first ∷ units) zero (suc n) v is same = omega (arith, same)
emptied_differs (first ∷ units) (suc at) zero v is same = omega (arith, same)
emptied_differs (first ∷ units) (suc at) (suc n) v is same = emptied_differs units at n v is (omega (arith, same))

emptied_was : (units : Units) (at n : ℕ) (v : Value) → Has (slice_set units at None) n v → Has units n v
emptied_was units at n v is =
    sym (set_other units at n None (λ same. emptied_differs units at n v is (sym same))) ∙ is

-- ---- the unit before

record IsCut (at : ℕ) (locals units : Units) : Type 0 where
  pub count : length units ≡ length locals
  pub was : (n : ℕ) (v : Value) → Has units n v → Has locals n v
  pub stays : (n : ℕ) (v : Value) → IsClear n v at at → Has locals n v → Has units n v
  pub apart : (n : ℕ) (v : Value) → Has units n v → IsClear n v at at

-- a value in another unit than the one before
elsewhere : (n m : ℕ) (v : Value) → (n ≡ m → ⊥) → IsClear n v (suc m) (suc m)
elsewhere n m v differ = by (nat_le (suc m) n) refl where
  by : (b : Bool) → nat_le (suc m) n ≡ b → IsClear n v (suc m) (suc m)
  by true e = inr (leb-true (suc m) n e)
  by false e = inl (let high = width_high v in let low : n < suc m = leb-false (suc m) n e in omega (arith, differ, high, low))

cut_is : (at : ℕ) (locals : Units) → IsCut at locals (cut_before at locals)
cut_is zero locals = record {
  count = refl;
  was = λ n v is. is;
  stays = λ n v clear is. is;
  apart = λ n v is. inr (omega arith);
}
cut_is (suc m) locals = by (slice_get locals m) refl where
  whole : ((v : Value) → Has locals m v → is_wide_value v ≡ false) → IsCut (suc m) locals locals
  whole narrow = record {
    count = refl;
    was = λ n v is. is;
    stays = λ n v clear is. is;
    apart = λ n v is. apart n v is (equal_or n m);
  } where
    apart : (n : ℕ) (v : Value) → Has locals n v → (n ≡ m) ⊎ (n ≡ m → ⊥) → IsClear n v (suc m) (suc m)
    apart n v is (inl same) =
        let one : width_of v ≡ 1 = rw (narrow v (subst (λ (k : ℕ). Has locals k v) same is)) refl in
        inl (omega (arith, same, one))
    apart n v is (inr differ) = elsewhere n m v differ

  wide : (value : Value) → Has locals m value → is_wide_value value ≡ true → IsCut (suc m) locals (slice_set locals m None)
  wide value is_value is_wide = record {
    count = set_count locals m None;
    was = λ n v is. emptied_was locals m n v is;
    stays = λ n v clear is. set_other locals m n None (λ same. not_clear n v clear is (sym same)) ∙ is;
    apart = λ n v is. elsewhere n m v (emptied_differs locals m n v is);
  } where
    not_clear : (n : ℕ) (v : Value) → IsClear n v (suc m) (suc m) → Has locals n v → n ≡ m → ⊥
    not_clear n v (inr high) is same = omega (arith, high, same)
    not_clear n v (inl low) is same =
        let found : Some (Some v) ≡ Some (Some value) = sym is ∙ ap (slice_get locals) same ∙ is_value in
        let value_is : v ≡ value = cc found in
        let two : width_of v ≡ 2 = rw (ap is_wide_value value_is ∙ is_wide) refl in
        omega (arith, low, same, two)

  by : (found : Option (Option Value)) → slice_get locals m ≡ found → IsCut (suc m) locals (cut_by locals m found)
  by None e = whole (λ v is. absurd (none-some (Some v) (sym e ∙ is)))
  by (Some None) e = whole (λ v is. let wrong : Some None ≡ Some (Some v) = sym e ∙ is in cc wrong)
  by (Some (Some value)) e = of (is_wide_value value) refl where
    of : (b : Bool) → is_wide_value value ≡ b → IsCut (suc m) locals (if b then slice_set locals m None else locals)
    of true is = wide value e is
    of false is =
        whole (λ v is_v.
        let found : Some (Some v) ≡ Some (Some value) = sym is_v ∙ e in
        let value_is : v ≡ value = cc found in
        ap is_wide_value value_is ∙ is)

-- ---- the store

module _ (at : ℕ) (value : Value) (locals : Units) (room : at + width_of value ≤ length locals) where
  abbrev cut : Units
  cut = cut_before at locals

  before : IsCut at locals cut
  before = cut_is at locals

  abbrev first : Units
  first = slice_set cut at (Some value)

  low : at < length cut
  low = let one = width_low value in let count = before.count in let fits = room in omega (arith, one, count, fits)

  apart_first : (n : ℕ) (v : Value) → (n ≡ at → ⊥) → Has first n v → Has cut n v
  apart_first n v differ is = sym (set_other cut at n (Some value) (λ same. differ (sym same))) ∙ is

  cleared : (n : ℕ) (v : Value) → IsClear n v at (at + width_of value) → IsClear n v at at
  cleared n v (inl below) = inl below
  cleared n v (inr high) = inr (omega (arith, high))

  clear_differs : (n : ℕ) (v : Value) → IsClear n v at (at + width_of value) → n ≡ at → ⊥
  clear_differs n v (inl below) same = let one = width_low v in omega (arith, below, same, one)
  clear_differs n v (inr high) same = let one = width_low value in omega (arith, high, same, one)

  stays_first : (n : ℕ) (v : Value) → IsClear n v at (at + width_of value) → Has locals n v → Has first n v
  stays_first n v clear is =
      set_other cut at n (Some value) (λ same. clear_differs n v clear (sym same)) ∙ before.stays n v (cleared n v clear) is

  narrow_is : is_wide_value value ≡ false → IsStored at value locals first
  narrow_is narrow = record {
    room = room;
    count = set_count cut at (Some value) ∙ before.count;
    here = set_in cut at (Some value) low;
    was = λ n v differ is. before.was n v (apart_first n v differ is);
    stays = stays_first;
    apart = λ n v differ is. behind n v differ (before.apart n v (apart_first n v differ is));
  } where
    one : width_of value ≡ 1
    one = rw narrow refl

    behind : (n : ℕ) (v : Value) → (n ≡ at → ⊥) → IsClear n v at at → IsClear n v at (at + width_of value)
    behind n v differ (inl below) = inl below
    behind n v differ (inr high) = inr (let width = one in omega (arith, differ, high, width))

  wide_is : is_wide_value value ≡ true → IsStored at value locals (slice_set first (at + 1) None)
  wide_is wide = record {
    room = room;
    count = set_count first (at + 1) None ∙ set_count cut at (Some value) ∙ before.count;
    here = set_other first (at + 1) at None (λ same. omega (arith, same)) ∙ set_in cut at (Some value) low;
    was = λ n v differ is. before.was n v (apart_first n v differ (emptied_was first (at + 1) n v is));
    stays = λ n v clear is. set_other first (at + 1) n None (λ same. not_second n v clear (sym same)) ∙ stays_first n v clear is;
    apart = λ n v differ is.
        behind n v differ (emptied_differs first (at + 1) n v is)
        (before.apart n v (apart_first n v differ (emptied_was first (at + 1) n v is)));
  } where
    two : width_of value ≡ 2
    two = rw wide refl

    not_second : (n : ℕ) (v : Value) → IsClear n v at (at + width_of value) → n ≡ at + 1 → ⊥
    not_second n v (inl below) same = omega (arith, below, same)
    not_second n v (inr high) same = let width = two in omega (arith, high, same, width)

    behind : (n : ℕ) (v : Value) → (n ≡ at → ⊥) → (n ≡ at + 1 → ⊥) → IsClear n v at at → IsClear n v at (at + width_of value)
    behind n v differ second (inl below) = inl below
    behind n v differ second (inr high) = inr (let width = two in omega (arith, differ, second, high, width))

  stored_wide : (b : Bool) → is_wide_value value ≡ b → IsStored at value locals (stored_by at b first)
  stored_wide true e = wide_is e
  stored_wide false e = narrow_is e

-- what stands behind a store
pub stored_is : (at : ℕ) (value : Value) (locals units : Units) → stored at value locals ≡ Some units → IsStored at value locals units
stored_is at value locals units is = by (nat_le (at + width_of value) (length locals)) refl is where
  by : (b : Bool) → nat_le (at + width_of value) (length locals) ≡ b
      → (if b then Some (stored_by at (is_wide_value value) (slice_set (cut_before at locals) at (Some value))) else None) ≡ Some units
      → IsStored at value locals units
  by true e same =
      subst (λ (made : Units). IsStored at value locals made) (cc same)
      (stored_wide at value locals (leb-true (at + width_of value) (length locals) e) (is_wide_value value) refl)
  by false e none = cc none

-- a value that fits is stored
pub stores : (at : ℕ) (value : Value) (locals : Units) → at + width_of value ≤ length locals
    → (units : Units) × (stored at value locals ≡ Some units)
stores at value locals room = (
  stored_by at (is_wide_value value) (slice_set (cut_before at locals) at (Some value)),
  rw (le-leb (at + width_of value) (length locals) room) refl,
)
