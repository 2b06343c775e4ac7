-- The local units of the flat code as they are written: by number, and where some of them are set.
use Rattle.std.proofs.Common.{◌≡◌, ◌≢◌, ◌+◌, ◌<◌, ◌≤◌, ℕ, zero, suc, Bool, true, false, List, [], ◌∷◌, ◌++◌, length, slice_get, Option, Some, None, if◌then◌else◌, refl, sym, ap, subst, ◌∙◌, inl, inr, arith}
use Rattle.std.specs.Prelude.{slice_set}
use Rattle.std.specs.List.{AllByRecursion}
use Rattle.std.proofs.lemmas.List.{length-append, length-map}
use Rattle.std.proofs.lemmas.Option.{none-some, same_Some}
use Rattle.class_model.specs.Frames.{is_wide}
use Rattle.class_model.specs.declared.frame.VType.{VType}
use Rattle.class_model.specs.declared.frame.VType.TheVariants as types
use Rattle.member_link.specs.Rows.LocalRows.{cut_before, stored, with_units}
use Rattle.plan_flow.specs.PlanScope.{PlanScope}
use Rattle.virtual_state.specs.declared.slot.Slot.{Slot}
use Rattle.virtual_state.specs.declared.slot.Slot.TheVariants.{Plain, Virt, Unusable}
use Rattle.written_types.proofs.AgreeLists.{AgreeAt, AgreeEntry, agree_entry, agree_long, agree_set, set_left}
use Rattle.written_types.proofs.Given.{locals_in, type_in}
use Rattle.written_types.proofs.NeedsKept.{wide_item}
use Rattle.written_types.proofs.SlotTypes.{item_before, not_wide}
use Rattle.written_types.proofs.TwoUnits.{UnitsOf, one_unit, two_units, units_of}
use Rattle.written_types.proofs.WrittenTypes.{by_item, own_types}
use Rattle.written_types.specs.FitsTypes.{HasType, HaveTypes}
use Rattle.written_types.specs.Inner.CarriedFrames.{AgreeIn}
use Rattle.written_types.specs.Writing.{Writing}

-- ---- by number

pub own_at : (w : Writing) (all : List VType) (slots : List Slot) (number : ℕ) (type : VType) (slot : Slot) → slice_get all number ≡ Some type
    → slice_get slots number ≡ Some slot
    → slice_get (own_types w all slots) number ≡ Some (by_item w (type_in type slot))
own_at w [] slots number type slot is at = absurd (none-some type is)
own_at w (one ∷ all) [] number type slot is at = absurd (none-some slot at)
own_at w (one ∷ all) (first ∷ slots) zero type slot is at =
    ap (λ (t : VType). Some (by_item w (type_in t first))) (same_Some one type is)
    ∙ ap (λ (s : Slot). Some (by_item w (type_in type s))) (same_Some first slot at)
own_at w (one ∷ all) (first ∷ slots) (suc number) type slot is at = own_at w all slots number type slot is at

own_long : (w : Writing) (all : List VType) (slots : List Slot) → length all ≡ length slots → length (own_types w all slots) ≡ length all
own_long w all slots long = length-map (locals_in all slots) (by_item w) ∙ of_lists all slots long where
  of_lists : (all : List VType) (slots : List Slot) → length all ≡ length slots → length (locals_in all slots) ≡ length all
  of_lists [] slots long = refl
  of_lists (one ∷ all) [] long = absurd cc
  of_lists (one ∷ all) (first ∷ slots) long = ap suc (of_lists all slots (let e : length all ≡ length slots = cc in e))

pub have_long : (s : PlanScope) (all : List VType) (slots : List Slot) → HaveTypes s all slots → length all ≡ length slots
have_long s [] [] have = refl
have_long s [] (slot ∷ slots) have = absurd have
have_long s (type ∷ all) [] have = absurd have
have_long s (type ∷ all) (slot ∷ slots) have = ap suc (have_long s all slots have.1)

-- ---- set

own_set : (w : Writing) (all : List VType) (slots : List Slot) (number : ℕ) (type : VType) (slot : Slot) → length all ≡ length slots
    → own_types w (slice_set all number type) (slice_set slots number slot)
    ≡ slice_set (own_types w all slots) number (by_item w (type_in type slot))
own_set w [] [] number type slot long = refl
own_set w [] (first ∷ slots) number type slot long = absurd cc
own_set w (one ∷ all) [] number type slot long = absurd cc
own_set w (one ∷ all) (first ∷ slots) zero type slot long = refl
own_set w (one ∷ all) (first ∷ slots) (suc number) type slot long =
    ap (λ (rest : List VType). by_item w (type_in one first) ∷ rest)
    (own_set w all slots number type slot (let e : length all ≡ length slots = cc in e))

top_in : (slot : Slot) → type_in types.Top slot ≡ types.Top
top_in Plain = refl
top_in (Virt site) = refl
top_in Unusable = refl

own_top : (w : Writing) (all : List VType) (slots : List Slot) (number : ℕ) → length all ≡ length slots
    → own_types w (slice_set all number types.Top) slots ≡ slice_set (own_types w all slots) number types.Top
own_top w [] slots number long = refl
own_top w (one ∷ all) [] number long = absurd cc
own_top w (one ∷ all) (first ∷ slots) zero long = ap (λ (t : VType). by_item w t ∷ own_types w all slots) (top_in first)
own_top w (one ∷ all) (first ∷ slots) (suc number) long =
    ap (λ (rest : List VType). by_item w (type_in one first) ∷ rest)
    (own_top w all slots number (let e : length all ≡ length slots = cc in e))

set_long : {A : Type 0} (items : List A) (number : ℕ) (item : A) → length (slice_set items number item) ≡ length items
set_long [] number item = refl
set_long (first ∷ items) zero item = refl
set_long (first ∷ items) (suc number) item = ap suc (set_long items number item)

pub set_all : (P : VType → Type 0) (all : List VType) (number : ℕ) (type : VType) → AllByRecursion P all → P type
    → AllByRecursion P (slice_set all number type)
set_all P [] number type each here = tt
set_all P (first ∷ all) zero type each here = (here, each.1)
set_all P (first ∷ all) (suc number) type each here = (each.0, set_all P all number type each.1 here)

set_same : (all : List VType) (number : ℕ) (type : VType) → slice_get all number ≡ Some type → slice_set all number type ≡ all
set_same [] number type is = refl
set_same (first ∷ all) zero type is = ap (λ (t : VType). t ∷ all) (sym (same_Some first type is))
set_same (first ∷ all) (suc number) type is = ap (λ (rest : List VType). first ∷ rest) (set_same all number type is)

-- the units of a frame agree with those of the flat code as they are written, and with others behind them
pub record Own (w : Writing) (rest written all : List VType) (slots : List Slot) : Type 0 where
  pub long : length all ≡ length slots
  pub agree : AgreeIn written (own_types w all slots ++ rest)

-- the same where a long or double is cut
pub record Settled (w : Writing) (rest : List VType) (at : ℕ) (written all : List VType) (slots : List Slot) : Type 0 where
  pub long : length (cut_before at all) ≡ length all
  pub own : Own w rest (cut_before at written) (cut_before at all) slots

no_both : {b : Bool} → b ≡ true → b ≡ false → ⊥
no_both on off = absurd (cc (sym on ∙ off))

module _ (w : Writing) (rest : List VType) where
  own_both : (written all : List VType) (slots : List Slot) (number : ℕ) (one type : VType) (slot : Slot) → number < length all
      → AgreeAt one (by_item w (type_in type slot))
      → Own w rest written all slots
      → Own w rest (slice_set written number one) (slice_set all number type) (slice_set slots number slot)
  own_both written all slots number one type slot within at own = record {
    long = set_long all number type ∙ own.long ∙ sym (set_long slots number slot);
    agree = subst (AgreeIn (slice_set written number one))
        (set_left (own_types w all slots) rest number (by_item w (type_in type slot))
        (let long = own_long w all slots own.long in omega (arith, long, within))
        ∙ ap (λ (front : List VType). front ++ rest) (sym (own_set w all slots number type slot own.long)))
        (agree_set written (own_types w all slots ++ rest) number one (by_item w (type_in type slot)) own.agree at);
  }

  own_over : (written all : List VType) (slots : List Slot) (number : ℕ) (one : VType) → number < length all → Own w rest written all slots
      → Own w rest (slice_set written number one) (slice_set all number types.Top) slots
  own_over written all slots number one within own = record {
    long = set_long all number types.Top ∙ own.long;
    agree = subst (AgreeIn (slice_set written number one))
        (set_left (own_types w all slots) rest number types.Top
        (let long = own_long w all slots own.long in omega (arith, long, within))
        ∙ ap (λ (front : List VType). front ++ rest) (sym (own_top w all slots number own.long)))
        (agree_set written (own_types w all slots ++ rest) number one types.Top own.agree (inl refl));
  }

  -- what is written of a place that says nothing may change
  own_any : (written all : List VType) (slots : List Slot) (number : ℕ) (one : VType)
      → slice_get (own_types w all slots ++ rest) number ≡ Some types.Top
      → Own w rest written all slots
      → Own w rest (slice_set written number one) all slots
  own_any written all slots number one is own = record {
    long = own.long;
    agree = subst (AgreeIn (slice_set written number one)) (set_same (own_types w all slots ++ rest) number types.Top is)
        (agree_set written (own_types w all slots ++ rest) number one types.Top own.agree (inl refl));
  }

  -- ---- a store

  own_units : {one type : VType} {these those : List VType} → UnitsOf one these → UnitsOf type those → (at : ℕ) (written all : List VType)
      (slots : List Slot)
      → one ≡ by_item w type
      → at < length all
      → (is_wide type ≡ true → at + 2 ≤ length all)
      → Own w rest written all slots
      → Own w rest (with_units at these written) (with_units at those all) (slice_set slots at Plain)
  own_units {one} {type} (one_unit narrow) (one_unit also) at written all slots is within room own =
      own_both written all slots at one type Plain within (inr is) own
  own_units {one} {type} (one_unit narrow) (two_units wide) at written all slots is within room own =
      absurd (no_both (ap is_wide is ∙ wide_item w type ∙ wide) narrow)
  own_units {one} {type} (two_units wide) (one_unit narrow) at written all slots is within room own =
      absurd (no_both wide (ap is_wide is ∙ wide_item w type ∙ narrow))
  own_units {one} {type} (two_units wide) (two_units also) at written all slots is within room own =
      own_over (slice_set written at one) (slice_set all at type) (slice_set slots at Plain) (at + 1) types.Top
      (let two = room also in let long = set_long all at type in omega (arith, two, long))
      (own_both written all slots at one type Plain within (inr is) own)

  pub own_stored : (one type : VType) (at : ℕ) (written all : List VType) (slots : List Slot) → one ≡ by_item w type
      → at < length all
      → (is_wide type ≡ true → at + 2 ≤ length all)
      → Settled w rest at written all slots
      → Own w rest (stored at one written) (stored at type all) (slice_set slots at Plain)
  own_stored one type at written all slots is within room cut =
      own_units (units_of one) (units_of type) at (cut_before at written) (cut_before at all) slots is
      (let long = cut.long in omega (arith, within, long)) (λ wide. let two = room wide in let long = cut.long in omega (arith, two, long)) cut.own

-- a slot with its type
pub record SlotThere (s : PlanScope) (all : List VType) (slots : List Slot) (at : ℕ) : Type 0 where
  pub type : VType
  pub is_type : slice_get all at ≡ Some type
  pub slot : Slot
  pub is_slot : slice_get slots at ≡ Some slot
  pub has : HasType s type slot
  pub used : slot ≢ Unusable

slot_there : (s : PlanScope) (all : List VType) (slots : List Slot) (at : ℕ) → suc at < length all → HaveTypes s all slots
    → AllByRecursion (λ slot. slot ≢ Unusable) slots
    → SlotThere s all slots at
slot_there s [] slots at within have usable = absurd (omega (arith, within))
slot_there s (type ∷ all) [] at within have usable = absurd have
slot_there s (type ∷ all) (slot ∷ slots) zero within have usable =
    record { type = type; is_type = refl; slot = slot; is_slot = refl; has = have.0; used = usable.0 }
slot_there s (type ∷ all) (slot ∷ slots) (suc at) within have usable =
    let rest = slot_there s all slots at (omega (arith, within)) have.1 usable.1 in
    record { type = rest.type; is_type = rest.is_type; slot = rest.slot; is_slot = rest.is_slot; has = rest.has; used = rest.used }

plain_if_wide : (s : PlanScope) (type : VType) (slot : Slot) → HasType s type slot → slot ≢ Unusable → is_wide type ≡ true → slot ≡ Plain
plain_if_wide s type Plain has used wide = refl
plain_if_wide s type (Virt site) has used wide = absurd (not_wide s has wide)
plain_if_wide s type Unusable has used wide = absurd (used refl)

-- a unit that is a long or double as it is written, and none by its type, says nothing
says_nothing : (w : Writing) (one type : VType) (slot : Slot) → AgreeAt one (by_item w (type_in type slot)) → is_wide one ≡ true
    → is_wide type ≡ false
    → by_item w (type_in type slot) ≡ types.Top
says_nothing w one type slot (inl top) wide narrow = top
says_nothing w one type Plain (inr same) wide narrow =
    absurd (no_both (sym (ap is_wide same ∙ wide_item w type) ∙ wide) narrow)
says_nothing w one type (Virt site) (inr same) wide narrow = refl
says_nothing w one type Unusable (inr same) wide narrow = refl

cut_at : (at : ℕ) (all : List VType) (type : VType) (wide : Bool) → slice_get all at ≡ Some type → is_wide type ≡ wide
    → cut_before (suc at) all ≡ (if wide then slice_set all at types.Top else all)
cut_at at all type wide is test = rw (is, test) refl

-- A long or double whose second unit is written is none any more.
pub own_cut : (w : Writing) (rest : List VType) (s : PlanScope) (at : ℕ) (written all : List VType) (slots : List Slot) → at < length all
    → HaveTypes s all slots
    → AllByRecursion (λ slot. slot ≢ Unusable) slots
    → Own w rest written all slots
    → Settled w rest at written all slots
own_cut w rest s zero written all slots within have usable own = record { long = refl; own = own }
own_cut w rest s (suc at) written all slots within have usable own =
    by (is_wide there.type) refl (is_wide entry.type) refl where
      there : SlotThere s all slots at
      there = slot_there s all slots at within have usable

      written_there : slice_get (own_types w all slots ++ rest) at ≡ Some (by_item w (type_in there.type there.slot))
      written_there =
          item_before (own_types w all slots) rest at (by_item w (type_in there.type there.slot))
          (own_at w all slots at there.type there.slot there.is_type there.is_slot)

      entry : AgreeEntry written at (by_item w (type_in there.type there.slot))
      entry = agree_entry written (own_types w all slots ++ rest) at (by_item w (type_in there.type there.slot)) own.agree written_there

      low : at < length all
      low = omega (arith, within)

      by : (wide : Bool) → is_wide there.type ≡ wide → (also : Bool) → is_wide entry.type ≡ also → Settled w rest (suc at) written all slots
      by true wide true also =
          record {
            long = rw (cut_at at all there.type true there.is_type wide) (set_long all at types.Top);
            own = rw (cut_at at all there.type true there.is_type wide, cut_at at written entry.type true entry.is also)
                (own_over w rest written all slots at types.Top low own);
          }
      by true wide false also = absurd (elim entry.agrees [
        | inl top ↦ no_both (wide_item w there.type ∙ wide) (ap is_wide (sym plain_item ∙ top))
        | inr same ↦ no_both (ap is_wide (same ∙ plain_item) ∙ wide_item w there.type ∙ wide) also
      ]) where
        plain_item : by_item w (type_in there.type there.slot) ≡ by_item w there.type
        plain_item = ap (λ (slot : Slot). by_item w (type_in there.type slot)) (plain_if_wide s there.type there.slot there.has there.used wide)
      by false wide true also =
          record {
            long = rw (cut_at at all there.type false there.is_type wide) refl;
            own = rw (cut_at at all there.type false there.is_type wide, cut_at at written entry.type true entry.is also)
                (own_any w rest written all slots at types.Top
                (written_there ∙ ap Some (says_nothing w entry.type there.type there.slot entry.agrees also wide)) own);
          }
      by false wide false also =
          record {
            long = rw (cut_at at all there.type false there.is_type wide) refl;
            own = rw (cut_at at all there.type false there.is_type wide, cut_at at written entry.type false entry.is also) own;
          }

pub own_longer : (w : Writing) (rest written all : List VType) (slots : List Slot) → Own w rest written all slots → length all ≤ length written
own_longer w rest written all slots own =
    let long = own_long w all slots own.long in
    let many = agree_long written (own_types w all slots ++ rest) own.agree in
    let both = length-append (own_types w all slots) rest in
    omega (arith, long, many, both)

-- what holds of all units holds behind a store
cut_all : (P : VType → Type 0) (at : ℕ) (all : List VType) → AllByRecursion P all → P types.Top → AllByRecursion P (cut_before at all)
cut_all P zero all each top = each
cut_all P (suc at) all each top = by (slice_get all at) refl where
  by_width : (wide : Bool) → AllByRecursion P (if wide then slice_set all at types.Top else all)
  by_width true = set_all P all at types.Top each top
  by_width false = each

  by : (found : Option VType) → slice_get all at ≡ found → AllByRecursion P (cut_before (suc at) all)
  by None none = rw none each
  by (Some type) some = rw some (by_width (is_wide type))

units_all : (P : VType → Type 0) {type : VType} {own : List VType} → UnitsOf type own → (at : ℕ) (all : List VType) → AllByRecursion P all → P types.Top
    → P type
    → AllByRecursion P (with_units at own all)
units_all P {type} (one_unit narrow) at all each top here = set_all P all at type each here
units_all P {type} (two_units wide) at all each top here = set_all P (slice_set all at type) (at + 1) types.Top (set_all P all at type each here) top

pub stored_all : (P : VType → Type 0) (at : ℕ) (type : VType) (all : List VType) → AllByRecursion P all → P types.Top → P type
    → AllByRecursion P (stored at type all)
stored_all P at type all each top here = units_all P (units_of type) at (cut_before at all) (cut_all P at all each top) top here
