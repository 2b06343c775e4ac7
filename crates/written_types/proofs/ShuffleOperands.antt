-- The operands of pop, dup, swap and the like: what the written stack has of them, and of those that are given.
use Rattle.std.proofs.Common.{◌≡◌, ◌<◌, ℕ, zero, suc, Bool, true, false, List, [], ◌∷◌, ◌++◌, length, map, slice_get, Option, Some, refl, sym, ap, ◌∙◌, inl, inr, arith}
use Rattle.std.specs.Prelude.{not}
use Rattle.std.specs.List.{AllByRecursion}
use Rattle.std.proofs.lemmas.Bool.{and_parts, false≢true}
use Rattle.class_model.specs.Frames.{depth, is_top, is_wide}
use Rattle.class_model.specs.declared.frame.VType.{VType}
use Rattle.class_model.specs.declared.frame.VType.TheVariants as types
use Rattle.member_link.specs.Rows.ShuffleRows.{Width, has_width, have_widths, one, picked}
use Rattle.plan_flow.specs.PlanScope.{PlanScope}
use Rattle.plan_flow.specs.PlanSlots.{readable}
use Rattle.plan_flow.specs.Written.Templates.{Cell, cells_from}
use Rattle.virtual_state.specs.States.{is_unusable}
use Rattle.virtual_state.specs.declared.slot.Slot.{Slot}
use Rattle.virtual_state.specs.declared.slot.Slot.TheVariants.{Plain, Virt, Unusable}
use Rattle.written_types.proofs.Given.{entries_in, entries_with}
use Rattle.written_types.proofs.ShuffleForms.{FitAll, Fits, and_fit, cells_of, chosen_lists, gone, joined, list_or_none, narrow, no_fits, wide}
use Rattle.written_types.proofs.SlotFrames.{Usable}
use Rattle.written_types.proofs.SlotTypes.{not_wide}
use Rattle.written_types.specs.FitsTypes.{HaveTypes}
use Rattle.written_types.specs.Inner.CarriedFrames.{AgreeIn}

-- ---- cells

wide_units : (width : Width) (type : VType) (slot : Slot) (all : List VType) (slots : List Slot) → has_width width type ≡ true
    → cells_from (type ∷ all) (slot ∷ slots) ≡ cells_of (width ∷ []) (slot ∷ []) ++ cells_from all slots
wide_units Width.one types.Long slot all slots told = absurd (false≢true told)
wide_units Width.one types.Double slot all slots told = absurd (false≢true told)
wide_units Width.one type slot all slots told = refl
wide_units Width.two types.Long slot all slots told = refl
wide_units Width.two types.Double slot all slots told = refl
wide_units Width.two type slot all slots told = absurd (false≢true told)

pub cells_are : (widths : List Width) (all : List VType) (slots : List Slot) → have_widths widths all ≡ true → cells_from all slots ≡ cells_of widths slots
cells_are [] [] slots fits = refl
cells_are [] (type ∷ all) slots fits = absurd (false≢true fits)
cells_are (width ∷ widths) [] slots fits = absurd (false≢true fits)
cells_are (width ∷ widths) (type ∷ all) [] fits = refl
cells_are (width ∷ widths) (type ∷ all) (slot ∷ slots) fits =
    let both = and_parts (has_width width type) (have_widths widths all) fits in
    wide_units width type slot all slots both.0
    ∙ ap (λ (rest : List Cell). cells_of (width ∷ []) (slot ∷ []) ++ rest) (cells_are widths all slots both.1)

pub cells_both : (all more : List VType) (slots others : List Slot) → length all ≡ length slots
    → cells_from (all ++ more) (slots ++ others) ≡ cells_from all slots ++ cells_from more others
cells_both [] more [] others many = refl
cells_both [] more (slot ∷ slots) others many = absurd cc
cells_both (type ∷ all) more [] others many = absurd cc
cells_both (type ∷ all) more (slot ∷ slots) others many =
    ap (λ (rest : List Cell). record { units = depth (type ∷ []); slot = slot } ∷ rest)
    (cells_both all more slots others (let e : length all ≡ length slots = cc in e))

-- ---- types that agree and are not Top

pub agree_same : (ones written : List VType) → AgreeIn ones written → AllByRecursion (λ type. is_top type ≡ false) written → ones ≡ written
agree_same [] [] agree others = refl
agree_same [] (type ∷ written) agree others = absurd agree
agree_same (first ∷ ones) [] agree others = absurd agree
agree_same (first ∷ ones) (type ∷ written) agree others =
    λ i. same i ∷ agree_same ones written agree.1 others.1 i where
      same : first ≡ type
      same = elim agree.0 [
        | inl top ↦ absurd (false≢true (sym others.0 ∙ ap is_top top))
        | inr is ↦ is
      ]

-- ---- operands

module _ (By : VType → VType) (keeps_wide : (type : VType) → is_wide (By type) ≡ is_wide type) (keeps_top : (type : VType) → is_top (By type) ≡ is_top type) where
  -- what the written stack has of an operand
  abbrev pub written_of : VType → Slot → List VType
  written_of type slot = map By (entries_with slot type [])

  abbrev pub lists_of : List VType → List Slot → List (List VType)
  lists_of [] slots = []
  lists_of (type ∷ all) [] = []
  lists_of (type ∷ all) (slot ∷ slots) = written_of type slot ∷ lists_of all slots

  pub lists_joined : (all : List VType) (slots : List Slot) → map By (entries_in all slots) ≡ joined (lists_of all slots)
  lists_joined [] slots = refl
  lists_joined (type ∷ all) [] = refl
  lists_joined (type ∷ all) (Plain ∷ slots) = ap (λ (rest : List VType). By type ∷ rest) (lists_joined all slots)
  lists_joined (type ∷ all) (Virt site ∷ slots) = lists_joined all slots
  lists_joined (type ∷ all) (Unusable ∷ slots) = lists_joined all slots

  not_wide_single : (type : VType) → has_width one type ≡ true → (is_wide type ≡ false) × (is_top type ≡ false)
  not_wide_single type told = (opposite (is_wide type) both.0, opposite (is_top type) both.1) where
    both : (not (is_wide type) ≡ true) × (not (is_top type) ≡ true)
    both = and_parts (not (is_wide type)) (not (is_top type)) told

    opposite : (b : Bool) → not b ≡ true → b ≡ false
    opposite true told = absurd (false≢true told)
    opposite false told = refl

  one_fits : (s : PlanScope) (width : Width) (type : VType) (slot : Slot) → has_width width type ≡ true → HaveTypes s (type ∷ []) (slot ∷ [])
      → is_unusable slot ≡ false
      → Fits width slot (written_of type slot)
  one_fits s Width.one type Plain told has usable =
      let narrow_is = not_wide_single type told in narrow (keeps_wide type ∙ narrow_is.0) (keeps_top type ∙ narrow_is.1)
  one_fits s Width.two type Plain told has usable = wide (keeps_wide type ∙ told)
  one_fits s Width.one type (Virt site) told has usable = gone
  one_fits s Width.two type (Virt site) told has usable = absurd (not_wide s has.0 told)
  one_fits s width type Unusable told has usable = absurd (false≢true (sym usable))

  pub all_fit : (s : PlanScope) (widths : List Width) (all : List VType) (slots : List Slot) → have_widths widths all ≡ true → HaveTypes s all slots
      → Usable slots
      → FitAll widths slots (lists_of all slots)
  all_fit s [] [] [] fits have usable = no_fits
  all_fit s [] [] (slot ∷ slots) fits have usable = absurd have
  all_fit s [] (type ∷ all) slots fits have usable = absurd (false≢true fits)
  all_fit s (width ∷ widths) [] slots fits have usable = absurd (false≢true fits)
  all_fit s (width ∷ widths) (type ∷ all) [] fits have usable = absurd have
  all_fit s (width ∷ widths) (type ∷ all) (slot ∷ slots) fits have usable =
      let both = and_parts (has_width width type) (have_widths widths all) fits in
      and_fit (one_fits s width type slot both.0 (have.0, tt) usable.0) (all_fit s widths all slots both.1 have.1 usable.1)

  single_not_top : (width : Width) (type : VType) → has_width width type ≡ true → is_top (By type) ≡ false
  single_not_top Width.one type told = keeps_top type ∙ (not_wide_single type told).1
  single_not_top Width.two types.Long told = keeps_top types.Long
  single_not_top Width.two types.Double told = keeps_top types.Double
  single_not_top Width.two type told = absurd (false≢true told)

  -- none of them is Top
  pub none_top : (widths : List Width) (all : List VType) (slots : List Slot) → have_widths widths all ≡ true
      → AllByRecursion (λ type. is_top type ≡ false) (map By (entries_in all slots))
  none_top [] [] slots fits = tt
  none_top [] (type ∷ all) slots fits = absurd (false≢true fits)
  none_top (width ∷ widths) [] slots fits = absurd (false≢true fits)
  none_top (width ∷ widths) (type ∷ all) [] fits = tt
  none_top (width ∷ widths) (type ∷ all) (slot ∷ slots) fits =
      let both = and_parts (has_width width type) (have_widths widths all) fits in
      by slot both.0 (none_top widths all slots both.1) where
        by : (slot : Slot) → has_width width type ≡ true → AllByRecursion (λ (t : VType). is_top t ≡ false) (map By (entries_in all slots))
            → AllByRecursion (λ (t : VType). is_top t ≡ false) (map By (entries_in (type ∷ all) (slot ∷ slots)))
        by Plain told rest = (single_not_top width type told, rest)
        by (Virt site) told rest = rest
        by Unusable told rest = rest

  -- ---- what is given

  abbrev pub chosen_slots : List Slot → List ℕ → List Slot
  chosen_slots slots numbers = map (λ (number : ℕ). readable (slice_get slots number)) numbers

  record GivenAt (all : List VType) (slots : List Slot) (number : ℕ) : Type 0 where
    type : VType
    slot : Slot
    is_type : slice_get all number ≡ Some type
    is_slot : slice_get slots number ≡ Some slot
    usable : is_unusable slot ≡ false
    is_list : slice_get (lists_of all slots) number ≡ Some (written_of type slot)

  given_at : (all : List VType) (slots : List Slot) (number : ℕ) → length all ≡ length slots → Usable slots → number < length all
      → GivenAt all slots number
  given_at [] slots number long usable low = absurd (omega (arith, low))
  given_at (type ∷ all) [] number long usable low = absurd cc
  given_at (type ∷ all) (slot ∷ slots) zero long usable low =
      record { type = type; slot = slot; is_type = refl; is_slot = refl; usable = usable.0; is_list = refl }
  given_at (type ∷ all) (slot ∷ slots) (suc number) long usable low =
      let rest = given_at all slots number (let e : length all ≡ length slots = cc in e) usable.1 (omega (arith, low)) in
      record {
        type = rest.type;
        slot = rest.slot;
        is_type = rest.is_type;
        is_slot = rest.is_slot;
        usable = rest.usable;
        is_list = rest.is_list;
      }

  entries_one : (slot : Slot) → is_unusable slot ≡ false → (type : VType) (more : List VType) (others : List Slot)
      → map By (entries_in (type ∷ more) (readable (Some slot) ∷ others)) ≡ written_of type slot ++ map By (entries_in more others)
  entries_one Plain usable type more others = refl
  entries_one (Virt site) usable type more others = refl
  entries_one Unusable usable type more others = absurd (false≢true (sym usable))

  pub given_are : (all : List VType) (slots : List Slot) (numbers : List ℕ) → length all ≡ length slots → Usable slots
      → AllByRecursion (λ (number : ℕ). number < length all) numbers
      → map By (entries_in (picked all numbers) (chosen_slots slots numbers)) ≡ chosen_lists (lists_of all slots) numbers
  given_are all slots [] long usable low = refl
  given_are all slots (number ∷ numbers) long usable low =
      let here = given_at all slots number long usable low.0 in
      let picks : picked all (number ∷ numbers) ≡ here.type ∷ picked all numbers = rw (here.is_type) refl in
      let slots_are : chosen_slots slots (number ∷ numbers) ≡ readable (Some here.slot) ∷ chosen_slots slots numbers =
      ap (λ (found : Option Slot). readable found ∷ chosen_slots slots numbers) here.is_slot in
      (λ i. map By (entries_in (picks i) (slots_are i)))
      ∙ entries_one here.slot here.usable here.type (picked all numbers) (chosen_slots slots numbers)
      ∙ ap (λ (rest : List VType). written_of here.type here.slot ++ rest) (given_are all slots numbers long usable low.1)
      ∙ ap (λ (found : Option (List VType)). list_or_none found ++ chosen_lists (lists_of all slots) numbers) (sym here.is_list)
