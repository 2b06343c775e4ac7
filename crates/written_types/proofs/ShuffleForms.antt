-- The written instruction moves the plain ones of the operands as pop, dup, swap and the like move all of them, also by their types: form by
-- form, and by which of them are virtual.
use Rattle.std.proofs.Common.{◌≡◌, ◌<◌, ◌++◌, ◌==◌, ℕ, Bool, if◌then◌else◌, List, [], ◌∷◌, length, reverse, slice_get, Some, None, Option, true, false, refl, sym, subst, arith}
use Rattle.std.specs.List.{AllByRecursion}
use Rattle.std.proofs.lemmas.Bool.{eqb-true}
use Rattle.class_model.specs.Frames.{is_top, is_wide}
use Rattle.class_model.specs.declared.frame.VType.{VType}
use Rattle.class_model.specs.declared.instr.Instr.TheVariants.{Shuffle}
use Rattle.class_model.specs.declared.opcodes.TheConstants.{POP, POP2, DUP, DUP_X1, DUP_X2, DUP2, DUP2_X1, DUP2_X2, SWAP}
use Rattle.making_code.specs.Items.{WInstr, plain}
use Rattle.member_link.specs.Rows.ShuffleRows.{Form, Width, forms_of, one, two}
use Rattle.plan_flow.specs.Written.Templates.{Cell, shuffles}
use Rattle.virtual_state.specs.declared.slot.Slot.{Slot}
use Rattle.virtual_state.specs.declared.slot.Slot.TheVariants.{Plain, Virt}
use Rattle.written_types.proofs.TopForms.{moved}

-- what the written stack has of an operand of a width, by its slot
pub data Fits : Width → Slot → List VType → Type 0 where
  gone : {site : ℕ} → Fits one (Virt site) []
  narrow : {also : VType} → is_wide also ≡ false → is_top also ≡ false → Fits one Plain (also ∷ [])
  wide : {also : VType} → is_wide also ≡ true → Fits two Plain (also ∷ [])

-- of each of the operands, the lowest first
pub data FitAll : List Width → List Slot → List (List VType) → Type 0 where
  no_fits : FitAll [] [] []
  and_fit : {width : Width} {slot : Slot} {has : List VType} {widths : List Width} {slots : List Slot} {all : List (List VType)}
      → Fits width slot has
      → FitAll widths slots all
      → FitAll (width ∷ widths) (slot ∷ slots) (has ∷ all)

abbrev pub units_in : Width → ℕ
units_in one = 1
units_in two = 2

abbrev pub cells_of : List Width → List Slot → List Cell
cells_of [] slots = []
cells_of (width ∷ widths) [] = []
cells_of (width ∷ widths) (slot ∷ slots) = record { units = units_in width; slot = slot } ∷ cells_of widths slots

abbrev pub joined : List (List VType) → List VType
joined [] = []
joined (has ∷ all) = has ++ joined all

abbrev pub list_or_none : Option (List VType) → List VType
list_or_none None = []
list_or_none (Some has) = has

abbrev pub chosen_lists : List (List VType) → List ℕ → List VType
chosen_lists all [] = []
chosen_lists all (number ∷ numbers) = list_or_none (slice_get all number) ++ chosen_lists all numbers

-- what is written leads from these types on the stack to others, whatever is below
pub data MovesTo (code : List Cell → List WInstr) (before after : List VType) : Type 0 where
  stays : code [] ≡ [] → ((cell : Cell) (others : List Cell) → code (cell ∷ others) ≡ []) → before ≡ after → MovesTo code before after
  moves : (opcode : ℕ)
      → code [] ≡ plain (Shuffle opcode) ∷ []
      → ((cell : Cell) (others : List Cell) → code (cell ∷ others) ≡ plain (Shuffle opcode) ∷ [])
      → ((below : List VType) → moved opcode (reverse before ++ below) ≡ Some (length before, after))
      → MovesTo code before after

abbrev pub CheckAt : ℕ → Form → List Slot → List (List VType) → Type 0
CheckAt opcode form slots all = FitAll form.takes slots all
    → MovesTo (λ (others : List Cell). shuffles opcode (reverse (cells_of form.takes slots) ++ others)) (joined all)
    (chosen_lists all form.gives)

pub record IsChecked (opcode : ℕ) (form : Form) : Type 0 where
  pub checks : (slots : List Slot) (all : List (List VType)) → CheckAt opcode form slots all
  pub low : AllByRecursion (λ (number : ℕ). number < length form.takes) form.gives

-- ---- pop

pop_by_one : {slots : List Slot} {all : List (List VType)} → CheckAt POP (record { takes = one ∷ []; gives = [] }) slots all
pop_by_one (and_fit gone no_fits) = stays refl (λ cell others. refl) refl
pop_by_one (and_fit (narrow a ta) no_fits) = moves POP refl (λ cell others. refl) (λ below. rw (a, ta) refl)

pop_forms : AllByRecursion (IsChecked POP) (forms_of POP)
pop_forms = (record { checks = λ slots all fit. pop_by_one fit; low = tt }, tt)

-- ---- pop2

pop2_by_one_one : {slots : List Slot} {all : List (List VType)} → CheckAt POP2 (record { takes = one ∷ one ∷ []; gives = [] }) slots all
pop2_by_one_one (and_fit gone (and_fit gone no_fits)) = stays refl (λ cell others. refl) refl
pop2_by_one_one (and_fit gone (and_fit (narrow b tb) no_fits)) = moves POP refl (λ cell others. refl) (λ below. rw (b, tb) refl)
pop2_by_one_one (and_fit (narrow a ta) (and_fit gone no_fits)) = moves POP refl (λ cell others. refl) (λ below. rw (a, ta) refl)
pop2_by_one_one (and_fit (narrow a ta) (and_fit (narrow b tb) no_fits)) = moves POP2 refl (λ cell others. refl) (λ below. rw (a, ta, b, tb) refl)

pop2_by_two : {slots : List Slot} {all : List (List VType)} → CheckAt POP2 (record { takes = two ∷ []; gives = [] }) slots all
pop2_by_two (and_fit (wide a) no_fits) = moves POP2 refl (λ cell others. refl) (λ below. rw (a) refl)

pop2_forms : AllByRecursion (IsChecked POP2) (forms_of POP2)
pop2_forms = (record { checks = λ slots all fit. pop2_by_one_one fit; low = tt }, (record { checks = λ slots all fit. pop2_by_two fit; low = tt }, tt))

-- ---- dup

dup_by_one : {slots : List Slot} {all : List (List VType)} → CheckAt DUP (record { takes = one ∷ []; gives = 0 ∷ 0 ∷ [] }) slots all
dup_by_one (and_fit gone no_fits) = stays refl (λ cell others. refl) refl
dup_by_one (and_fit (narrow a ta) no_fits) = moves DUP refl (λ cell others. refl) (λ below. rw (a, ta) refl)

dup_forms : AllByRecursion (IsChecked DUP) (forms_of DUP)
dup_forms = (record { checks = λ slots all fit. dup_by_one fit; low = (omega arith, (omega arith, tt)) }, tt)

-- ---- dup_x1

dup_x1_by_one_one : {slots : List Slot} {all : List (List VType)} → CheckAt DUP_X1 (record { takes = one ∷ one ∷ []; gives = 1 ∷ 0 ∷ 1 ∷ [] }) slots all
dup_x1_by_one_one (and_fit gone (and_fit gone no_fits)) = stays refl (λ cell others. refl) refl
dup_x1_by_one_one (and_fit gone (and_fit (narrow b tb) no_fits)) = moves DUP refl (λ cell others. refl) (λ below. rw (b, tb) refl)
dup_x1_by_one_one (and_fit (narrow a ta) (and_fit gone no_fits)) = stays refl (λ cell others. refl) refl
dup_x1_by_one_one (and_fit (narrow a ta) (and_fit (narrow b tb) no_fits)) = moves DUP_X1 refl (λ cell others. refl) (λ below. rw (a, ta, b, tb) refl)

dup_x1_forms : AllByRecursion (IsChecked DUP_X1) (forms_of DUP_X1)
dup_x1_forms = (record { checks = λ slots all fit. dup_x1_by_one_one fit; low = (omega arith, (omega arith, (omega arith, tt))) }, tt)

-- ---- dup_x2

dup_x2_by_one_one_one : {slots : List Slot} {all : List (List VType)}
    → CheckAt DUP_X2 (record { takes = one ∷ one ∷ one ∷ []; gives = 2 ∷ 0 ∷ 1 ∷ 2 ∷ [] }) slots all
dup_x2_by_one_one_one (and_fit gone (and_fit gone (and_fit gone no_fits))) = stays refl (λ cell others. refl) refl
dup_x2_by_one_one_one (and_fit gone (and_fit gone (and_fit (narrow c tc) no_fits))) = moves DUP refl (λ cell others. refl) (λ below. rw (c, tc) refl)
dup_x2_by_one_one_one (and_fit gone (and_fit (narrow b tb) (and_fit gone no_fits))) = stays refl (λ cell others. refl) refl
dup_x2_by_one_one_one (and_fit gone (and_fit (narrow b tb) (and_fit (narrow c tc) no_fits))) = moves DUP_X1 refl (λ cell others. refl) (λ below. rw (b, tb, c, tc) refl)
dup_x2_by_one_one_one (and_fit (narrow a ta) (and_fit gone (and_fit gone no_fits))) = stays refl (λ cell others. refl) refl
dup_x2_by_one_one_one (and_fit (narrow a ta) (and_fit gone (and_fit (narrow c tc) no_fits))) = moves DUP_X1 refl (λ cell others. refl) (λ below. rw (a, ta, c, tc) refl)
dup_x2_by_one_one_one (and_fit (narrow a ta) (and_fit (narrow b tb) (and_fit gone no_fits))) = stays refl (λ cell others. refl) refl
dup_x2_by_one_one_one (and_fit (narrow a ta) (and_fit (narrow b tb) (and_fit (narrow c tc) no_fits))) = moves DUP_X2 refl (λ cell others. refl) (λ below. rw (a, ta, b, tb, c, tc) refl)

dup_x2_by_two_one : {slots : List Slot} {all : List (List VType)} → CheckAt DUP_X2 (record { takes = two ∷ one ∷ []; gives = 1 ∷ 0 ∷ 1 ∷ [] }) slots all
dup_x2_by_two_one (and_fit (wide a) (and_fit gone no_fits)) = stays refl (λ cell others. refl) refl
dup_x2_by_two_one (and_fit (wide a) (and_fit (narrow b tb) no_fits)) = moves DUP_X2 refl (λ cell others. refl) (λ below. rw (a, b, tb) refl)

dup_x2_forms : AllByRecursion (IsChecked DUP_X2) (forms_of DUP_X2)
dup_x2_forms = (
  record { checks = λ slots all fit. dup_x2_by_one_one_one fit; low = (omega arith, (omega arith, (omega arith, (omega arith, tt)))) },
  (record { checks = λ slots all fit. dup_x2_by_two_one fit; low = (omega arith, (omega arith, (omega arith, tt))) }, tt),
)

-- ---- dup2

dup2_by_one_one : {slots : List Slot} {all : List (List VType)} → CheckAt DUP2 (record { takes = one ∷ one ∷ []; gives = 0 ∷ 1 ∷ 0 ∷ 1 ∷ [] }) slots all
dup2_by_one_one (and_fit gone (and_fit gone no_fits)) = stays refl (λ cell others. refl) refl
dup2_by_one_one (and_fit gone (and_fit (narrow b tb) no_fits)) = moves DUP refl (λ cell others. refl) (λ below. rw (b, tb) refl)
dup2_by_one_one (and_fit (narrow a ta) (and_fit gone no_fits)) = moves DUP refl (λ cell others. refl) (λ below. rw (a, ta) refl)
dup2_by_one_one (and_fit (narrow a ta) (and_fit (narrow b tb) no_fits)) = moves DUP2 refl (λ cell others. refl) (λ below. rw (a, ta, b, tb) refl)

dup2_by_two : {slots : List Slot} {all : List (List VType)} → CheckAt DUP2 (record { takes = two ∷ []; gives = 0 ∷ 0 ∷ [] }) slots all
dup2_by_two (and_fit (wide a) no_fits) = moves DUP2 refl (λ cell others. refl) (λ below. rw (a) refl)

dup2_forms : AllByRecursion (IsChecked DUP2) (forms_of DUP2)
dup2_forms = (
  record { checks = λ slots all fit. dup2_by_one_one fit; low = (omega arith, (omega arith, (omega arith, (omega arith, tt)))) },
  (record { checks = λ slots all fit. dup2_by_two fit; low = (omega arith, (omega arith, tt)) }, tt),
)

-- ---- dup2_x1

dup2_x1_by_one_one_one : {slots : List Slot} {all : List (List VType)}
    → CheckAt DUP2_X1 (record { takes = one ∷ one ∷ one ∷ []; gives = 1 ∷ 2 ∷ 0 ∷ 1 ∷ 2 ∷ [] }) slots all
dup2_x1_by_one_one_one (and_fit gone (and_fit gone (and_fit gone no_fits))) = stays refl (λ cell others. refl) refl
dup2_x1_by_one_one_one (and_fit gone (and_fit gone (and_fit (narrow c tc) no_fits))) = moves DUP refl (λ cell others. refl) (λ below. rw (c, tc) refl)
dup2_x1_by_one_one_one (and_fit gone (and_fit (narrow b tb) (and_fit gone no_fits))) = moves DUP refl (λ cell others. refl) (λ below. rw (b, tb) refl)
dup2_x1_by_one_one_one (and_fit gone (and_fit (narrow b tb) (and_fit (narrow c tc) no_fits))) = moves DUP2 refl (λ cell others. refl) (λ below. rw (b, tb, c, tc) refl)
dup2_x1_by_one_one_one (and_fit (narrow a ta) (and_fit gone (and_fit gone no_fits))) = stays refl (λ cell others. refl) refl
dup2_x1_by_one_one_one (and_fit (narrow a ta) (and_fit gone (and_fit (narrow c tc) no_fits))) = moves DUP_X1 refl (λ cell others. refl) (λ below. rw (a, ta, c, tc) refl)
dup2_x1_by_one_one_one (and_fit (narrow a ta) (and_fit (narrow b tb) (and_fit gone no_fits))) = moves DUP_X1 refl (λ cell others. refl) (λ below. rw (a, ta, b, tb) refl)
dup2_x1_by_one_one_one (and_fit (narrow a ta) (and_fit (narrow b tb) (and_fit (narrow c tc) no_fits))) = moves DUP2_X1 refl (λ cell others. refl) (λ below. rw (a, ta, b, tb, c, tc) refl)

dup2_x1_by_one_two : {slots : List Slot} {all : List (List VType)} → CheckAt DUP2_X1 (record { takes = one ∷ two ∷ []; gives = 1 ∷ 0 ∷ 1 ∷ [] }) slots all
dup2_x1_by_one_two (and_fit gone (and_fit (wide b) no_fits)) = moves DUP2 refl (λ cell others. refl) (λ below. rw (b) refl)
dup2_x1_by_one_two (and_fit (narrow a ta) (and_fit (wide b) no_fits)) = moves DUP2_X1 refl (λ cell others. refl) (λ below. rw (a, ta, b) refl)

dup2_x1_forms : AllByRecursion (IsChecked DUP2_X1) (forms_of DUP2_X1)
dup2_x1_forms = (
  record { checks = λ slots all fit. dup2_x1_by_one_one_one fit; low = (omega arith, (omega arith, (omega arith, (omega arith, (omega arith, tt))))) },
  (record { checks = λ slots all fit. dup2_x1_by_one_two fit; low = (omega arith, (omega arith, (omega arith, tt))) }, tt),
)

-- ---- dup2_x2

dup2_x2_by_one_one_one_one : {slots : List Slot} {all : List (List VType)}
    → CheckAt DUP2_X2 (record { takes = one ∷ one ∷ one ∷ one ∷ []; gives = 2 ∷ 3 ∷ 0 ∷ 1 ∷ 2 ∷ 3 ∷ [] }) slots all
dup2_x2_by_one_one_one_one (and_fit gone (and_fit gone (and_fit gone (and_fit gone no_fits)))) = stays refl (λ cell others. refl) refl
dup2_x2_by_one_one_one_one (and_fit gone (and_fit gone (and_fit gone (and_fit (narrow d td) no_fits)))) = moves DUP refl (λ cell others. refl) (λ below. rw (d, td) refl)
dup2_x2_by_one_one_one_one (and_fit gone (and_fit gone (and_fit (narrow c tc) (and_fit gone no_fits)))) = moves DUP refl (λ cell others. refl) (λ below. rw (c, tc) refl)
dup2_x2_by_one_one_one_one (and_fit gone (and_fit gone (and_fit (narrow c tc) (and_fit (narrow d td) no_fits)))) =
    moves DUP2 refl (λ cell others. refl) (λ below. rw (c, tc, d, td) refl)
dup2_x2_by_one_one_one_one (and_fit gone (and_fit (narrow b tb) (and_fit gone (and_fit gone no_fits)))) = stays refl (λ cell others. refl) refl
dup2_x2_by_one_one_one_one (and_fit gone (and_fit (narrow b tb) (and_fit gone (and_fit (narrow d td) no_fits)))) =
    moves DUP_X1 refl (λ cell others. refl) (λ below. rw (b, tb, d, td) refl)
dup2_x2_by_one_one_one_one (and_fit gone (and_fit (narrow b tb) (and_fit (narrow c tc) (and_fit gone no_fits)))) =
    moves DUP_X1 refl (λ cell others. refl) (λ below. rw (b, tb, c, tc) refl)
dup2_x2_by_one_one_one_one (and_fit gone (and_fit (narrow b tb) (and_fit (narrow c tc) (and_fit (narrow d td) no_fits)))) =
    moves DUP2_X1 refl (λ cell others. refl) (λ below. rw (b, tb, c, tc, d, td) refl)
dup2_x2_by_one_one_one_one (and_fit (narrow a ta) (and_fit gone (and_fit gone (and_fit gone no_fits)))) = stays refl (λ cell others. refl) refl
dup2_x2_by_one_one_one_one (and_fit (narrow a ta) (and_fit gone (and_fit gone (and_fit (narrow d td) no_fits)))) =
    moves DUP_X1 refl (λ cell others. refl) (λ below. rw (a, ta, d, td) refl)
dup2_x2_by_one_one_one_one (and_fit (narrow a ta) (and_fit gone (and_fit (narrow c tc) (and_fit gone no_fits)))) =
    moves DUP_X1 refl (λ cell others. refl) (λ below. rw (a, ta, c, tc) refl)
dup2_x2_by_one_one_one_one (and_fit (narrow a ta) (and_fit gone (and_fit (narrow c tc) (and_fit (narrow d td) no_fits)))) =
    moves DUP2_X1 refl (λ cell others. refl) (λ below. rw (a, ta, c, tc, d, td) refl)
dup2_x2_by_one_one_one_one (and_fit (narrow a ta) (and_fit (narrow b tb) (and_fit gone (and_fit gone no_fits)))) = stays refl (λ cell others. refl) refl
dup2_x2_by_one_one_one_one (and_fit (narrow a ta) (and_fit (narrow b tb) (and_fit gone (and_fit (narrow d td) no_fits)))) =
    moves DUP_X2 refl (λ cell others. refl) (λ below. rw (a, ta, b, tb, d, td) refl)
dup2_x2_by_one_one_one_one (and_fit (narrow a ta) (and_fit (narrow b tb) (and_fit (narrow c tc) (and_fit gone no_fits)))) =
    moves DUP_X2 refl (λ cell others. refl) (λ below. rw (a, ta, b, tb, c, tc) refl)
dup2_x2_by_one_one_one_one (and_fit (narrow a ta) (and_fit (narrow b tb) (and_fit (narrow c tc) (and_fit (narrow d td) no_fits)))) =
    moves DUP2_X2 refl (λ cell others. refl) (λ below. rw (a, ta, b, tb, c, tc, d, td) refl)

dup2_x2_by_one_one_two : {slots : List Slot} {all : List (List VType)}
    → CheckAt DUP2_X2 (record { takes = one ∷ one ∷ two ∷ []; gives = 2 ∷ 0 ∷ 1 ∷ 2 ∷ [] }) slots all
dup2_x2_by_one_one_two (and_fit gone (and_fit gone (and_fit (wide c) no_fits))) = moves DUP2 refl (λ cell others. refl) (λ below. rw (c) refl)
dup2_x2_by_one_one_two (and_fit gone (and_fit (narrow b tb) (and_fit (wide c) no_fits))) = moves DUP2_X1 refl (λ cell others. refl) (λ below. rw (b, tb, c) refl)
dup2_x2_by_one_one_two (and_fit (narrow a ta) (and_fit gone (and_fit (wide c) no_fits))) = moves DUP2_X1 refl (λ cell others. refl) (λ below. rw (a, ta, c) refl)
dup2_x2_by_one_one_two (and_fit (narrow a ta) (and_fit (narrow b tb) (and_fit (wide c) no_fits))) = moves DUP2_X2 refl (λ cell others. refl) (λ below. rw (a, ta, b, tb, c) refl)

dup2_x2_by_two_one_one : {slots : List Slot} {all : List (List VType)}
    → CheckAt DUP2_X2 (record { takes = two ∷ one ∷ one ∷ []; gives = 1 ∷ 2 ∷ 0 ∷ 1 ∷ 2 ∷ [] }) slots all
dup2_x2_by_two_one_one (and_fit (wide a) (and_fit gone (and_fit gone no_fits))) = stays refl (λ cell others. refl) refl
dup2_x2_by_two_one_one (and_fit (wide a) (and_fit gone (and_fit (narrow c tc) no_fits))) = moves DUP_X2 refl (λ cell others. refl) (λ below. rw (a, c, tc) refl)
dup2_x2_by_two_one_one (and_fit (wide a) (and_fit (narrow b tb) (and_fit gone no_fits))) = moves DUP_X2 refl (λ cell others. refl) (λ below. rw (a, b, tb) refl)
dup2_x2_by_two_one_one (and_fit (wide a) (and_fit (narrow b tb) (and_fit (narrow c tc) no_fits))) = moves DUP2_X2 refl (λ cell others. refl) (λ below. rw (a, b, tb, c, tc) refl)

dup2_x2_by_two_two : {slots : List Slot} {all : List (List VType)} → CheckAt DUP2_X2 (record { takes = two ∷ two ∷ []; gives = 1 ∷ 0 ∷ 1 ∷ [] }) slots all
dup2_x2_by_two_two (and_fit (wide a) (and_fit (wide b) no_fits)) = moves DUP2_X2 refl (λ cell others. refl) (λ below. rw (a, b) refl)

dup2_x2_forms : AllByRecursion (IsChecked DUP2_X2) (forms_of DUP2_X2)
dup2_x2_forms = (
  record {
    checks = λ slots all fit. dup2_x2_by_one_one_one_one fit;
    low = (omega arith, (omega arith, (omega arith, (omega arith, (omega arith, (omega arith, tt))))));
  },
  (
    record { checks = λ slots all fit. dup2_x2_by_one_one_two fit; low = (omega arith, (omega arith, (omega arith, (omega arith, tt)))) },
    (
      record { checks = λ slots all fit. dup2_x2_by_two_one_one fit; low = (omega arith, (omega arith, (omega arith, (omega arith, (omega arith, tt))))) },
      (record { checks = λ slots all fit. dup2_x2_by_two_two fit; low = (omega arith, (omega arith, (omega arith, tt))) }, tt),
    ),
  ),
)

-- ---- swap

swap_by_one_one : {slots : List Slot} {all : List (List VType)} → CheckAt SWAP (record { takes = one ∷ one ∷ []; gives = 1 ∷ 0 ∷ [] }) slots all
swap_by_one_one (and_fit gone (and_fit gone no_fits)) = stays refl (λ cell others. refl) refl
swap_by_one_one (and_fit gone (and_fit (narrow b tb) no_fits)) = stays refl (λ cell others. refl) refl
swap_by_one_one (and_fit (narrow a ta) (and_fit gone no_fits)) = stays refl (λ cell others. refl) refl
swap_by_one_one (and_fit (narrow a ta) (and_fit (narrow b tb) no_fits)) = moves SWAP refl (λ cell others. refl) (λ below. rw (a, ta, b, tb) refl)

swap_forms : AllByRecursion (IsChecked SWAP) (forms_of SWAP)
swap_forms = (record { checks = λ slots all fit. swap_by_one_one fit; low = (omega arith, (omega arith, tt)) }, tt)

-- ---- each

-- the forms of one opcode, or those of others
or_others : (opcode known : ℕ) (others : List Form) → AllByRecursion (IsChecked known) (forms_of known) → AllByRecursion (IsChecked opcode) others
    → AllByRecursion (IsChecked opcode) (if opcode == known then forms_of known else others)
or_others opcode known others here rest = by (opcode == known) refl where
  by : (same : Bool) → (opcode == known) ≡ same → AllByRecursion (IsChecked opcode) (if same then forms_of known else others)
  by true told = subst (λ (n : ℕ). AllByRecursion (IsChecked n) (forms_of known)) (sym (eqb-true opcode known told)) here
  by false told = rest

pub all_checked : (opcode : ℕ) → AllByRecursion (IsChecked opcode) (forms_of opcode)
all_checked opcode =
    or_others opcode POP _ pop_forms
    (or_others opcode POP2 _ pop2_forms
    (or_others opcode DUP _ dup_forms
    (or_others opcode DUP_X1 _ dup_x1_forms
    (or_others opcode DUP_X2 _ dup_x2_forms
    (or_others opcode DUP2 _ dup2_forms
    (or_others opcode DUP2_X1 _ dup2_x1_forms
    (or_others opcode DUP2_X2 _ dup2_x2_forms
    (or_others opcode SWAP _ swap_forms tt))))))))
