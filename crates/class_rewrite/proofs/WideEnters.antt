-- The wide form of emitted items enters as many monitors.
use Rattle.std.proofs.Common.{◌≡◌, ◌+◌, ◌++◌, ℕ, Bool, true, false, cond, List, [], ◌∷◌, count_by, Option, Some, None, if◌then◌else◌, refl, sym, ap, ◌∙◌, arith}
use Rattle.std.proofs.lemmas.List.Sums.{sum_by-append, sum_by-cons}
use Rattle.std.proofs.lemmas.Option.{none-some, same_Some}
use Rattle.class_model.specs.declared.instr.Instr.{Instr}
use Rattle.class_model.specs.declared.instr.Instr.TheVariants.{Goto, If, If2, IfNull, IfSame}
use Rattle.code_layout.specs.ChosenForm.{chosen_items, is_short}
use Rattle.code_layout.specs.Layout.{start_in}
use Rattle.code_layout.specs.WideForm.{closing, jump_over, nop_behind, wide_from, wide_item, wide_numbers, widened, width, goto_item, over_item, renumbered_item}
use Rattle.code_layout.specs.declared.emitted.EmitItem.{EmitItem}
use Rattle.making_code.specs.CountedItems.{is_enter}
use Rattle.making_code.specs.Opposites.{opposite_instr}
use Rattle.member_link.specs.Targets.{with_targets}

abbrev enters : EmitItem → Bool
enters item = is_enter item.instr

enter_stays : (place : ℕ → ℕ) (instr : Instr) → is_enter (with_targets place instr) ≡ is_enter instr
enter_stays place (Goto to) = refl
enter_stays place instr = refl

opposite_enters : (place also : ℕ → ℕ) (instr other : Instr) → opposite_instr instr ≡ Some other
    → (is_enter instr ≡ false) × (is_enter (with_targets place other) ≡ false)
opposite_enters place also (If opcode to) other is = (refl, ap (λ (i : Instr). is_enter (with_targets place i)) (sym (same_Some _ other is)))
opposite_enters place also (If2 opcode to) other is = (refl, ap (λ (i : Instr). is_enter (with_targets place i)) (sym (same_Some _ other is)))
opposite_enters place also (IfSame opcode to) other is = (refl, ap (λ (i : Instr). is_enter (with_targets place i)) (sym (same_Some _ other is)))
opposite_enters place also (IfNull opcode to) other is = (refl, ap (λ (i : Instr). is_enter (with_targets place i)) (sym (same_Some _ other is)))
opposite_enters place also instr other is = absurd (none-some other is)

counts : (item : EmitItem) (items : List EmitItem) → count_by enters (item ∷ items) ≡ cond (enters item) 1 0 + count_by enters items
counts item items = sum_by-cons (λ (x : EmitItem). cond (enters x) 1 0) item items

counts_both : (items others : List EmitItem) → count_by enters (items ++ others) ≡ count_by enters items + count_by enters others
counts_both items others = sum_by-append (λ (x : EmitItem). cond (enters x) 1 0) items others

item_enters : (renumber : ℕ → ℕ) (number : ℕ) (item : EmitItem)
    → count_by enters (wide_item renumber number item (jump_over item)) ≡ cond (enters item) 1 0
item_enters renumber number item = by_near item.near refl where
  alone : jump_over item ≡ None → count_by enters (wide_item renumber number item (jump_over item)) ≡ cond (enters item) 1 0
  alone none =
      ap (λ (o : Option Instr). count_by enters (wide_item renumber number item o)) none
      ∙ counts (renumbered_item renumber item) [] ∙ ap (λ (b : Bool). cond b 1 0 + 0) (enter_stays renumber item.instr) ∙ omega arith

  by_near : (near : Bool) → item.near ≡ near → count_by enters (wide_item renumber number item (jump_over item)) ≡ cond (enters item) 1 0
  by_near true is = alone (rw (is) refl)
  by_near false is = by (opposite_instr item.instr) refl where
    by : (found : Option Instr) → opposite_instr item.instr ≡ found → count_by enters (wide_item renumber number item (jump_over item)) ≡ cond (enters item) 1 0
    by None none = alone (rw (is, none) refl)
    by (Some other) some =
        let none = opposite_enters (λ _. number + 2) renumber item.instr other some in
        let jumps : jump_over item ≡ Some other = rw (is, some) refl in
        ap (λ (o : Option Instr). count_by enters (wide_item renumber number item o)) jumps
        ∙ counts (over_item renumber number item other) (goto_item renumber item ∷ [])
        ∙ ap (λ (b : Bool). cond b 1 0 + 0) none.1
        ∙ sym (ap (λ (b : Bool). cond b 1 0) none.0)

from_enters : (renumber : ℕ → ℕ) (number : ℕ) (items : List EmitItem) → count_by enters (wide_from renumber number items) ≡ count_by enters items
from_enters renumber number [] = refl
from_enters renumber number (item ∷ items) =
    let both = counts_both (wide_item renumber number item (jump_over item)) (wide_from renumber (number + width (jump_over item)) items) in
    let here = item_enters renumber number item in
    let rest = from_enters renumber (number + width (jump_over item)) items in
    let all = counts item items in omega (arith, both, here, rest, all)

closing_enters : (items : List EmitItem) → count_by enters (closing items) ≡ 0
closing_enters [] = refl
closing_enters (item ∷ []) = by (jump_over item) where
  by : (jump : Option Instr) → count_by enters (nop_behind jump) ≡ 0
  by None = refl
  by (Some instr) = refl
closing_enters (item ∷ next ∷ items) = closing_enters (next ∷ items)

-- in the form in which they are laid out items enter as many
pub chosen_enters : (items : List EmitItem) → count_by enters (chosen_items items) ≡ count_by enters items
chosen_enters items = by (is_short items) where
  by : (b : Bool) → count_by enters (if b then items else widened items) ≡ count_by enters items
  by true = refl
  by false =
      let both = counts_both (wide_from (start_in (wide_numbers items)) 0 items) (closing items) in
      let first = from_enters (start_in (wide_numbers items)) 0 items in
      let last = closing_enters items in omega (arith, both, first, last)
