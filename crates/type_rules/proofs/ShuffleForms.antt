-- The form of an instruction that moves stack entries: the entries fit it, and it is a row.
use Rattle.std.proofs.Common.{◌≡◌, ◌<◌, ◌+◌, true, List, [], ◌∷◌, ◌++◌, ℕ, length, map, take, slice_get, get_or, Option, Some, None, Result, IsTrue, refl, sym, ap, subst, ◌∙◌, inl, inr}
use Rattle.std.proofs.lemmas.Bool.{false≢true, and_parts, cases_Bool}
use Rattle.std.proofs.lemmas.Grind.{flat_map-append}
use Rattle.std.proofs.lemmas.List.{length-map, take_more, append-nil}
use Rattle.class_model.specs.declared.frame.Frame.{Frame}
use Rattle.class_model.specs.declared.frame.VType.{VType}
use Rattle.member_link.specs.RowScope.{RowScope}
use Rattle.member_link.specs.Rows.Operands.{AllFit, topmost, under}
use Rattle.member_link.specs.Rows.Row.{stack_behind}
use Rattle.member_link.specs.Rows.ShuffleRows.{Width, one, two, Form, need_of, has_width, have_widths, form_in, picked, form_row}
use Rattle.type_rules.proofs.RowSteps.{ends_row, same_further}
use Rattle.type_rules.specs.Rule.{RowRules, ruled}
use Rattle.type_rules.specs.Inner.Steps.{Concludes}
use Rattle.type_rules.specs.declared.fault.RuleFault.{RuleFault}
use Rattle.type_rules.specs.declared.ruled.Ruled.{Ruled}

-- the topmost entries have the widths of the form that is found
form_fits : (forms : List Form) (stack : List VType) (found : Form) → form_in forms stack ≡ Some found → have_widths found.takes (topmost (length found.takes) stack) ≡ true
form_fits [] stack found is = absurd cc
form_fits (first ∷ others) stack found is =
    elim (cases_Bool (have_widths first.takes (topmost (length first.takes) stack))) [
      | inl fits ↦
          let some : Some first ≡ Some found = rw fits at is in
          let same : first ≡ found = cc in
          subst (λ (form : Form). have_widths form.takes (topmost (length form.takes) stack) ≡ true) same fits
      | inr other ↦ form_fits others stack found (rw other at is)
    ]

widths_fit : (s : RowScope) (widths : List Width) (operands : List VType) → have_widths widths operands ≡ true → AllFit s (map need_of widths) operands
widths_fit s [] [] have = tt
widths_fit s [] (operand ∷ operands) have = absurd (false≢true have)
widths_fit s (one ∷ widths) [] have = absurd (false≢true have)
widths_fit s (two ∷ widths) [] have = absurd (false≢true have)
widths_fit s (one ∷ widths) (operand ∷ operands) have =
    let parts = and_parts (has_width one operand) (have_widths widths operands) have in
    (parts.0, widths_fit s widths operands parts.1)
widths_fit s (two ∷ widths) (operand ∷ operands) have =
    let parts = and_parts (has_width two operand) (have_widths widths operands) have in
    (parts.0, widths_fit s widths operands parts.1)

-- the rule of a form
shuffled : (s : RowScope) (f : Frame) (form : Form) (result : Result Ruled RuleFault) (count : ℕ) (stack locals : List VType)
    → have_widths form.takes (topmost (length form.takes) f.stack) ≡ true
    → count ≡ length form.takes
    → stack ≡ under count f.stack ++ picked (topmost count f.stack) form.gives
    → locals ≡ f.locals
    → Concludes s f stack locals (IsTrue true) (IsTrue true) result
    → RowRules s f (form_row f (Some form)) result
shuffled s f form result count stack locals have count_is stack_is locals_are concludes =
    let row = form_row f (Some form) in
    let counted : count ≡ length row.takes = count_is ∙ sym (length-map form.takes need_of) in
    let behind : stack ≡ stack_behind f row =
    stack_is ∙ ap (λ (n : ℕ). under n f.stack ++ picked (topmost n f.stack) form.gives) count_is
    ∙ ap (λ (n : ℕ). under n f.stack ++ picked (topmost (length form.takes) f.stack) form.gives) (sym (length-map form.takes need_of)) in
    let fits : AllFit s row.takes (topmost (length row.takes) f.stack) =
    subst (λ (n : ℕ). AllFit s row.takes (topmost n f.stack)) (sym (length-map form.takes need_of)) (widths_fit s form.takes _ have) in
    let ends : Concludes s f (stack_behind f row) f.locals (IsTrue true) (IsTrue true) result =
    subst (λ (l : List VType). Concludes s f (stack_behind f row) l (IsTrue true) (IsTrue true) result) locals_are
    (subst (λ (l : List VType). Concludes s f l locals (IsTrue true) (IsTrue true) result) behind concludes) in
    ends_row s f row result fits tt (same_further s (stack_behind f row) (IsTrue true × IsTrue true) (Unit {0} × Unit {0}) (ruled f row) result (λ _. (tt, tt)) (λ _. (refl, refl)) ends)

-- what the code's search for a form found
pub row_of_form : (s : RowScope) (f : Frame) (forms : List Form) (result : Result Ruled RuleFault) (form : Form) (count : ℕ) (stack locals : List VType)
    → form_in forms f.stack ≡ Some form
    → count ≡ length form.takes
    → stack ≡ under count f.stack ++ picked (topmost count f.stack) form.gives
    → locals ≡ f.locals
    → Concludes s f stack locals (IsTrue true) (IsTrue true) result
    → RowRules s f (form_row f (form_in forms f.stack)) result
row_of_form s f forms result form count stack locals found count_is stack_is locals_are concludes =
    subst (λ (o : Option Form). RowRules s f (form_row f o) result) (sym found)
    (shuffled s f form result count stack locals (form_fits forms f.stack form found) count_is stack_is locals_are concludes)

-- ---- what is picked

picked-append : (operands : List VType) (numbers more : List ℕ) → picked operands (numbers ++ more) ≡ picked operands numbers ++ picked operands more
picked-append operands numbers more = flat_map-append _ numbers more

-- one number more, at which an operand is or none
pub picked_some : (operands : List VType) (numbers : List ℕ) (i : ℕ) (type : VType) → i < length numbers → slice_get operands (get_or numbers i 0) ≡ Some type → picked operands (take (i + 1) numbers) ≡ picked operands (take i numbers) ++ type ∷ []
picked_some operands numbers i type within is =
    rw (take_more numbers i 0 within) (picked-append operands (take i numbers) (get_or numbers i 0 ∷ []) ∙ rw is refl)

pub picked_none : (operands : List VType) (numbers : List ℕ) (i : ℕ) → i < length numbers → slice_get operands (get_or numbers i 0) ≡ None → picked operands (take (i + 1) numbers) ≡ picked operands (take i numbers)
picked_none operands numbers i within is =
    rw (take_more numbers i 0 within) (picked-append operands (take i numbers) (get_or numbers i 0 ∷ []) ∙ rw is (append-nil _))
