-- The form of pop, dup, swap and the like that a stack has, by its topmost entries, the topmost first.
use Rattle.std.proofs.Common.{◌≡◌, ◌+◌, ◌-◌, ◌≤◌, ◌<◌, ◌⊎◌, inl, inr, ◌++◌, ℕ, zero, suc, Bool, true, false, List, [], ◌∷◌, drop, length, reverse, take, Some, None, Option, option_map, refl, sym, ap, subst, ◌∙◌, arith}
use Rattle.std.specs.Prelude.{◌&&◌, if◌then◌else◌}
use Rattle.std.proofs.lemmas.Bool.{and_parts}
use Rattle.std.proofs.lemmas.List.{length-reverse, reverse-append, reverse-reverse, take-append-drop}
use Rattle.std.proofs.lemmas.Option.{none-some, same_Some}
use Rattle.class_model.specs.declared.frame.VType.{VType}
use Rattle.member_link.specs.Rows.Operands.{topmost}
use Rattle.member_link.specs.Rows.ShuffleRows.{Form, Width, form_in, forms_of, has_width, have_widths, picked}
use Rattle.written_types.proofs.SlotFrames.{take_front, topmost_is}

-- the topmost entries have these widths
abbrev pub tops_fit : List Width → List VType → Bool
tops_fit [] tops = true
tops_fit (width ∷ widths) [] = false
tops_fit (width ∷ widths) (type ∷ tops) = has_width width type && tops_fit widths tops

abbrev pub form_of_tops : List Form → List VType → Option Form
form_of_tops [] tops = None
form_of_tops (first ∷ others) tops = if tops_fit (reverse first.takes) tops then Some first else form_of_tops others tops

-- how many entries the form takes, and what it gives
abbrev pub result_of_tops : List VType → Form → (ℕ × List VType)
result_of_tops tops form = (length form.takes, picked (reverse (take (length form.takes) tops)) form.gives)

abbrev pub moved : ℕ → List VType → Option (ℕ × List VType)
moved opcode tops = option_map (result_of_tops tops) (form_of_tops (forms_of opcode) tops)

-- ---- lists read from their ends

and_assoc : (a b c : Bool) → ((a && b) && c) ≡ (a && (b && c))
and_assoc true b c = refl
and_assoc false b c = refl

and_comm : (a b : Bool) → (a && b) ≡ (b && a)
and_comm true true = refl
and_comm true false = refl
and_comm false true = refl
and_comm false false = refl

one_more : (widths : List Width) (all : List VType) (width : Width) (type : VType) → length widths ≡ length all
    → have_widths (widths ++ width ∷ []) (all ++ type ∷ []) ≡ (has_width width type && have_widths widths all)
one_more [] [] width type long = refl
one_more [] (first ∷ all) width type long = absurd cc
one_more (wide ∷ widths) [] width type long = absurd cc
one_more (wide ∷ widths) (first ∷ all) width type long =
    ap (λ (b : Bool). has_width wide first && b) (one_more widths all width type (let e : length widths ≡ length all = cc in e))
    ∙ sym (and_assoc (has_width wide first) (has_width width type) (have_widths widths all))
    ∙ ap (λ (b : Bool). b && have_widths widths all) (and_comm (has_width wide first) (has_width width type))
    ∙ and_assoc (has_width width type) (has_width wide first) (have_widths widths all)

-- of as many entries
turned : (widths : List Width) (all : List VType) → length widths ≡ length all → have_widths widths all ≡ tops_fit (reverse widths) (reverse all)
turned widths all long =
    ap (λ (xs : List Width). have_widths xs all) (sym (reverse-reverse widths))
    ∙ ap (λ (xs : List VType). have_widths (reverse (reverse widths)) xs) (sym (reverse-reverse all))
    ∙ by (reverse widths) (reverse all) (length-reverse widths ∙ long ∙ sym (length-reverse all)) where
      reverse_one : {A : Type 0} (one : A) (rest : List A) → reverse (one ∷ rest) ≡ reverse rest ++ one ∷ []
      reverse_one one rest = reverse-append (one ∷ []) rest

      by : (ones : List Width) (tops : List VType) → length ones ≡ length tops → have_widths (reverse ones) (reverse tops) ≡ tops_fit ones tops
      by [] [] long = refl
      by [] (type ∷ tops) long = absurd cc
      by (width ∷ ones) [] long = absurd cc
      by (width ∷ ones) (type ∷ tops) long =
          let less : length ones ≡ length tops = cc in
          (λ i. have_widths (reverse_one width ones i) (reverse_one type tops i))
          ∙ one_more (reverse ones) (reverse tops) width type (length-reverse ones ∙ less ∙ sym (length-reverse tops))
          ∙ ap (λ (b : Bool). has_width width type && b) (by ones tops less)

-- what fits is as long, and more entries do not matter
pub long_widths : (widths : List Width) (all : List VType) → have_widths widths all ≡ true → length widths ≡ length all
long_widths [] [] fits = refl
long_widths [] (type ∷ all) fits = absurd cc
long_widths (width ∷ widths) [] fits = absurd cc
long_widths (width ∷ widths) (type ∷ all) fits =
    ap suc (long_widths widths all (and_parts (has_width width type) (have_widths widths all) fits).1)

short_of : (widths : List Width) (tops : List VType) → tops_fit widths tops ≡ true → length widths ≤ length tops
short_of [] tops fits = omega arith
short_of (width ∷ widths) [] fits = absurd cc
short_of (width ∷ widths) (type ∷ tops) fits =
    let rest = short_of widths tops (and_parts (has_width width type) (tops_fit widths tops) fits).1 in omega (arith, rest)

taken_fit : (widths : List Width) (tops : List VType) → tops_fit widths tops ≡ tops_fit widths (take (length widths) tops)
taken_fit [] tops = refl
taken_fit (width ∷ widths) [] = refl
taken_fit (width ∷ widths) (type ∷ tops) = ap (λ (b : Bool). has_width width type && b) (taken_fit widths tops)

-- ---- the form of a stack

split_by : (a b : ℕ) → (a ≤ b) ⊎ (b < a)
split_by zero b = inl (omega arith)
split_by (suc a) zero = inr (omega arith)
split_by (suc a) (suc b) = by (split_by a b) where
  by : (a ≤ b) ⊎ (b < a) → (suc a ≤ suc b) ⊎ (suc b < suc a)
  by (inl less) = inl (omega (arith, less))
  by (inr more) = inr (omega (arith, more))

both_false : (a b : Bool) → (a ≡ true → ⊥) → (b ≡ true → ⊥) → a ≡ b
both_false true b one other = absurd (one refl)
both_false false true one other = absurd (other refl)
both_false false false one other = refl

dropped_long : (count : ℕ) (all : List VType) → count ≤ length all → length (drop count all) + count ≡ length all
dropped_long zero all few = omega arith
dropped_long (suc count) [] few = absurd (omega (arith, few))
dropped_long (suc count) (type ∷ all) few = let rest = dropped_long count all (omega (arith, few)) in omega (arith, rest)

by_tops : (widths : List Width) (stack : List VType) → have_widths widths (topmost (length widths) stack) ≡ tops_fit (reverse widths) (reverse stack)
by_tops widths stack = by (split_by (length widths) (length stack)) where
  by : (length widths ≤ length stack) ⊎ (length stack < length widths)
      → have_widths widths (topmost (length widths) stack) ≡ tops_fit (reverse widths) (reverse stack)
  by (inl few) =
      let top = topmost (length widths) stack in
      let low = take (length stack - length widths) stack in
      let left = dropped_long (length stack - length widths) stack (omega (arith, few)) in
      let long : length widths ≡ length top = omega (arith, few, left) in
      let parts : reverse stack ≡ reverse top ++ reverse low =
      ap reverse (sym (take-append-drop (length stack - length widths) stack)) ∙ reverse-append low top in
      let tops_long : length (reverse widths) ≡ length (reverse top) = length-reverse widths ∙ long ∙ sym (length-reverse top) in
      turned widths top long
      ∙ ap (tops_fit (reverse widths)) (sym (ap (λ (n : ℕ). take n (reverse top ++ reverse low)) tops_long ∙ take_front (reverse top) (reverse low)))
      ∙ sym (taken_fit (reverse widths) (reverse top ++ reverse low))
      ∙ ap (tops_fit (reverse widths)) (sym parts)
  by (inr many) =
      let none : length stack - length widths ≡ 0 = omega (arith, many) in
      both_false (have_widths widths (topmost (length widths) stack)) (tops_fit (reverse widths) (reverse stack))
      (λ fits. let long = long_widths widths stack (sym (ap (λ (n : ℕ). have_widths widths (drop n stack)) none) ∙ fits) in
      absurd (omega (arith, many, long)))
      (λ fits. let short = short_of (reverse widths) (reverse stack) fits in
      let one = length-reverse widths in
      let other = length-reverse stack in
      absurd (omega (arith, many, short, one, other)))

form_by_tops : (forms : List Form) (stack : List VType) → form_in forms stack ≡ form_of_tops forms (reverse stack)
form_by_tops [] stack = refl
form_by_tops (first ∷ others) stack = λ i. if by_tops first.takes stack i then Some first else form_by_tops others stack i

pub form_fits : (forms : List Form) (stack : List VType) (form : Form) → form_in forms stack ≡ Some form
    → have_widths form.takes (topmost (length form.takes) stack) ≡ true
form_fits [] stack form is = absurd (none-some form is)
form_fits (first ∷ others) stack form is =
    by (have_widths first.takes (topmost (length first.takes) stack)) refl is (form_fits others stack form) where
      by : (fits : Bool) → have_widths first.takes (topmost (length first.takes) stack) ≡ fits
          → (if fits then Some first else form_in others stack) ≡ Some form
          → (form_in others stack ≡ Some form → have_widths form.takes (topmost (length form.takes) stack) ≡ true)
          → have_widths form.takes (topmost (length form.takes) stack) ≡ true
      by true fits same behind =
          subst (λ (f : Form). have_widths f.takes (topmost (length f.takes) stack) ≡ true) (same_Some first form same) fits
      by false fits same behind = behind same

-- the form by which an instruction moves these topmost types
pub record FormMoves (opcode : ℕ) (low top after : List VType) : Type 0 where
  pub form : Form
  pub found : form_in (forms_of opcode) (low ++ top) ≡ Some form
  pub fits : have_widths form.takes top ≡ true
  pub gives : picked top form.gives ≡ after

pub form_moves : (opcode : ℕ) (low top after : List VType)
    → moved opcode (reverse top ++ reverse low) ≡ Some (length top, after)
    → FormMoves opcode low top after
form_moves opcode low top after is = by (form_of_tops (forms_of opcode) (reverse top ++ reverse low)) refl is where
  turned_stack : reverse (low ++ top) ≡ reverse top ++ reverse low
  turned_stack = reverse-append low top

  by : (found : Option Form) → form_of_tops (forms_of opcode) (reverse top ++ reverse low) ≡ found
      → option_map (result_of_tops (reverse top ++ reverse low)) found ≡ Some (length top, after)
      → FormMoves opcode low top after
  by None none is = absurd (none-some (length top, after) is)
  by (Some form) some is =
      let same = same_Some (result_of_tops (reverse top ++ reverse low) form) (length top, after) is in
      let many : length form.takes ≡ length top = ap (λ (p : ℕ × List VType). p.0) same in
      let found : form_in (forms_of opcode) (low ++ top) ≡ Some form =
      form_by_tops (forms_of opcode) (low ++ top) ∙ ap (form_of_tops (forms_of opcode)) turned_stack ∙ some in
      let operands : reverse (take (length form.takes) (reverse top ++ reverse low)) ≡ top =
      ap (λ (n : ℕ). reverse (take n (reverse top ++ reverse low))) (many ∙ sym (length-reverse top))
      ∙ ap reverse (take_front (reverse top) (reverse low)) ∙ reverse-reverse top in
      record {
        form = form;
        found = found;
        fits = ap (have_widths form.takes) (sym (topmost_is low top (length form.takes) (sym many))) ∙ form_fits (forms_of opcode) (low ++ top) form found;
        gives = ap (λ (xs : List VType). picked xs form.gives) (sym operands) ∙ ap (λ (p : ℕ × List VType). p.1) same;
      }
