-- A table of the first things at offsets, filled one offset after another.
use Rattle.std.proofs.Common.{◌≡◌, ◌≢◌, inl, inr, ℕ, zero, suc, ◌+◌, ◌<◌, Bool, true, false, List, [], ◌∷◌, length, map, get_or, set, take, Option, Some, None, option_map, refl, sym, ap, subst, ◌∙◌, arith}
use Rattle.std.specs.Prelude.{◌==◌, if◌then◌else◌}
use Rattle.std.specs.Option.{option_or}
use Rattle.std.proofs.lemmas.Bool.{cases_eq, eq-eqb, ne_eqb}
use Rattle.std.proofs.lemmas.List.{get_or-set_same, get_or-set_other, length-map}
use Rattle.class_model.specs.OffsetIndexes.{first_at, number_in, IsIndexOf}

-- ---- the first of these offsets and one more

-- what a thing adds: its number, if it stands there
abbrev added : Bool → ℕ → Option ℕ
added here number = if here then Some number else None

one_in_front : (front here : Bool) (number : ℕ) (before after : Option ℕ) → after ≡ option_or before (added here number)
    → (if front then Some 0 else option_map suc after) ≡ option_or (if front then Some 0 else option_map suc before) (added here (suc number))
one_in_front true here number before after is = refl
one_in_front false here number (Some n) after is = ap (option_map suc) is
one_in_front false true number None after is = ap (option_map suc) is
one_in_front false false number None after is = ap (option_map suc) is

one_more : (offsets : List ℕ) (number at : ℕ) → number < length offsets → first_at (take (suc number) offsets) at ≡ option_or (first_at (take number offsets) at) (added (get_or offsets number 0 == at) number)
one_more [] number at inside = absurd (omega (arith, inside))
one_more (offset ∷ offsets) zero at inside = refl
one_more (offset ∷ offsets) (suc number) at inside =
    one_in_front (offset == at) (get_or offsets number 0 == at) number (first_at (take number offsets) at) (first_at (take (suc number) offsets) at) (one_more offsets number at (omega (arith, inside)))

-- ---- the table

-- what an entry says
abbrev said : ℕ → Option ℕ
said entry = number_in (entry ∷ []) 0

same_entry : (entry number : ℕ) → said entry ≡ option_or (said entry) (added false number)
same_entry zero number = refl
same_entry (suc entry) number = refl

taken_entry : (entry number : ℕ) (here : Bool) → entry ≢ 0 → said entry ≡ option_or (said entry) (added here number)
taken_entry zero number here taken = absurd (taken refl)
taken_entry (suc entry) number here taken = refl

written_here : (numbers : List ℕ) (offset number : ℕ) → offset < length numbers → get_or numbers offset 0 ≡ 0
    → number_in (set numbers offset (suc number)) offset ≡ option_or (number_in numbers offset) (added (offset == offset) number)
written_here numbers offset number inside free =
    ap said (get_or-set_same numbers offset (suc number) 0 inside)
    ∙ ap (λ (here : Bool). option_or (said 0) (added here number)) (sym (eq-eqb offset offset refl))
    ∙ ap (λ entry. option_or (said entry) (added (offset == offset) number)) (sym free)

written_elsewhere : (numbers : List ℕ) (offset number at : ℕ) → at ≢ offset → number_in (set numbers offset (suc number)) at ≡ option_or (number_in numbers at) (added (offset == at) number)
written_elsewhere numbers offset number at other =
    ap said (get_or-set_other numbers offset at (suc number) 0 other)
    ∙ same_entry (get_or numbers at 0) number
    ∙ ap (λ (here : Bool). option_or (number_in numbers at) (added here number)) (sym (ne_eqb offset at (λ e. other (sym e))))

-- an entry of 0 is written
written : (numbers : List ℕ) (offset number at : ℕ) → offset < length numbers → get_or numbers offset 0 ≡ 0 → number_in (set numbers offset (suc number)) at ≡ option_or (number_in numbers at) (added (offset == at) number)
written numbers offset number at inside free = elim (cases_eq at offset) [
  | inl here ↦ subst (λ place. number_in (set numbers offset (suc number)) place ≡ option_or (number_in numbers place) (added (offset == place) number)) (sym here) (written_here numbers offset number inside free)
  | inr other ↦ written_elsewhere numbers offset number at other
]

-- another stays
stays : (numbers : List ℕ) (offset number at : ℕ) → get_or numbers offset 0 ≢ 0 → number_in numbers at ≡ option_or (number_in numbers at) (added (offset == at) number)
stays numbers offset number at taken = elim (cases_eq at offset) [
  | inl here ↦ taken_entry (get_or numbers at 0) number (offset == at) (λ e. taken (ap (λ place. get_or numbers place 0) (sym here) ∙ e))
  | inr other ↦ same_entry (get_or numbers at 0) number ∙ ap (λ (here : Bool). option_or (number_in numbers at) (added here number)) (sym (ne_eqb offset at (λ e. other (sym e))))
]

-- ---- the loop

module _ (offsets numbers : List ℕ) (number : ℕ) (inside : number < length offsets) (indexed : IsIndexOf (take number offsets) numbers) where
  by_one_more : (at : ℕ) → option_or (number_in numbers at) (added (get_or offsets number 0 == at) number) ≡ first_at (take (suc number) offsets) at
  by_one_more at = ap (λ (found : Option ℕ). option_or found (added (get_or offsets number 0 == at) number)) (indexed at) ∙ sym (one_more offsets number at inside)

  -- of one offset more, the first of its kind
  one_written : get_or offsets number 0 < length numbers → get_or numbers (get_or offsets number 0) 0 ≡ 0 → IsIndexOf (take (number + 1) offsets) (set numbers (get_or offsets number 0) (number + 1))
  one_written fits free =
      let next_is : suc number ≡ number + 1 = omega arith in
      subst (λ next. IsIndexOf (take next offsets) (set numbers (get_or offsets number 0) next)) next_is
      (λ at. written numbers (get_or offsets number 0) number at fits free ∙ by_one_more at)

  -- of one that was there before
  one_known : get_or numbers (get_or offsets number 0) 0 ≢ 0 → IsIndexOf (take (number + 1) offsets) numbers
  one_known taken =
      let next_is : suc number ≡ number + 1 = omega arith in
      subst (λ next. IsIndexOf (take next offsets) numbers) next_is
      (λ at. stays numbers (get_or offsets number 0) number at taken ∙ by_one_more at)

-- ---- of things that stand at offsets

mapped_at : {X : Type 0} (at : X → ℕ) (things : List X) (number : ℕ) (thing : X) → number < length things → thing ≡ get_or things number thing → get_or (map at things) number 0 ≡ at thing
mapped_at at [] number thing inside is = absurd (omega (arith, inside))
mapped_at at (first ∷ things) zero thing inside is = ap at (sym is)
mapped_at at (first ∷ things) (suc number) thing inside is = mapped_at at things number thing (omega (arith, inside)) is

module _ {X : Type 0} (at : X → ℕ) (things : List X) (numbers : List ℕ) (number : ℕ) (thing : X) (inside : number < length things) (is : thing ≡ get_or things number thing) (indexed : IsIndexOf (take number (map at things)) numbers) where
  counted : number < length (map at things)
  counted = subst (λ (count : ℕ). number < count) (sym (length-map things at)) inside

  pub thing_written : (offset value : ℕ) → offset ≡ at thing → value ≡ number + 1 → offset < length numbers → get_or numbers offset 0 ≡ 0 → IsIndexOf (take (number + 1) (map at things)) (set numbers offset value)
  thing_written offset value offset_is value_is fits free =
      let there : get_or (map at things) number 0 ≡ offset = mapped_at at things number thing inside is ∙ sym offset_is in
      subst (λ (v : ℕ). IsIndexOf (take (number + 1) (map at things)) (set numbers offset v)) (sym value_is)
      (subst (λ (o : ℕ). IsIndexOf (take (number + 1) (map at things)) (set numbers o (number + 1))) there
      (one_written (map at things) numbers number counted indexed (subst (λ (o : ℕ). o < length numbers) (sym there) fits) (ap (λ (o : ℕ). get_or numbers o 0) there ∙ free)))

  pub thing_known : (offset : ℕ) → offset ≡ at thing → get_or numbers offset 0 ≢ 0 → IsIndexOf (take (number + 1) (map at things)) numbers
  thing_known offset offset_is taken =
      let there : get_or (map at things) number 0 ≡ offset = mapped_at at things number thing inside is ∙ sym offset_is in
      one_known (map at things) numbers number counted indexed (λ e. taken (ap (λ (o : ℕ). get_or numbers o 0) (sym there) ∙ e))
