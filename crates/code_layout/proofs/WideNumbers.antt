-- The numbers of items in the wide form.
use Rattle.std.proofs.Common.{◌≡◌, ◌⊎◌, ℕ, zero, suc, ◌+◌, ◌-◌, ◌≤◌, ◌<◌, List, [], ◌∷◌, ◌++◌, length, slice_get, Option, Some, None, inl, inr, refl, sym, ap, ◌∙◌, arith, length-append}
use Rattle.std.proofs.lemmas.Option.{none-some, same_Some}
use Rattle.class_model.specs.declared.instr.Instr.{Instr}
use Rattle.code_layout.specs.Layout.{start_in}
use Rattle.code_layout.specs.WideForm.{closing, jump_over, nop_behind, nop_item, numbers_from, wide_from, wide_item, wide_numbers, widened, width}
use Rattle.code_layout.specs.declared.emitted.EmitItem.{EmitItem}

-- ---- where numbers end

abbrev pub numbers_end : ℕ → List EmitItem → ℕ
numbers_end number [] = number
numbers_end number (item ∷ items) = numbers_end (number + width (jump_over item)) items

pub width-least : (jump : Option Instr) → 1 ≤ width jump
width-least None = omega arith
width-least (Some instr) = omega arith

pub end-grows : (number : ℕ) (items : List EmitItem) → number + length items ≤ numbers_end number items
end-grows number [] = omega arith
end-grows number (item ∷ items) =
    let low = width-least (jump_over item) in let rest = end-grows (number + width (jump_over item)) items in omega arith

-- each number is below the end
pub number-below : (number : ℕ) (items : List EmitItem) (k : ℕ) → k < length items → start_in (numbers_from number items) k < numbers_end number items
number-below number [] k within = absurd (omega arith)
number-below number (item ∷ items) zero within =
    let low = width-least (jump_over item) in let rest = end-grows (number + width (jump_over item)) items in omega arith
number-below number (item ∷ items) (suc k) within = number-below (number + width (jump_over item)) items k (omega arith)

-- behind other items numbers go on where theirs end
pub numbers-behind : (number : ℕ) (done rest : List EmitItem) (k : ℕ)
    → start_in (numbers_from number (done ++ rest)) (length done + k) ≡ start_in (numbers_from (numbers_end number done) rest) k
numbers-behind number [] rest k = let plus : 0 + k ≡ k = omega arith in ap (start_in (numbers_from number rest)) plus
numbers-behind number (item ∷ done) rest k =
    let plus : length (item ∷ done) + k ≡ suc (length done + k) = omega arith in
    ap (start_in (numbers_from number (item ∷ done ++ rest))) plus ∙ numbers-behind (number + width (jump_over item)) done rest k

pub end-behind : (number : ℕ) (done rest : List EmitItem) → numbers_end number (done ++ rest) ≡ numbers_end (numbers_end number done) rest
end-behind number [] rest = refl
end-behind number (item ∷ done) rest = end-behind (number + width (jump_over item)) done rest

-- ---- how many items there are

wide-length : (renumber : ℕ → ℕ) (number : ℕ) (item : EmitItem) (jump : Option Instr) → length (wide_item renumber number item jump) ≡ width jump
wide-length renumber number item None = refl
wide-length renumber number item (Some instr) = refl

pub length-from : (renumber : ℕ → ℕ) (number : ℕ) (items : List EmitItem) → number + length (wide_from renumber number items) ≡ numbers_end number items
length-from renumber number [] = omega arith
length-from renumber number (item ∷ items) =
    let jump = jump_over item in
    let rest = length-from renumber (number + width jump) items in
    let here = wide-length renumber number item jump in
    omega (arith, rest, here, length-append (wide_item renumber number item jump) (wide_from renumber (number + width jump) items))

pub length-widened : (items : List EmitItem) → length (widened items) ≡ numbers_end 0 items + length (closing items)
length-widened items =
    let renumber = start_in (wide_numbers items) in
    let from = length-from renumber 0 items in
    omega (arith, from, length-append (wide_from renumber 0 items) (closing items))

-- ---- the end

pub closing-is : (items : List EmitItem) → (closing items ≡ []) ⊎ (closing items ≡ nop_item ∷ [])
closing-is [] = inl refl
closing-is (item ∷ []) = by (jump_over item) where
  by : (jump : Option Instr) → (nop_behind jump ≡ []) ⊎ (nop_behind jump ≡ nop_item ∷ [])
  by None = inl refl
  by (Some instr) = inr refl
closing-is (item ∷ next ∷ items) = closing-is (next ∷ items)

-- a jump that is written over a goto leads to something
pub over-goes-on : (number : ℕ) (item : EmitItem) (items : List EmitItem) (instr : Instr) → jump_over item ≡ Some instr
    → number + 2 < numbers_end number (item ∷ items) + length (closing (item ∷ items))
over-goes-on number item [] instr is = rw is (omega arith)
over-goes-on number item (next ∷ items) instr is =
    rw is (let low = width-least (jump_over next) in let rest = end-grows (number + 2 + width (jump_over next)) items in omega arith)

-- so of the items behind others
pub closing-behind : (done : List EmitItem) (item : EmitItem) (items : List EmitItem) → closing (done ++ item ∷ items) ≡ closing (item ∷ items)
closing-behind [] item items = refl
closing-behind (first ∷ []) item items = refl
closing-behind (first ∷ second ∷ done) item items = closing-behind (second ∷ done) item items

-- the last item decides it
pub closing-last : (items : List EmitItem) (item : EmitItem) → slice_get items (length items - 1) ≡ Some item → closing items ≡ nop_behind (jump_over item)
closing-last [] item is = absurd (none-some item is)
closing-last (one ∷ []) item is = ap (λ (i : EmitItem). nop_behind (jump_over i)) (same_Some one item is)
closing-last (one ∷ next ∷ items) item is =
    let same : length (one ∷ next ∷ items) - 1 ≡ suc (length (next ∷ items) - 1) = omega arith in
    closing-last (next ∷ items) item (sym (ap (slice_get (one ∷ next ∷ items)) same) ∙ is)
