-- What a store pops and writes.
use Rattle.std.proofs.Common.{◌≡◌, ◌-◌, ℕ, zero, suc, List, [], ◌∷◌, length, drop, slice_get, Some, refl, ap, sym, subst, ◌∙◌}
use Rattle.class_model.specs.declared.frame.VType.{VType}
use Rattle.member_link.specs.Rows.LocalRows.{stored}
use Rattle.member_link.specs.Rows.Operands.{lowest_of}

from_there : (stack : List VType) (at : ℕ) (value : VType) → slice_get stack at ≡ Some value → drop at stack ≡ value ∷ drop (suc at) stack
from_there [] at value there = absurd (cc there)
from_there (first ∷ stack) zero value there =
    let same : first ≡ value = cc there in
    ap (λ (type : VType). type ∷ stack) same
from_there (first ∷ stack) (suc at) value there = from_there stack at value there

-- the last entry is what a store pops
pub lowest_of_one : (stack : List VType) (value : VType) → slice_get stack (length stack - 1) ≡ Some value → lowest_of 1 stack ≡ value
lowest_of_one stack value there = rw (from_there stack (length stack - 1) value there) refl

pub popped_stored : (locals stack entries : List VType) (at place : ℕ) (value : VType) → entries ≡ stack → Some value ≡ slice_get entries (length entries - 1) → place ≡ at → stored place value locals ≡ stored at (lowest_of 1 stack) locals
popped_stored locals stack entries at place value same last here =
    ap (λ (n : ℕ). stored n value locals) here
    ∙ ap (λ (type : VType). stored at type locals) (sym (lowest_of_one stack value there))
  where
    there : slice_get stack (length stack - 1) ≡ Some value
    there = subst (λ (list : List VType). slice_get list (length list - 1) ≡ Some value) same (sym last)
