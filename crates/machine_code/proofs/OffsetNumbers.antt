-- The number of the first instruction at an offset.
use Rattle.std.proofs.Common.{◌≡◌, ◌<◌, ◌^◌, ℕ, suc, Bool, true, false, List, [], ◌∷◌, length, Option, Some, None, option_map, refl, sym, ◌∙◌, arith}
use Rattle.std.specs.Prelude.{◌==◌, if◌then◌else◌}
use Rattle.std.proofs.lemmas.List.{length-map}
use Rattle.class_model.specs.OffsetIndexes.{first_at, number_in}
use Rattle.class_model.specs.declared.instr.Placed.{Placed}
use Rattle.machine_code.specs.Inner.Translating.{AreNumbers, offsets_of}

-- it is one of the numbers
inside_more : (here : Bool) (others : Option ℕ) (count number : ℕ) → ((n : ℕ) → others ≡ Some n → n < count) → (if here then Some 0 else option_map suc others) ≡ Some number → number < suc count
inside_more true others count number inside is = let zero_is : 0 ≡ number = cc in omega (arith, zero_is)
inside_more false None count number inside is = absurd cc
inside_more false (Some n) count number inside is =
    let below = inside n refl in
    let next : suc n ≡ number = cc in
    omega (arith, below, next)

pub first_inside : (offsets : List ℕ) (at number : ℕ) → first_at offsets at ≡ Some number → number < length offsets
first_inside [] at number is = absurd cc
first_inside (offset ∷ offsets) at number is = inside_more (offset == at) (first_at offsets at) (length offsets) number (first_inside offsets at) is

module _ (instrs : List Placed) (numbers : List ℕ) (are : AreNumbers instrs numbers) (at : ℕ) where
  pub number_fits : (number : ℕ) → Some number ≡ number_in numbers at → number < 2 ^ 32
  number_fits number is =
      let below = first_inside (offsets_of instrs) at number (sym (are.index at) ∙ sym is) in
      omega (arith, below, length-map instrs (λ (placed : Placed). placed.at), are.few)
