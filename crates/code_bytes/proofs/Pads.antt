-- The pad bytes of a switch.
use Rattle.std.proofs.Common.{◌≡◌, ℕ, zero, suc, ◌≤◌, [], ◌∷◌, take, replicate, refl, arith}
use Rattle.class_model.specs.Instructions.{pad_of}

three_zeros : (n : ℕ) → n ≤ 3 → take {A = ℕ} n (0 ∷ 0 ∷ 0 ∷ []) ≡ replicate n 0
three_zeros zero h = refl
three_zeros (suc zero) h = refl
three_zeros (suc (suc zero)) h = refl
three_zeros (suc (suc (suc zero))) h = refl
three_zeros (suc (suc (suc (suc n)))) h = absurd (omega arith)

pub taken_pad : (n at : ℕ) → n ≡ pad_of at → take {A = ℕ} n (0 ∷ 0 ∷ 0 ∷ []) ≡ replicate (pad_of at) 0
taken_pad n at e = rw e (three_zeros (pad_of at) (omega arith))
