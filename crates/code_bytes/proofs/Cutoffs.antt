-- Numbers cut off the front of bytes.
use Rattle.std.proofs.Common.{◌≡◌, ℕ, ◌≤◌, List, [], ◌∷◌, ◌++◌, length, drop, refl, sym, ap, arith}
use Rattle.std.proofs.lemmas.Nat.{be_bytes_2, be_bytes_4}
use Rattle.class_model.specs.Cutting.{IsBytes}
use Rattle.class_model.specs.Laws.Cuts.{below_byte}
use Rattle.class_model.specs.Spelling.{u2, u4}
use Rattle.class_model.specs.Instructions.{u1_in, u2_in, u4_in}
use Rattle.code_bytes.specs.Numbers.{IsU1, IsU2}
use Rattle.code_bytes.specs.Spellings.{IsU4, u1}

-- the number that bytes begin with, and the bytes behind it
pub record Cuts (Fits : ℕ → Type 0) (spelling : ℕ → List ℕ) (number : ℕ) (bytes others : List ℕ) : Type 0 where
  pub fits : Fits number
  pub is : bytes ≡ spelling number ++ others
  pub are_bytes : IsBytes others

pub cut_u1 : (bytes : List ℕ) → 1 ≤ length bytes → IsBytes bytes → Cuts IsU1 u1 (u1_in bytes 0) bytes (drop 1 bytes)
cut_u1 [] long small = absurd (omega arith)
cut_u1 (a ∷ bytes) long small =
    let number : u1_in (a ∷ bytes) 0 ≡ a = omega arith in
    record { fits = omega (arith, small.0, number); is = ap (λ n. n ∷ bytes) (sym number); are_bytes = small.1 }

pub cut_u2 : (bytes : List ℕ) → 2 ≤ length bytes → IsBytes bytes → Cuts IsU2 u2 (u2_in bytes 0) bytes (drop 2 bytes)
cut_u2 [] long small = absurd (omega arith)
cut_u2 (a ∷ []) long small = absurd (omega arith)
cut_u2 (a ∷ b ∷ bytes) long small =
    let front = be_bytes_2 (a ∷ b ∷ []) _ refl (below_byte (a ∷ b ∷ []) (small.0, (small.1.0, tt))) refl in
    record { fits = omega (arith, small.0, small.1.0); is = ap (λ f. f ++ bytes) (sym front); are_bytes = small.1.1 }

pub cut_u4 : (bytes : List ℕ) → 4 ≤ length bytes → IsBytes bytes → Cuts IsU4 u4 (u4_in bytes 0) bytes (drop 4 bytes)
cut_u4 [] long small = absurd (omega arith)
cut_u4 (a ∷ []) long small = absurd (omega arith)
cut_u4 (a ∷ b ∷ []) long small = absurd (omega arith)
cut_u4 (a ∷ b ∷ c ∷ []) long small = absurd (omega arith)
cut_u4 (a ∷ b ∷ c ∷ d ∷ bytes) long small =
    let front = be_bytes_4 (a ∷ b ∷ c ∷ d ∷ []) _ refl (below_byte (a ∷ b ∷ c ∷ d ∷ []) (small.0, (small.1.0, (small.1.1.0, (small.1.1.1.0, tt))))) refl in
    record { fits = omega (arith, small.0, small.1.0, small.1.1.0, small.1.1.1.0); is = ap (λ f. f ++ bytes) (sym front); are_bytes = small.1.1.1.1 }

pub no_more : (bytes : List ℕ) → length bytes ≡ 0 → bytes ≡ []
no_more [] e = refl
no_more (b ∷ bytes) e = absurd (omega arith)
