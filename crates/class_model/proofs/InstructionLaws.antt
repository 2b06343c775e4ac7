-- Bytes that spell an instruction, whatever follows them, spell one only.
use Rattle.std.proofs.Common.{◌≡◌, ℕ, List, ◌++◌, length, take, Ok, refl, sym, ap, ◌∙◌}
use Rattle.std.proofs.lemmas.List.{take_at}
use Rattle.class_model.specs.Instructions.{Read, instr_at, IsSpelling}
use Rattle.class_model.specs.declared.instr.Instr.{Instr}

-- what is read once is one
one_read : (r : Read) (a b : Instr × ℕ) → r ≡ Ok a → r ≡ Ok b → a ≡ b
one_read r a b e d = cc

pub one_instruction : (at : ℕ) (one other : Instr) (a b x y : List ℕ) → IsSpelling at one a → IsSpelling at other b → a ++ x ≡ b ++ y → (one ≡ other) × (a ≡ b)
one_instruction at one other a b x y f g e =
    let same = one_read (instr_at at (a ++ x)) (one, length a) (other, length b) (f x) (ap (instr_at at) e ∙ g y) in
    let len : length b ≡ length a = sym (ap (λ (r : Instr × ℕ). r.1) same) in
    (ap (λ (r : Instr × ℕ). r.0) same, sym (take_at a x (length a) refl) ∙ ap (take (length a)) e ∙ take_at b y (length a) len)
