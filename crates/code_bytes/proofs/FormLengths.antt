-- How many bytes the forms of the switches are.
use Rattle.std.proofs.Common.{◌≡◌, ℕ, ℤ, ◌+◌, ◌*◌, List, [], ◌∷◌, length, replicate, refl, arith, length-append}
use Rattle.std.proofs.lemmas.List.{length-replicate}
use Rattle.std.specs.List.{flat_map}
use Rattle.class_model.specs.Instructions.{pad_of}
use Rattle.class_model.specs.declared.instr.Pair.{Pair}
use Rattle.code_bytes.specs.Forms.{target_bytes, pair_bytes, switch_bytes, table_bytes, lookup_bytes}

pub targets_length : (at : ℕ) (to : List ℕ) → length (flat_map (target_bytes at) to) ≡ 4 * length to
targets_length at [] = refl
targets_length at (t ∷ to) = let rest = targets_length at to in omega arith

pub pairs_length : (at : ℕ) (pairs : List Pair) → length (flat_map (pair_bytes at) pairs) ≡ 8 * length pairs
pairs_length at [] = refl
pairs_length at (p ∷ pairs) = let rest = pairs_length at pairs in omega arith

pub switch_length : (opcode at : ℕ) (operands : List ℕ) → length (switch_bytes opcode at operands) ≡ 1 + pad_of at + length operands
switch_length opcode at operands = omega (arith, length-append (replicate (pad_of at) 0) operands, length-replicate {A = ℕ} (pad_of at) 0)

pub table_length : (at : ℕ) (low : ℤ) (other : ℕ) (to : List ℕ) → length (table_bytes at low other to) ≡ 13 + pad_of at + 4 * length to
table_length at low other to = let count = targets_length at to in simp switch_length (omega arith)

pub lookup_length : (at other : ℕ) (pairs : List Pair) → length (lookup_bytes at other pairs) ≡ 9 + pad_of at + 8 * length pairs
lookup_length at other pairs = let count = pairs_length at pairs in simp switch_length (omega arith)
