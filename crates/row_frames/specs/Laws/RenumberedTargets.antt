-- An instruction with other targets: it goes to these, and else where it went.
use Rattle.std.proofs.Common.{◌≡◌, ℕ, List, [], ◌∷◌, map, refl, ap}
use Rattle.class_model.specs.Instructions.{targets}
use Rattle.class_model.specs.declared.instr.Instr.{Instr}
use Rattle.class_model.specs.declared.instr.Instr.TheVariants.{If, If2, IfSame, IfNull, Goto, Table, Lookup}
use Rattle.class_model.specs.declared.instr.Pair.{Pair}
use Rattle.member_link.specs.Bodies.{falls_through}
use Rattle.member_link.specs.Targets.{pair_to, with_targets}

module _ (number : ℕ → ℕ) where
  pairs_numbered : (pairs : List Pair) → map (λ (p : Pair). p.to) (map (pair_to number) pairs) ≡ map number (map (λ (p : Pair). p.to) pairs)
  pairs_numbered [] = refl
  pairs_numbered (pair ∷ pairs) = ap (λ (numbers : List ℕ). number pair.to ∷ numbers) (pairs_numbered pairs)

  pub targets_numbered : (instr : Instr) → targets (with_targets number instr) ≡ map number (targets instr)
  targets_numbered (If opcode to) = refl
  targets_numbered (If2 opcode to) = refl
  targets_numbered (IfSame opcode to) = refl
  targets_numbered (IfNull opcode to) = refl
  targets_numbered (Goto to) = refl
  targets_numbered (Table low other to) = refl
  targets_numbered (Lookup other pairs) = ap (λ (numbers : List ℕ). number other ∷ numbers) (pairs_numbered pairs)
  targets_numbered instr = refl

  pub falls_same : (instr : Instr) → falls_through (with_targets number instr) ≡ falls_through instr
  falls_same (If opcode to) = refl
  falls_same (If2 opcode to) = refl
  falls_same (IfSame opcode to) = refl
  falls_same (IfNull opcode to) = refl
  falls_same (Goto to) = refl
  falls_same (Table low other to) = refl
  falls_same (Lookup other pairs) = refl
  falls_same instr = refl
