-- An instruction that goes elsewhere is the same operation, where the numbers of the points to which it goes are the same.
use Rattle.std.proofs.Common.{◌≡◌, ℕ, List, [], ◌∷◌, map, Option, refl}
use Rattle.std.specs.List.{AllByRecursion}
use Rattle.class_model.specs.Instructions.{targets}
use Rattle.class_model.specs.declared.instr.Instr.{Instr}
use Rattle.class_model.specs.declared.instr.Instr.TheVariants.{If, If2, IfSame, IfNull, Goto, Table, Lookup}
use Rattle.class_model.specs.declared.instr.Pair.{Pair}
use Rattle.class_tree.specs.Headers.{Name}
use Rattle.member_link.specs.Machine.Codes.{instr_op}
use Rattle.member_link.specs.Machine.Programs.{Links}
use Rattle.member_link.specs.RowScope.{RowScope}
use Rattle.member_link.specs.Targets.{pair_to, with_targets}

abbrev numbered : (ℕ → ℕ) → Pair → Pair
numbered number pair = record { key = pair.key; to = number pair.to }

module _ (links : Links) (from to place : ℕ → ℕ) where
  -- a target is the same point, by its place and by the target that takes its place
  abbrev pub IsSamePoint : ℕ → Type 0
  IsSamePoint target = from (place target) ≡ to target

  targets_same : (numbers : List ℕ) → AllByRecursion IsSamePoint numbers → map from (map place numbers) ≡ map to numbers
  targets_same [] same = refl
  targets_same (t ∷ numbers) same = rw (same.0, targets_same numbers same.1) refl

  pairs_same : (pairs : List Pair) → AllByRecursion IsSamePoint (map (λ (p : Pair). p.to) pairs) → map (numbered from) (map (pair_to place) pairs) ≡ map (numbered to) pairs
  pairs_same [] same = refl
  pairs_same (p ∷ pairs) same = rw (same.0, pairs_same pairs same.1) refl

  -- an operation does not read where a new stands
  pub op_renumbered : (s : RowScope) (news : ℕ → Option Name) (instr : Instr) → AllByRecursion IsSamePoint (targets instr)
      → instr_op links from s (with_targets place instr) ≡ instr_op links to (record s { new_class = news }) instr
  op_renumbered s news (If opcode t) same = rw (same.0) refl
  op_renumbered s news (If2 opcode t) same = rw (same.0) refl
  op_renumbered s news (IfSame opcode t) same = rw (same.0) refl
  op_renumbered s news (IfNull opcode t) same = rw (same.0) refl
  op_renumbered s news (Goto t) same = rw (same.0) refl
  op_renumbered s news (Table low other ts) same = rw (same.0, targets_same ts same.1) refl
  op_renumbered s news (Lookup other pairs) same = rw (same.0, pairs_same pairs same.1) refl
  op_renumbered s news instr same = refl
