-- An instruction that makes an array of arrays names one dimension at least.
use Rattle.std.proofs.Common.{◌≡◌, ◌≤◌, ℕ, true, List, arith}
use Rattle.class_model.specs.Instructions.{has_dimensions, instrs_at}
use Rattle.class_model.specs.declared.instr.Instr.{Instr}
use Rattle.machine_laws.specs.Laws.DimensionsRead.{DimensionsIn, ListHas, instrs_has}

abbrev pub IsSome : ℕ → Type 0
IsSome dimensions = 1 ≤ dimensions

abbrev pub SomeIn : Instr → Type 0
SomeIn = DimensionsIn IsSome

some_dimensions : (n : ℕ) → has_dimensions n ≡ true → 1 ≤ n
some_dimensions n is = search arith

pub instrs_some : (left at : ℕ) (bytes : List ℕ) → ListHas IsSome (instrs_at left at bytes)
instrs_some left at bytes =
    instrs_has IsSome (λ bytes. Unit {0}) (λ n bytes any. tt) (λ bytes any is. some_dimensions _ is) left at bytes tt
