-- Operands that are as few as an array has dimensions at most.
use Rattle.std.specs.Prelude.{◌≤◌, ℕ}
use Rattle.member_link.specs.Machine.Bounds.{MOST_DIMENSIONS}
use Rattle.member_link.specs.declared.run_op.RunOp.{RunOp}
use Rattle.member_link.specs.declared.run_op.RunOp.TheVariants as run

-- so many operands are few enough for an operation: of a multianewarray they are the counts of its dimensions
abbrev pub HasFewOperands : RunOp → ℕ → Type 0
HasFewOperands (run.NewArrays desc dimensions) count = count ≤ MOST_DIMENSIONS
HasFewOperands op count = Unit {0}
