use Rattle.std.proofs.Common.{◌≡◌, ℕ, arith}
use Rattle.member_link.specs.Machine.Bounds.{HasFewDimensions}
use Rattle.member_link.specs.Machine.Work.{arity}
use Rattle.machine_step.specs.FewOperands.{HasFewOperands}
use Rattle.member_link.specs.RunOps.{op_of}
use Rattle.member_link.specs.declared.run_op.RunOp.{RunOp}
use Rattle.machine_run.proofs.laws.an_operation_has_few_dimensions.Goals as goal

-- an operation that takes few operands has few dimensions
few_dimensions : (op : RunOp) (count : ℕ) → HasFewOperands op count → count ≡ arity (op_of op) → HasFewDimensions (op_of op)
few_dimensions op count few many = grind arith

pub returns : goal.returns
returns c = λ P resolved. few_dimensions c.args.op.now c.arity.result c.arity.ensures.few (c.arity.ensures.operands P resolved)
