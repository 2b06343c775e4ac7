use Rattle.std.proofs.Common.{arith}
use Rattle.class_model.specs.Checks.{fault}
use Rattle.class_bytes.proofs.CodeFaults.{code_fault_below, code_fault_placed, code_holds}
use Rattle.class_bytes.proofs.code.decode_at.Goals as goal

pub overflow_add-result : goal.overflow_add-result
overflow_add-result c =
    let below = code_fault_below c.args.code.now (fault c.in-Err-Malformed.at c.in-Err-Malformed.rule) c.requires.some c.requires.few (rw c.in-Err-Malformed.field-0-is at c.in-Err-Malformed.ensures.told) in
    omega (arith, below)

pub returns-in-Err-Malformed : goal.returns-in-Err-Malformed
returns-in-Err-Malformed c =
    code_fault_placed c.args.start c.args.code.now (fault c.in-Err-Malformed.at c.in-Err-Malformed.rule) c.requires.some c.requires.few (rw c.in-Err-Malformed.field-0-is at c.in-Err-Malformed.ensures.told)

pub returns-in-Ok : goal.returns-in-Ok
returns-in-Ok c = (code_holds c.args.start c.args.code.now c.in-Ok.ensures.told.0, c.in-Ok.ensures.told.1)
