use Rattle.std.proofs.Common.{ltb, length, Err, subst, arith}
use Rattle.std.proofs.lemmas.Bool.{and_parts, ltb-true}
use Rattle.class_model.specs.Answers.{Gives}
use Rattle.class_model.specs.Checks.{AllHold, asked_of}
use Rattle.class_model.specs.Code.{jump_checks}
use Rattle.class_model.specs.Instructions.{decoded}
use Rattle.code_bytes.proofs.code.instructions_of.Goals as goal

pub instrs_of-requires : goal.instrs_of-requires
instrs_of-requires c =
    let len = length c.args.code.now in
    let below = ltb-true len 65536 (and_parts (ltb 0 len) (ltb len 65536) c.requires.0).1 in
    omega (arith, below)

pub unreachable-requires : goal.unreachable-requires
unreachable-requires c =
    let is = subst (λ fault. Gives (decoded c.args.code.now) (Err fault)) c.in-Err-Malformed.field-0-is c.in-Err-Malformed.ensures in
    (subst (λ read. AllHold (asked_of read (λ instrs. jump_checks 0 instrs instrs))) is c.requires.1).0
