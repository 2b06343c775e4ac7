use Rattle.std.proofs.Common.{◌<◌, length, arith}
use Rattle.std.proofs.lemmas.Bool.Decides.{nat_tests}
use Rattle.code_bytes.proofs.Targets.{code_of}
use Rattle.code_bytes.proofs.decoding.decode.Goals as goal

pub returns-clause-code : goal.returns-clause-code
returns-clause-code c =
    let some : 0 < length c.args.code.now = grind (arith, nat_tests) in
    code_of c.args.code.now c.in_ok-instrs.instrs some (omega arith) c.in_ok-instrs.ensures c.in_ok-check_jumps.ensures.0
