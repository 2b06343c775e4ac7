use Rattle.std.proofs.lemmas.Result.{err_from_is_err_and}
use Rattle.member_link.proofs.EachUse.{one_used, one_use_refused}
use Rattle.member_link.proofs.code_uses.check_instrs.Goals as goal

pub returns-in_err-check_instr-clause-told : goal.returns-in_err-check_instr-clause-told
returns-in_err-check_instr-clause-told c =
    let p = err_from_is_err_and c.from_residual.result c.from_residual.ensures.1 in
    rw (p.1, p.2) (one_use_refused _ _ _ _ c.loop-placed.placed-index c.placed-item.result _ c.loop-placed-test.true c.placed-item.is c.loop-placed.invariant c.in_err-check_instr.ensures.told)

pub loop-placed-preserved : goal.loop-placed-preserved
loop-placed-preserved c = one_used _ _ _ _ _ c.loop-placed.placed-index c.placed-item.result c.loop-placed-test.true c.placed-item.is c.loop-placed.invariant c.in_ok-check_instr.ensures.same c.in_ok-check_instr.ensures.told
