use Rattle.std.proofs.lemmas.Result.{err_from_is_err_and}
use Rattle.member_link.proofs.EachUse.{one_asked, one_refused}
use Rattle.member_link.proofs.frames.check_types.Goals as goal

pub returns-in_err-check_type : goal.returns-in_err-check_type
returns-in_err-check_type c =
    let p = err_from_is_err_and c.from_residual.result c.from_residual.ensures.1 in
    rw (p.1, p.2) (one_refused _ _ c.loop-one.one-index c.one-item.result _ c.loop-one-test.true c.one-item.is c.loop-one.invariant c.in_err-check_type.ensures)

pub loop-one-preserved : goal.loop-one-preserved
loop-one-preserved c = one_asked _ _ c.loop-one.one-index c.one-item.result c.loop-one-test.true c.one-item.is c.loop-one.invariant c.in_ok-check_type.ensures
