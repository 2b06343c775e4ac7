use Rattle.std.proofs.lemmas.Result.{err_from_is_err_and}
use Rattle.member_link.proofs.EachUse.{one_asked, one_refused}
use Rattle.member_link.proofs.frames.check_frames.Goals as goal

pub returns-in_err-check_frame : goal.returns-in_err-check_frame
returns-in_err-check_frame c =
    let p = err_from_is_err_and c.from_residual.result c.from_residual.ensures.1 in
    rw (p.1, p.2) (one_refused _ _ c.loop-placed.placed-index c.placed-item.result _ c.loop-placed-test.true c.placed-item.is c.loop-placed.invariant c.in_err-check_frame.ensures)

pub loop-placed-preserved : goal.loop-placed-preserved
loop-placed-preserved c = one_asked _ _ c.loop-placed.placed-index c.placed-item.result c.loop-placed-test.true c.placed-item.is c.loop-placed.invariant c.in_ok-check_frame.ensures
