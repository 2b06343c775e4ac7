use Rattle.std.proofs.Common.{◌+◌, ◌-◌, arith}
use Rattle.std.proofs.lemmas.Result.{err_from_is_err_and}
use Rattle.class_bytes.specs.Inner.Bootstraps.{bootstrap_of}
use Rattle.class_bytes.proofs.Many.{goes_on, stops, is_done}
use Rattle.class_bytes.proofs.bootstraps.cut_bootstraps.Goals as goal

pub returns-in_err-cut_bootstrap : goal.returns-in_err-cut_bootstrap
returns-in_err-cut_bootstrap c =
    let p = err_from_is_err_and c.from_residual-in_err-cut_bootstrap.result c.from_residual-in_err-cut_bootstrap.ensures.1 in
    rw (p.1, p.2) (stops (c.in_ok-count.count - (c.loop.counter + 1)) c.loop.invariant (omega arith) c.in_err-cut_bootstrap.field-0.0 c.cut_bootstrap.new.cursor c.in_err-cut_bootstrap.ensures)

pub loop-preserved : goal.loop-preserved
loop-preserved c =
    rw c.in_ok-push.ensures.ok (goes_on bootstrap_of (c.in_ok-count.count - (c.loop.counter + 1)) c.loop.methods c.loop.invariant (omega arith) c.in_ok-cut_bootstrap.field-0 c.cut_bootstrap.new.cursor c.in_ok-cut_bootstrap.ensures)

pub returns : goal.returns
returns c = is_done c.loop.invariant (omega arith)
