use Rattle.std.proofs.Common.{◌+◌, ◌-◌, arith}
use Rattle.std.proofs.lemmas.Result.{err_from_is_err_and}
use Rattle.class_bytes.proofs.Many.{goes_on_plain, stops, is_done}
use Rattle.class_bytes.proofs.bootstraps.cut_arguments.Goals as goal

pub returns-in_err-u2 : goal.returns-in_err-u2
returns-in_err-u2 c =
    let p = err_from_is_err_and c.from_residual-in_err-u2.result c.from_residual-in_err-u2.ensures.1 in
    rw (p.1, p.2) (stops (c.in_ok-count.count - (c.loop.counter + 1)) c.loop.invariant (omega arith) c.in_err-u2.field-0.0 c.u2-in-loop.new.self c.in_err-u2.ensures.taken)

pub loop-preserved : goal.loop-preserved
loop-preserved c =
    rw c.in_ok-push.ensures.ok (goes_on_plain (c.in_ok-count.count - (c.loop.counter + 1)) c.loop.invariant (omega arith) c.in_ok-u2.field-0 c.u2-in-loop.new.self c.in_ok-u2.ensures.taken)

pub returns : goal.returns
returns c = is_done c.loop.invariant (omega arith)
