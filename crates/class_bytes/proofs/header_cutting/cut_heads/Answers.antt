use Rattle.std.proofs.Common.{◌+◌, ◌-◌, arith}
use Rattle.std.proofs.lemmas.Result.{err_from_is_err_and}
use Rattle.class_bytes.proofs.Many.{goes_on_plain, stops, is_done}
use Rattle.class_bytes.proofs.header_cutting.cut_heads.Goals as goal

pub returns-in_err-cut_head : goal.returns-in_err-cut_head
returns-in_err-cut_head c =
    let p = err_from_is_err_and c.from_residual-in_err-cut_head.result c.from_residual-in_err-cut_head.ensures.1 in
    rw (p.1, p.2) (stops (c.in_ok-count.count - (c.loop.counter + 1)) c.loop.invariant (omega arith) c.in_err-cut_head.field-0.0 c.cut_head.new.cursor c.in_err-cut_head.ensures)

pub loop-preserved : goal.loop-preserved
loop-preserved c =
    rw c.in_ok-push.ensures.ok (goes_on_plain (c.in_ok-count.count - (c.loop.counter + 1)) c.loop.invariant (omega arith) c.in_ok-cut_head.field-0 c.cut_head.new.cursor c.in_ok-cut_head.ensures)

pub returns : goal.returns
returns c = is_done c.loop.invariant (omega arith)
