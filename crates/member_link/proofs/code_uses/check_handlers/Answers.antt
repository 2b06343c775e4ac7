use Rattle.std.proofs.lemmas.Result.{err_from_is_err_and}
use Rattle.member_link.proofs.EachUse.{one_use_refused, read_again}
use Rattle.member_link.proofs.code_uses.check_handlers.Goals as goal

pub returns-in_err-check_handler-clause-told : goal.returns-in_err-check_handler-clause-told
returns-in_err-check_handler-clause-told c =
    let p = err_from_is_err_and c.from_residual.result c.from_residual.ensures.1 in
    rw (p.1, p.2) (one_use_refused _ _ _ _ c.loop-handler.handler-index _ _ c.loop-handler-test.true (read_again c.args.handlers.now c.loop-handler.handler-index _ c.loop-handler-test.true) c.loop-handler.invariant c.in_err-check_handler.ensures.told)
