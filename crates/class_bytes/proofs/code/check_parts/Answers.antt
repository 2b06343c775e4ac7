use Rattle.std.proofs.lemmas.Result.{err_from_is_err_and}
use Rattle.class_bytes.proofs.PartsTold.{operands_refused, handlers_refused, inners_told}
use Rattle.class_bytes.proofs.code.check_parts.Goals as goal

pub returns-in_err-check_operands : goal.returns-in_err-check_operands
returns-in_err-check_operands c =
    let p = err_from_is_err_and c.from_residual.result c.from_residual.ensures.1 in
    rw (p.1, p.2) (operands_refused c.args.code.now c.args.start _ c.as_slice.ensures _ c.in_err-check_operands.ensures)

pub returns-in_err-check_handlers : goal.returns-in_err-check_handlers
returns-in_err-check_handlers c =
    let p = err_from_is_err_and c.from_residual-in_err-check_handlers.result c.from_residual-in_err-check_handlers.ensures.1 in
    rw (p.1, p.2) (handlers_refused c.args.code.now c.args.start _ c.as_slice-handlers.ensures _ (rw c.as_slice.ensures at c.in_ok-check_operands.ensures.0) c.in_err-check_handlers.ensures)

pub returns : goal.returns
returns c = inners_told c.args.code.now c.args.start _ (rw c.as_slice.ensures at c.in_ok-check_operands.ensures.0) (rw c.as_slice-handlers.ensures at c.in_ok-check_handlers.ensures.0) (rw c.as_slice-handlers.ensures at c.check_inners.ensures)
