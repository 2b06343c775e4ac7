use Rattle.std.proofs.Common.{sym, ◌∙◌}
use Rattle.std.proofs.lemmas.Result.{err_from_is_err_and}
use Rattle.class_bytes.proofs.PartsTold.{FrontHolds, instrs_refused, parts_told}
use Rattle.class_bytes.proofs.code.check_part.Goals as goal

pub returns-in_err-instrs : goal.returns-in_err-instrs
returns-in_err-instrs c =
    let home = c.args.home.now in
    let method = c.args.method.now in
    let part = c.args.part.now in
    let holds : FrontHolds home method part c.args.at = record { len = sym c.fits_len.ensures ∙ c.in_ok-ask.ensures.0.0; locals = c.fits_locals.ensures.0 c.in_ok-ask-2.ensures.0.0 } in
    let p = err_from_is_err_and c.from_residual-in_err-instrs.result c.from_residual-in_err-instrs.ensures.1 in
    rw (p.1, p.2) (instrs_refused home method part c.args.at _ holds c.in_err-instrs.ensures)

pub returns : goal.returns
returns c =
    let home = c.args.home.now in
    let method = c.args.method.now in
    let part = c.args.part.now in
    let holds : FrontHolds home method part c.args.at = record { len = sym c.fits_len.ensures ∙ c.in_ok-ask.ensures.0.0; locals = c.fits_locals.ensures.0 c.in_ok-ask-2.ensures.0.0 } in
    parts_told home method part c.args.at c.in_ok-instrs.instrs _ holds c.in_ok-instrs.ensures.0 c.in_ok-instrs.ensures.1 c.check_parts.ensures
