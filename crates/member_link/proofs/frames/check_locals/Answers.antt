use Rattle.std.proofs.Common.{◌≡◌, refl, arith}
use Rattle.std.proofs.lemmas.Result.{err_from_is_err_and}
use Rattle.class_model.specs.declared.frame.VType.TheVariants.{Top}
use Rattle.member_link.proofs.EachUse.{found_asked, found_refused, rest_unasked}
use Rattle.member_link.proofs.frames.check_locals.Goals as goal

pub returns : goal.returns
returns c =
    let ended : c.loop-at.at ≡ c.listed-at-end.result = omega arith in
    rest_unasked _ _ _ _ _ Top ended refl c.listed-at-end.ensures.tops c.loop-at.invariant

pub returns-in_err-check_type : goal.returns-in_err-check_type
returns-in_err-check_type c =
    let p = err_from_is_err_and c.from_residual.result c.from_residual.ensures.1 in
    rw (p.1, p.2) (found_refused _ c.args.locals.now c.loop-at.at c.in-Some.one.now _ c.in-Some.ensures c.loop-at.invariant c.in_err-check_type.ensures)

pub loop-at-preserved : goal.loop-at-preserved
loop-at-preserved c = found_asked _ c.args.locals.now c.loop-at.at c.in-Some.one.now c.in-Some.ensures c.loop-at.invariant c.in_ok-check_type.ensures
