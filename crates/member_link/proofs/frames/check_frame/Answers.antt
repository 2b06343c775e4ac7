use Rattle.std.proofs.Common.{refl}
use Rattle.std.proofs.lemmas.Result.{err_from_is_err_and}
use Rattle.member_link.specs.Inner.Resolving.{resolved_scope}
use Rattle.member_link.specs.Uses.{type_checks}
use Rattle.member_link.proofs.EachUse.{first_list_refused, second_list}
use Rattle.member_link.proofs.frames.check_frame.Goals as goal

pub returns-in_err-check_locals : goal.returns-in_err-check_locals
returns-in_err-check_locals c =
    let p = err_from_is_err_and c.from_residual.result c.from_residual.ensures.1 in
    let frame = c.args.placed.now.frame in
    rw (p.1, p.2) (first_list_refused (type_checks (resolved_scope c.args.resolver.now c.args.member.now)) frame.locals frame.locals frame.stack _ refl c.in_err-check_locals.ensures)

pub returns : goal.returns
returns c =
    let frame = c.args.placed.now.frame in
    second_list (type_checks (resolved_scope c.args.resolver.now c.args.member.now)) frame.locals frame.locals c.as_slice.result.now frame.stack c.check_types.result refl c.in_ok-check_locals.ensures c.as_slice.ensures c.check_types.ensures
