use Rattle.std.proofs.Common.{◌+◌, slice_get, refl, sym, ap, ◌∙◌, arith}
use Rattle.std.proofs.lemmas.Bool.{ltb-true}
use Rattle.std.proofs.lemmas.Option.{slice_get_read}
use Rattle.std.proofs.lemmas.Result.{err_from_is_err_and}
use Rattle.class_model.specs.Laws.Checks.{asked_at, passes}
use Rattle.class_tree.specs.Headers.{headers_of}
use Rattle.class_tree.specs.Laws.Links.{fails}
use Rattle.member_link.specs.Declarations.{declared_method_checks}
use Rattle.member_link.proofs.declarations.check_methods.Goals as goal

pub returns-in_err-ask_at : goal.returns-in_err-ask_at
returns-in_err-ask_at c =
    let p = err_from_is_err_and c.from_residual-in_err-ask_at.result c.from_residual-in_err-ask_at.ensures.1 in
    let left = asked_at (declared_method_checks (headers_of c.args.tree.now) c.args.header.now) c.as_slice-member-items.result.now c.loop-member.member-index c.member-item.result c.loop-member-test.true c.member-item.is c.loop-member.invariant.2 in
    rw (p.1, p.2) (fails _ _ left (rw c.loop-member.invariant.0 at c.in_ok-is_there.ensures.told) c.in_err-ask_at.ensures)

pub returns-in_err-ask_at-2 : goal.returns-in_err-ask_at-2
returns-in_err-ask_at-2 c =
    let p = err_from_is_err_and c.from_residual-in_err-ask_at-2.result c.from_residual-in_err-ask_at-2.ensures.1 in
    let left = asked_at (declared_method_checks (headers_of c.args.tree.now) c.args.header.now) c.as_slice-member-items.result.now c.loop-member.member-index c.member-item.result c.loop-member-test.true c.member-item.is c.loop-member.invariant.2 in
    rw (p.1, p.2) (fails _ _ (passes left ((rw c.loop-member.invariant.0 at c.in_ok-is_there.ensures.told).0 c.in_ok-ask_at.ensures.0)) c.overrides_no_final.ensures c.in_err-ask_at-2.ensures)

pub loop-member-preserved : goal.loop-member-preserved
loop-member-preserved c =
    let left = asked_at (declared_method_checks (headers_of c.args.tree.now) c.args.header.now) c.as_slice-member-items.result.now c.loop-member.member-index c.member-item.result c.loop-member-test.true c.member-item.is c.loop-member.invariant.2 in
    (c.in_ok-is_there.ensures.same ∙ c.loop-member.invariant.0, ap (λ n. n + 1) c.loop-member.invariant.1, passes (passes left ((rw c.loop-member.invariant.0 at c.in_ok-is_there.ensures.told).0 c.in_ok-ask_at.ensures.0)) (c.overrides_no_final.ensures.0 c.in_ok-ask_at-2.ensures.0))

pub overrides_no_final-requires-clause-known : goal.overrides_no_final-requires-clause-known
overrides_no_final-requires-clause-known c = λ known.
    let methods = c.as_slice-member-items.result.now in
    c.requires.known.each c.loop-member.member-index c.member-item.result (ap (λ list. slice_get list c.loop-member.member-index) (sym c.as_slice-member-items.ensures) ∙ slice_get_read methods _ c.loop-member.member-index c.member-item.result refl c.loop-member-test.true c.member-item.is) (omega (arith, ltb-true c.loop-member.index c.args.known known, c.loop-member.invariant.1))
