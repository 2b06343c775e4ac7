use Rattle.std.proofs.Common.{Err, subst}
use Rattle.std.proofs.lemmas.Result.{err_from_is_err_and}
use Rattle.class_model.specs.Checks.{asked_each}
use Rattle.class_model.specs.Methods.{home_of}
use Rattle.class_tree.specs.Answers.{Answers}
use Rattle.member_link.specs.Inner.Resolving.{Resolved, resolved_scope}
use Rattle.member_link.specs.Uses.{attr_checks}
use Rattle.member_link.proofs.EachUse.{one_used, one_use_refused}
use Rattle.member_link.proofs.uses.check_method.Goals as goal

pub returns-in_err-check_attr-clause-told : goal.returns-in_err-check_attr-clause-told
returns-in_err-check_attr-clause-told c =
    let p = err_from_is_err_and c.from_residual.result c.from_residual.ensures.1 in
    let method = c.args.method.now in
    let asks = λ (resolver : Resolved). attr_checks (resolved_scope resolver c.args.member.now) (home_of c.args.class.now) method in
    rw (p.1, p.2) (subst (λ attrs. Answers {X = Unit {0}} (asked_each (asks c.args.resolver.now) attrs) (Err c.in_err-check_attr.field-0.0)) c.as_slice-attr-items.ensures
    (one_use_refused asks c.as_slice-attr-items.result.now _ _ c.loop-attr.attr-index c.attr-item.result _ c.loop-attr-test.true c.attr-item.is c.loop-attr.invariant c.in_err-check_attr.ensures.told))

pub loop-attr-preserved : goal.loop-attr-preserved
loop-attr-preserved c = one_used _ _ _ _ _ c.loop-attr.attr-index c.attr-item.result c.loop-attr-test.true c.attr-item.is c.loop-attr.invariant c.in_ok-check_attr.ensures.same c.in_ok-check_attr.ensures.told
