use Rattle.std.proofs.Common.{sym, ◌∙◌, subst}
use Rattle.inline_expand.proofs.ReplacedCalls.{is_replaced, none_replaced, not_following, not_kept}
use Rattle.inline_expand.specs.Inner.Places.{chain_of, host_of}
use Rattle.inline_expand.specs.Inner.ReadyCallees.{IsCalleeFound}
use Rattle.inline_expand.proofs.replaced.replaced_at.Goals as goal

pub returns-in_default-clause-callee : goal.returns-in_default-clause-callee
returns-in_default-clause-callee c =
    none_replaced c.args.place.class.tree.now c.args.place.class.typed.now (host_of c.args.place.line.now) (chain_of c.args.place.line.now) c.args.method.now c.args.at c.requires.method c.args.place.class.number c.requires.place.of_host
    (subst (IsCalleeFound c.args.place.class.tree.now c.args.place.class.typed.now c.args.place.class.number c.args.method.now.at c.args.at) c.in_default.is c.in_ok-callee.ensures.callee)

pub returns-then-not-may_follow-clause-callee : goal.returns-then-not-may_follow-clause-callee
returns-then-not-may_follow-clause-callee c =
    not_following c.args.place.class.tree.now c.args.place.class.typed.now (host_of c.args.place.line.now) (chain_of c.args.place.line.now) c.args.method.now c.args.at c.requires.method c.args.place.class.number c.requires.place.of_host
    c.in-Some.callee (subst (IsCalleeFound c.args.place.class.tree.now c.args.place.class.typed.now c.args.place.class.number c.args.method.now.at c.args.at) c.in-Some.is c.in_ok-callee.ensures.callee)
    (λ follows. absurd (cc (sym c.if-not-may_follow.true ∙ c.may_follow.ensures.1 follows)))

pub returns-in-Ok-true-clause-callee : goal.returns-in-Ok-true-clause-callee
returns-in-Ok-true-clause-callee c =
    is_replaced c.args.place.class.tree.now c.args.place.class.typed.now (host_of c.args.place.line.now) (chain_of c.args.place.line.now) c.args.method.now c.args.at c.requires.method c.args.place.class.number c.requires.place.of_host
    c.in-Some.callee (subst (IsCalleeFound c.args.place.class.tree.now c.args.place.class.typed.now c.args.place.class.number c.args.method.now.at c.args.at) c.in-Some.is c.in_ok-callee.ensures.callee)
    (c.may_follow.ensures.0 c.if-not-may_follow.false) (c.in-Ok-true.ensures.kept.0 c.in-Ok-true.field-0-test)

pub returns-in-Ok-false-clause-callee : goal.returns-in-Ok-false-clause-callee
returns-in-Ok-false-clause-callee c =
    not_kept c.args.place.class.tree.now c.args.place.class.typed.now (host_of c.args.place.line.now) (chain_of c.args.place.line.now) c.args.method.now c.args.at c.requires.method c.args.place.class.number c.requires.place.of_host
    c.in-Some.callee (subst (IsCalleeFound c.args.place.class.tree.now c.args.place.class.typed.now c.args.place.class.number c.args.method.now.at c.args.at) c.in-Some.is c.in_ok-callee.ensures.callee)
    (λ kept. absurd (cc (sym c.in-Ok-false.field-0-test ∙ c.in-Ok-false.ensures.kept.1 kept)))
