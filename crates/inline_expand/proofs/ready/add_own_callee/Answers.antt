use Rattle.std.proofs.Common.{sym, ◌∙◌, subst}
use Rattle.inline_expand.proofs.OwnCallees.{adds_nothing, adds_callee}
use Rattle.inline_expand.specs.Inner.ReadyCallees.{FindsCallee}
use Rattle.inline_expand.proofs.ready.add_own_callee.Goals as goal

pub returns-then-not-calls_on_this : goal.returns-then-not-calls_on_this
returns-then-not-calls_on_this c =
    adds_nothing c.args.host.tree.now c.args.host.typed.now c.args.method.now c.args.at c.args.callees.now.items
    (λ on. absurd (cc (sym c.if-not-calls_on_this.true ∙ c.calls_on_this.ensures.1 on)))

pub returns : goal.returns
returns c =
    adds_callee c.args.host.tree.now c.args.host.typed.now c.args.method.now c.args.at c.args.callees.now.items c.push.new.self.items c.in-Some.callee c.requires.stands
    (c.calls_on_this.ensures.0 c.if-not-calls_on_this.false)
    (subst (FindsCallee c.args.host.tree.now c.args.host.typed.now c.args.method.now.at c.args.at) c.in-Some.is c.in_ok-callee.ensures)
    c.in_ok-push.ensures.items
