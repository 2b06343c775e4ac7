use Rattle.std.proofs.Common.{sym, subst, ◌∙◌}
use Rattle.std.proofs.lemmas.Result.{IfOk-weaker}
use Rattle.machine_step.specs.Completing.{Completes}
use Rattle.member_link.specs.RunOps.{RunsSpecial}
use Rattle.machine_step.proofs.ReceiverCalls.{conforming}
use Rattle.machine_step.proofs.receivers.special_on.Goals as goal

pub returns-in-Some : goal.returns-in-Some
returns-in-Some c = IfOk-weaker c.special_of.result _ _
    (λ completed is P from memory operands program found runs.
    subst (Completes memory memory operands completed)
    (sym (conforming P memory c.args.named.now from operands c.args.target.now.method c.args.shape.now
    (sym (c.takes_shape.ensures P program) ∙ c.if-not-takes_shape.false)))
    (is P c.args.named.now from memory operands found (subst (RunsSpecial P from c.args.target.now) c.in-Some.is runs)))
    c.special_of.ensures
