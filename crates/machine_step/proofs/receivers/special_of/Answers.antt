use Rattle.std.proofs.Common.{Bool, ◌||◌, sym, ap, subst, ◌∙◌}
use Rattle.std.proofs.lemmas.Result.{IfOk-weaker}
use Rattle.member_link.specs.Machine.Shapes.{is_external}
use Rattle.machine_step.specs.Completing.{Completes}
use Rattle.machine_step.proofs.ReceiverCalls.{runs_nothing, runs_something, special_nothing, special_runs}
use Rattle.machine_step.proofs.receivers.special_of.Goals as goal

pub returns-then-is_nothing : goal.returns-then-is_nothing
returns-then-is_nothing c = λ P named from memory operands found runs. record {
  same =
      special_nothing P memory named from operands c.args.target.now.method c.args.shape.now
      (runs_nothing P from c.args.target.now c.args.callee.now (sym c.is_nothing.ensures ∙ c.if-is_nothing.true) runs);
  keeps = tt;
}

pub returns : goal.returns
returns c = IfOk-weaker c.comes_to.result _ _
    (λ completed is P named from memory operands found runs.
    let some = runs_something P from c.args.target.now c.args.callee.now (sym c.is_nothing.ensures ∙ c.if-is_nothing.false) runs in
    subst (Completes memory memory operands completed)
    (sym (special_runs P memory named from operands c.args.target.now.method c.args.shape.now some.0
    (ap (λ (b : Bool). is_external c.args.shape.now || b) (sym found.polymorphic) ∙ sym c.is_asked.ensures ∙ c.if-is_asked.false)
    ∙ some.1 memory operands))
    (is memory operands))
    c.comes_to.ensures
