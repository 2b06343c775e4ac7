use Rattle.std.proofs.Common.{sym, ◌∙◌}
use Rattle.machine_step.proofs.ReceiverCalls.{takes_same}
use Rattle.machine_step.proofs.receivers.on_unseen.Goals as goal

pub returns-clause-seen : goal.returns-clause-seen
returns-clause-seen c = λ P is found. record {
  takes =
      takes_same P c.args.form c.args.class c.args.named.now.class
      ∙ sym (c.takes_shape.ensures P is)
      ∙ c.if-not-takes_shape.false;
  runs = λ memory values. c.in_ok-callee.ensures.runs P memory values is found.of_object;
}
