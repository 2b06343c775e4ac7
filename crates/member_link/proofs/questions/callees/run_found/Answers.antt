use Rattle.std.proofs.Common.{sym, ap, ◌∙◌}
use Rattle.member_link.specs.Machine.CallSteps.{run_call}
use Rattle.member_link.specs.References.{Reference}
use Rattle.member_link.proofs.questions.callees.run_found.Goals as goal

pub returns-clause-runs : goal.returns-clause-runs
returns-clause-runs c = λ method P memory values at is.
    ap (λ (r : Reference). run_call P r values) (sym (c.in_ok-method_found.ensures method at)) ∙ c.run_call.ensures.runs P memory values is
