use Rattle.std.proofs.Common.{List, sym, ap, ◌∙◌}
use Rattle.machine_values.specs.declared.value.Value.{Value}
use Rattle.member_link.specs.Machine.Performing.{called}
use Rattle.member_link.specs.Machine.Worlds.{Halt, going}
use Rattle.machine_run.specs.Outcomes.{ended}
use Rattle.machine_run.proofs.CallsOn.{goes_on, on_null, on_object}
use Rattle.machine_run.proofs.acting.calls.call_on.Goals as goal

pub returns-in_ok-outcome-clause-acted : goal.returns-in_ok-outcome-clause-acted
returns-in_ok-outcome-clause-acted c = λ P others program split.
    let w = c.args.w.now in
    ap (λ (h : Halt). ended h c.raise.new.w) c.acted_of.ensures.halt
    ∙ c.in_ok-outcome.ensures.raised P program
    ∙ on_null P w c.args.at others c.args.receiver (sym c.is_null.ensures ∙ c.if-is_null.true)

pub returns-in_ok-call_with-clause-acted : goal.returns-in_ok-call_with-clause-acted
returns-in_ok-call_with-clause-acted c = λ P others program split.
    let w = c.args.w.now in
    ap (ended going) (c.in_ok-call_with.ensures.called P program)
    ∙ goes_on (called P w c.args.at c.args.values.now w.frames) c.a_state_goes_on.ensures
    ∙ ap (λ (values : List Value). called P w c.args.at values w.frames) split
    ∙ on_object P w c.args.at others c.args.receiver (sym c.is_null.ensures ∙ c.if-is_null.false)
