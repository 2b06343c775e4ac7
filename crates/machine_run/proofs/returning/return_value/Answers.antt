use Rattle.std.proofs.Common.{sym, ap, ◌∙◌}
use Rattle.std.proofs.lemmas.Result.{IfOk-weaker}
use Rattle.member_link.specs.Machine.Performing.{unlocked}
use Rattle.member_link.specs.Machine.Worlds.{Halt, World, going}
use Rattle.machine_step.specs.Completing.{values_of}
use Rattle.machine_run.specs.Outcomes.{ended}
use Rattle.machine_run.proofs.Returns.{returned_initialiser, returned_other}
use Rattle.machine_run.proofs.returning.return_value.Goals as goal

pub returns-then-traits-clause-returned : goal.returns-then-traits-clause-returned
returns-then-traits-clause-returned c = λ P f rest program is.
    let w = c.args.w.now in
    let traits = c.in-Some.ensures P f rest program (ap (λ (v : World). v.frames) c.w.view_is ∙ is) in
    ap (ended going) (c.end_method.ensures.method f rest is)
    ∙ ap (λ (halt : Halt). record w { memory = unlocked w.memory f.held; frames = rest; halt = halt }) (ap (λ (v : World). v.halt) c.w.view_is)
    ∙ sym (returned_initialiser P w f rest (values_of c.args.value) c.in-Some.traits traits c.if-traits.true)

pub returns-else-traits-clause-returned : goal.returns-else-traits-clause-returned
returns-else-traits-clause-returned c =
    IfOk-weaker c.return_below.result _ _
    (λ outcome below P f rest program is.
    let traits = c.in-Some.ensures P f rest program (ap (λ (v : World). v.frames) c.w.view_is ∙ is) in
    below P f rest program is
    ∙ sym (returned_other P c.args.w.now f rest (values_of c.args.value) c.in-Some.traits traits c.if-traits.false))
    c.return_below.ensures.returned
