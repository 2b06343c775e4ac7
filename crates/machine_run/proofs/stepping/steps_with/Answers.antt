use Rattle.std.proofs.Common.{ap, subst}
use Rattle.member_link.specs.Machine.Worlds.{World}
use Rattle.machine_step.specs.SpentWorlds.{SpentWorld}
use Rattle.machine_run.specs.Inner.StepWords.{Leads}
use Rattle.machine_run.specs.Outcomes.{ended, halt_of}
use Rattle.machine_run.proofs.stepping.steps_with.Goals as goal

pub returns-in-Ok-clause-stepped : goal.returns-in-Ok-clause-stepped
returns-in-Ok-clause-stepped c = λ P program.
    subst (λ (w : World). Leads P c.in-Ok.stepped.count w (ended (halt_of c.in-Ok.stepped.outcome) c.step_state.new.w))
    (ap (λ (world : SpentWorld). world.world) c.world.view_is)
    (c.in-Ok.ensures.stepped P program)
