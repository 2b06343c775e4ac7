use Rattle.std.proofs.Common.{Option, sym, subst}
use Rattle.machine_values.specs.declared.event.End.{End}
use Rattle.machine_run.specs.Inner.RunWords.{IsTurned}
use Rattle.machine_run.specs.Outcomes.{halt_of}
use Rattle.machine_run.proofs.RunTurns.{no_step_is_fault, turned_by_steps}
use Rattle.machine_run.proofs.running.take_some.Goals as goal

pub returns-clause-turned : goal.returns-clause-turned
returns-clause-turned c = λ P program.
    let actions = c.args.actions.now in
    let before = c.args.world.now.world in
    let after = c.steps_with.new.world.world in
    let used = c.args.used.now in
    let stepped = c.in_ok-stepped.stepped in
    subst (λ (end : Option End). IsTurned P actions stepped.count before used after used end) (sym c.end_of_step.ensures)
    (turned_by_steps P actions stepped.count before after used (halt_of stepped.outcome) c.a_world_goes_on.ensures (no_step_is_fault stepped.outcome)
    (c.in_ok-stepped.ensures.stepped P program))
