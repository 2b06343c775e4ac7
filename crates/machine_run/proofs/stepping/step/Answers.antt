use Rattle.std.proofs.Common.{rules, ◌≡◌, false, sym, subst}
use Rattle.class_tree.specs.Headers.{Classes}
use Rattle.member_link.specs.Machine.Stepping.{is_library_turn}
use Rattle.member_link.specs.TreePrograms.{IsProgram}
use Rattle.machine_run.specs.Outcomes.{ended, halt_of}
use Rattle.machine_run.proofs.LedSteps.{step_of_led}
use Rattle.machine_run.proofs.stepping.step.Goals as goal

pub returns-in-Ok-clause-stepped : goal.returns-in-Ok-clause-stepped
returns-in-Ok-clause-stepped c = λ P program.
    let w = c.args.world.now.world in
    let stepped = c.in-Ok.stepped in
    let own : is_library_turn w.frames ≡ false = search rules in
    let prepared : IsProgram c.new-prepared.result P = subst (λ (classes : Classes). IsProgram classes P) (sym c.new-prepared.ensures) program in
    step_of_led P stepped.count w (ended (halt_of stepped.outcome) c.steps_with.new.world.world) c.a_world_goes_on.ensures own
    c.in-Ok.ensures.some c.in-Ok.ensures.few (c.in-Ok.ensures.stepped P prepared)
