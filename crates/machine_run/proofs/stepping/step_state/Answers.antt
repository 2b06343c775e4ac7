use Rattle.std.proofs.Common.{subst}
use Rattle.class_tree.specs.Headers.{Classes}
use Rattle.member_link.specs.Machine.Programs.{Program}
use Rattle.member_link.specs.TreePrograms.{IsProgram}
use Rattle.machine_run.specs.Outcomes.{halt_of}
use Rattle.machine_run.proofs.LedSteps.{led_bounded}
use Rattle.machine_run.proofs.StepParts.{ok_gives}
use Rattle.machine_run.proofs.stepping.step_state.Goals as goal

pub returns-in-Method-clause-bounded : goal.returns-in-Method-clause-bounded
returns-in-Method-clause-bounded c =
    let P : Program = c.a_tree_has_a_program.ensures.0 in
    let program : IsProgram c.args.prepared.now P = subst (λ (classes : Classes). IsProgram classes P) c.tree.ensures c.a_tree_has_a_program.ensures.1 in
    ok_gives c.step_method.result _
    (λ stepped led. led_bounded P stepped.count c.args.w.now c.step_method.new.w (halt_of stepped.outcome) (led P program))
    c.step_method.ensures.stepped

pub returns-in-Beginning-clause-bounded : goal.returns-in-Beginning-clause-bounded
returns-in-Beginning-clause-bounded c =
    let P : Program = c.a_tree_has_a_program.ensures.0 in
    let program : IsProgram c.args.prepared.now P = subst (λ (classes : Classes). IsProgram classes P) c.tree.ensures c.a_tree_has_a_program.ensures.1 in
    ok_gives c.step_once.result _
    (λ stepped led. led_bounded P stepped.count c.args.w.now c.step_once.new.w (halt_of stepped.outcome) (led P program))
    c.step_once.ensures.stepped

pub returns-in-Nothing-clause-bounded : goal.returns-in-Nothing-clause-bounded
returns-in-Nothing-clause-bounded c =
    let P : Program = c.a_tree_has_a_program.ensures.0 in
    let program : IsProgram c.args.prepared.now P = subst (λ (classes : Classes). IsProgram classes P) c.tree.ensures c.a_tree_has_a_program.ensures.1 in
    ok_gives c.step_once-in-Nothing.result _
    (λ stepped led. led_bounded P stepped.count c.args.w.now c.step_once-in-Nothing.new.w (halt_of stepped.outcome) (led P program))
    c.step_once-in-Nothing.ensures.stepped
