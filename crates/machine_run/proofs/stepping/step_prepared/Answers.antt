use Rattle.std.proofs.Common.{◌+◌, List, sym, ap, subst, ◌∙◌}
use Rattle.class_tree.specs.Headers.{Classes}
use Rattle.machine_values.specs.declared.frame.RunFrame.{RunFrame as Frame}
use Rattle.member_link.specs.Machine.Worlds.{World}
use Rattle.member_link.specs.TreePrograms.{IsProgram}
use Rattle.machine_run.specs.Inner.Performed.{world_operated}
use Rattle.machine_run.specs.Inner.StepWords.{Leads, Runs}
use Rattle.machine_run.proofs.stepping.step_prepared.Goals as goal

pub returns-clause-stepped : goal.returns-clause-stepped
returns-clause-stepped c = λ P program.
    let w : World = c.args.w.now in
    let f = c.requires.top.0 in
    let rest = c.requires.top.1 in
    let frames = c.operate.new.frames in
    let memory = c.operate.new.memory in
    let count = c.in_ok-done.done.count in
    let last = c.in_ok-done.done.last in
    let again : IsProgram c.tree.result.now P = subst (λ (classes : Classes). IsProgram classes P) (sym c.tree.ensures) program in
    let put_back : IsProgram c.put.new.self P = subst (λ (classes : Classes). IsProgram classes P) (sym c.put.ensures) program in
    let runs : Runs w rest f c.w.inside.memory c.args.left = record {
      top = c.requires.top.2;
      remembers = sym (ap (λ (v : World). v.memory) c.w.view_is);
      goes_on = c.a_state_goes_on.ensures;
      bounded = c.requires.bounded;
      few = c.requires.few;
    } in
    let operated = c.in_ok-done.ensures.operated P w f rest again (ap (λ (v : World). v.frames) c.w.view_is ∙ c.requires.top.2) runs in
    let g = operated.frame in
    subst (Leads P count w)
    (sym
    (c.in_ok-outcome.ensures.finished P g rest put_back operated.top
    ∙ ap (λ (v : World). world_operated P (record v { frames = frames; memory = memory; steps = v.steps + count }) g rest last) c.w.view_is
    ∙ ap (λ (all : List Frame). world_operated P (record w { frames = all; memory = memory; steps = w.steps + count }) g rest last) operated.top))
    operated.leads
