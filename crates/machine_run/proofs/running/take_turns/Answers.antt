use Rattle.std.proofs.Common.{◌≤◌, ◌+◌, Option, Some, None, refl, sym, ap, subst, arith, ◌∙◌}
use Rattle.class_tree.specs.Headers.{Classes}
use Rattle.machine_values.specs.declared.event.End.{End}
use Rattle.member_link.specs.Machine.Runs.{Run, begins_with, turns}
use Rattle.member_link.specs.TreePrograms.{IsProgram}
use Rattle.machine_run.specs.Inner.RunWords.{IsTurned}
use Rattle.machine_run.proofs.RunTurns.{ended_run, turns_left}
use Rattle.machine_run.proofs.running.take_turns.Goals as goal

pub take_some-requires-clause-few : goal.take_some-requires-clause-few
take_some-requires-clause-few c =
    let P = c.a_tree_has_a_program.ensures.0 in
    let program : IsProgram c.loop-done.prepared P =
    subst (λ (classes : Classes). IsProgram classes P) (sym (c.loop-done.invariant.same ∙ sym c.tree.ensures)) c.a_tree_has_a_program.ensures.1
    in
    let bound = c.a_run_takes_no_more_steps_than_turns.ensures P c.args.actions.now c.loop-done.done in
    let steps : c.loop-done.world.world.steps ≤ c.loop-done.done =
    subst (λ (r : Run). r.world.steps ≤ c.loop-done.done) (c.loop-done.invariant.turned P program) bound
    in
    omega (arith, steps, c.loop-done-test.true, c.ranges.steps.fits)

pub returns-in-Some : goal.returns-in-Some
returns-in-Some c = λ P is.
    let program : IsProgram c.loop-done.prepared P = subst (λ (classes : Classes). IsProgram classes P) (sym c.loop-done.invariant.same) is in
    let actions = c.args.actions.now in
    let before = c.loop-done.world.world in
    let after = c.take_some.new.world.world in
    let count = c.in_ok-turned.turned.count in
    let turned : IsTurned P actions count before c.loop-done.used after c.take_some.new.used (Some c.in-Some.end) =
    subst (λ (end : Option End). IsTurned P actions count before c.loop-done.used after c.take_some.new.used end) c.in-Some.is
    (c.in_ok-turned.ensures.turned P program)
    in
    ended_run P actions c.loop-done.done count c.args.steps before after c.loop-done.used c.in-Some.end
    (omega (arith, c.loop-done-test.true, c.in_ok-turned.ensures.few))
    (c.loop-done.invariant.turned P program) turned

pub loop-done-preserved : goal.loop-done-preserved
loop-done-preserved c = record {
  same = c.in_ok-turned.ensures.same ∙ c.loop-done.invariant.same;
  few = c.in_ok-turned.ensures.used;
  within = omega (arith, c.loop-done-test.true, c.in_ok-turned.ensures.few);
  unspent = c.in_ok-turned.ensures.unspent;
  turned = λ P is.
      let program : IsProgram c.loop-done.prepared P = subst (λ (classes : Classes). IsProgram classes P) c.in_ok-turned.ensures.same is in
      let actions = c.args.actions.now in
      let before = c.loop-done.world.world in
      let after = c.take_some.new.world.world in
      let count = c.in_ok-turned.turned.count in
      let turned : IsTurned P actions count before c.loop-done.used after c.take_some.new.used None =
      subst (λ (end : Option End). IsTurned P actions count before c.loop-done.used after c.take_some.new.used end) c.in-None.is
      (c.in_ok-turned.ensures.turned P program)
      in
      turns_left P c.loop-done.done count (c.loop-done.done + count) (begins_with actions) refl
      ∙ ap (turns P count) (c.loop-done.invariant.turned P program) ∙ turned;
}
