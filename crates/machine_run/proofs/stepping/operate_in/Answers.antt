use Rattle.std.proofs.Common.{◌≡◌, ◌+◌, sym, subst, arith, ◌∙◌}
use Rattle.class_model.specs.declared.class_file.MethodAt.{MethodAt}
use Rattle.member_link.specs.Machine.Programs.{Program}
use Rattle.machine_code.specs.Prepared.{IsPrepared}
use Rattle.member_link.specs.TreePrograms.{IsProgram}
use Rattle.machine_run.specs.Inner.Performed.{IsKept, world_operated}
use Rattle.machine_run.specs.Inner.StepWords.{Leads, behind}
use Rattle.machine_run.specs.declared.stepping.Operated.{Operated}
use Rattle.machine_run.proofs.LedSteps.{KeepsBounds, operation_led_on, room_behind}
use Rattle.machine_run.proofs.OperatedWorlds.{can_go_on}
use Rattle.machine_run.proofs.stepping.operate_in.Goals as goal

pub operate_frame-requires-clause-room : goal.operate_frame-requires-clause-room
operate_frame-requires-clause-room c =
    let P = c.a_tree_has_a_program.ensures.0 in
    let w = c.requires.running.world in
    let rest = c.requires.running.rest in
    room_behind P w rest c.args.frame.now c.loop-count.frame c.args.memory.now c.loop-count.memory c.loop-count.count c.args.left
    c.requires.running.runs (omega (arith, c.loop-count-test.true))
    (c.loop-count.invariant.led P w rest c.a_tree_has_a_program.ensures.1 c.requires.running.runs)

pub loop-count-preserved : goal.loop-count-preserved
loop-count-preserved c =
    let before = c.loop-count.frame in
    let after = c.operate_frame.new.frame in
    let memory = c.operate_frame.new.memory in
    let count = c.loop-count.count in
    let stays : after.at ≡ before.at =
    subst (λ (operated : Operated). IsKept before after c.loop-count.memory memory operated) c.in-Went.is c.in_ok-operated.ensures.kept
    in
    record {
      at = stays ∙ c.loop-count.invariant.at;
      prepared = λ P program. c.in_ok-operated.ensures.prepared P c.args.frame.now.at program (c.loop-count.invariant.prepared P program);
      few = omega (arith, c.loop-count-test.true);
      led = λ P w rest program runs.
          let keeps : KeepsBounds P = record {
            counts = c.a_step_keeps_counts_within_bounds.ensures P;
            places = c.a_step_keeps_next_places.ensures P;
          } in
          let prepared : IsPrepared P before.at c.loop-count.method =
          subst (λ (at : MethodAt). IsPrepared P at c.loop-count.method) (sym c.loop-count.invariant.at) (c.loop-count.invariant.prepared P program)
          in
          subst (λ (operated : Operated). Leads P (count + 1) w (world_operated P (behind w rest after memory (count + 1)) after rest operated)) c.in-Went.is
          (operation_led_on P w count before after rest c.loop-count.memory memory c.in_ok-operated.operated keeps runs.goes_on
          (c.loop-count.invariant.led P w rest program runs)
          (c.in_ok-operated.ensures.next P prepared) c.in_ok-operated.ensures.kept
          (λ v same. c.in_ok-operated.ensures.operated P v rest program prepared same));
    }

pub returns-in_default : goal.returns-in_default
returns-in_default c =
    let before = c.loop-count.frame in
    let after = c.operate_frame.new.frame in
    let memory = c.operate_frame.new.memory in
    let count = c.loop-count.count in
    let prepared_in : (P : Program) → IsProgram c.args.tree.now P → IsPrepared P before.at c.loop-count.method =
    λ P program. subst (λ (at : MethodAt). IsPrepared P at c.loop-count.method) (sym c.loop-count.invariant.at) (c.loop-count.invariant.prepared P program)
    in
    record {
      prepared = λ P program. c.in_ok-operated.ensures.prepared P c.args.frame.now.at program (c.loop-count.invariant.prepared P program);
      operated = λ P w rest program runs.
          let keeps : KeepsBounds P = record {
            counts = c.a_step_keeps_counts_within_bounds.ensures P;
            places = c.a_step_keeps_next_places.ensures P;
          } in
          operation_led_on P w count before after rest c.loop-count.memory memory c.in_ok-operated.operated keeps runs.goes_on
          (c.loop-count.invariant.led P w rest program runs)
          (c.in_ok-operated.ensures.next P (prepared_in P program)) c.in_ok-operated.ensures.kept
          (λ v same. c.in_ok-operated.ensures.operated P v rest program (prepared_in P program) same);
      can = (let P = c.a_tree_has_a_program.ensures.0 in
          let program = c.a_tree_has_a_program.ensures.1 in
          can_go_on before after c.loop-count.memory memory c.in_ok-operated.operated c.in_ok-operated.ensures.kept
          (c.in_ok-operated.ensures.can P program (prepared_in P program)));
      some = λ more. omega arith;
      few = omega (arith, c.loop-count-test.true);
    }
