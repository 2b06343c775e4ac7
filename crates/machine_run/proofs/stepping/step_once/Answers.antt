use Rattle.std.proofs.Common.{◌≡◌, ◌+◌, false, sym, ap, ◌∙◌}
use Rattle.member_link.specs.Machine.Stepping.{frames_step, is_library_turn}
use Rattle.member_link.specs.Machine.Worlds.{World}
use Rattle.machine_run.specs.Outcomes.{ended, halt_of}
use Rattle.machine_run.proofs.LedSteps.{KeepsBounds, step_led}
use Rattle.machine_run.proofs.StepParts.{no_point_bounded, step_is}
use Rattle.machine_run.proofs.stepping.step_once.Goals as goal

pub returns-clause-stepped : goal.returns-clause-stepped
returns-clause-stepped c = λ P program.
    let w : World = c.args.w.now in
    let keeps : KeepsBounds P = record {
      counts = c.a_step_keeps_counts_within_bounds.ensures P;
      places = c.a_step_keeps_next_places.ensures P;
    } in
    let turn : is_library_turn c.w.inside.frames ≡ false = ap (λ (v : World). is_library_turn v.frames) c.w.view_is ∙ c.requires.turn in
    step_led P w (ended (halt_of c.in_ok-outcome.outcome) c.step_top.new.w) keeps c.a_state_goes_on.ensures c.requires.turn
    (no_point_bounded P w.frames (c.requires.no_code P program)) c.requires.bounded
    (c.in_ok-outcome.ensures.stepped P program turn
    ∙ ap (λ (v : World). frames_step P (record v { steps = v.steps + 1 }) v.frames) c.w.view_is
    ∙ sym (step_is P w c.requires.turn))
