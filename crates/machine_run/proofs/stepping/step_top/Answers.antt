use Rattle.std.proofs.Common.{sym, ap, ◌∙◌}
use Rattle.member_link.specs.Machine.Worlds.{World}
use Rattle.machine_run.specs.Inner.Performed.{top_of}
use Rattle.machine_run.proofs.StepParts.{no_point_stuck}
use Rattle.machine_run.proofs.stepping.step_top.Goals as goal

pub returns-in-Method-clause-stepped : goal.returns-in-Method-clause-stepped
returns-in-Method-clause-stepped c = λ P program own.
    let w = c.args.w.now in
    sym
    (no_point_stuck P w w.frames c.in-Method.field-0 (c.in-Method.ensures ∙ ap (λ (v : World). top_of v.frames) c.w.view_is)
    (c.requires P program))
