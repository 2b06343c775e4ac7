use Rattle.inline_expand.proofs.CalledMethods.{calls_once}
use Rattle.inline_expand.proofs.DecidedRuns.{HasLaws}
use Rattle.inline_expand.proofs.calls.a_call_runs_one_method.Goals as goal

pub returns : goal.returns
returns c = λ classes s at one other hierarchy calls also.
    let laws : HasLaws = record { looks_up = c.a_look_up_finds_one_method.ensures; selects = c.a_selection_chooses_one.ensures; starts = c.a_special_call_starts_once.ensures } in
    calls_once classes s at laws hierarchy one other calls also
