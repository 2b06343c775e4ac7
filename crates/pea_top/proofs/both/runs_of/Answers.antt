-- The programs of a folder and of its written folder run the same.
use Rattle.std.proofs.Common.{refl}
use Rattle.pea_top.proofs.SettledRuns.{RunLaws, both_same, counted_same}
use Rattle.pea_top.proofs.both.runs_of.Goals as goal

pub returns : goal.returns
returns c =
    let is = c.in_ok-classes.ensures in
    let runs = is.keeps.runs in
    let laws : RunLaws = record { stays = c.a_run_that_is_over_stays.ensures; add = c.a_run_goes_on_where_it_stopped.ensures; keeps = c.turns_keep_what_was_shown.ensures } in
    let before_is = c.in_ok-before.ensures.run runs.first runs.is_first in
    let after_is = c.in_ok-after.ensures.run runs.second runs.is_second in
    record {
      optimised = c.in_ok-classes.field-0;
      is = is;
      report_is = refl;
      shown = record {
        first = runs.first;
        is_first = runs.is_first;
        before_is = before_is;
        second = runs.second;
        is_second = runs.is_second;
        after_is = after_is;
        before_not_stuck = c.in_ok-before.ensures.never_stuck runs.first runs.is_first;
        after_not_stuck = c.in_ok-after.ensures.never_stuck runs.second runs.is_second;
        same = both_same laws runs.first runs.second runs.same_runs c.args.actions.now c.args.steps c.in_ok-before.before c.in_ok-after.after before_is after_is;
      };
      counted = counted_same laws runs.first runs.second runs.same_runs c.args.actions.now c.args.steps c.in_ok-before.before c.in_ok-after.after before_is after_is;
    }
