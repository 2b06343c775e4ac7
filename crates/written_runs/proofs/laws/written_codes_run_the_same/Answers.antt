use Rattle.written_runs.proofs.laws.written_codes_run_the_same.Goals as goal
use Rattle.written_runs.specs.Laws.FilledLaws.{makes_what_was_virtual, written_codes_stay_related}
use Rattle.written_runs.specs.Laws.FilledLaws as filled

pub returns-clause-runs : goal.returns-clause-runs
returns-clause-runs c = λ u setup hierarchy adds typings.
    filled.written_codes_run_the_same (record { setup = setup; hierarchy = hierarchy; adds = adds; typings = typings })
    (record {
      fields = record { above = c.a_found_field_is_above.ensures; one = c.a_look_up_finds_one_field.ensures };
      steps = c.a_step_stays_typed.ensures;
      acts = c.an_action_stays_typed.ensures;
      starts = c.a_run_starts_typed.ensures;
      grows = c.a_turn_keeps_what_was_shown.ensures;
      reads = record { parameters = c.parameters_of_bytes_are_spelled.ensures };
    })

pub returns-clause-related : goal.returns-clause-related
returns-clause-related c = λ u actions count setup hierarchy adds typings.
    written_codes_stay_related (record { setup = setup; hierarchy = hierarchy; adds = adds; typings = typings })
    (record {
      fields = record { above = c.a_found_field_is_above.ensures; one = c.a_look_up_finds_one_field.ensures };
      steps = c.a_step_stays_typed.ensures;
      acts = c.an_action_stays_typed.ensures;
      starts = c.a_run_starts_typed.ensures;
      grows = c.a_turn_keeps_what_was_shown.ensures;
      reads = record { parameters = c.parameters_of_bytes_are_spelled.ensures };
    }) actions count

pub returns-clause-made : goal.returns-clause-made
returns-clause-made c = λ u setup hierarchy adds typings.
    makes_what_was_virtual (record { setup = setup; hierarchy = hierarchy; adds = adds; typings = typings })
    (record {
      fields = record { above = c.a_found_field_is_above.ensures; one = c.a_look_up_finds_one_field.ensures };
      steps = c.a_step_stays_typed.ensures;
      acts = c.an_action_stays_typed.ensures;
      starts = c.a_run_starts_typed.ensures;
      grows = c.a_turn_keeps_what_was_shown.ensures;
      reads = record { parameters = c.parameters_of_bytes_are_spelled.ensures };
    })
