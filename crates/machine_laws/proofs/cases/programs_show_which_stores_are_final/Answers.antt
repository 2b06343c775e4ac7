use Rattle.machine_laws.proofs.FinalFieldsRuns.{final_fields_run}
use Rattle.machine_laws.proofs.cases.programs_show_which_stores_are_final.Goals as goal

pub returns : goal.returns
returns c = final_fields_run
