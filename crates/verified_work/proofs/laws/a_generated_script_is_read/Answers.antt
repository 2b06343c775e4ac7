use Rattle.verified_work.proofs.WorkScript.{is_script}
use Rattle.verified_work.proofs.laws.a_generated_script_is_read.Goals as goal

pub returns : goal.returns
returns c = λ number size few. is_script c.a_printed_script_reads_back.ensures number size few
