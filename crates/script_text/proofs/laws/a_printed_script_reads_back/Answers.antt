use Rattle.script_text.proofs.PrintedActions.{reads_back}
use Rattle.script_text.proofs.laws.a_printed_script_reads_back.Goals as goal

pub returns : goal.returns
returns c = reads_back
