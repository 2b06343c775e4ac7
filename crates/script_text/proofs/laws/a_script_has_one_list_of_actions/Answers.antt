use Rattle.script_text.proofs.OneScript.{script_once}
use Rattle.script_text.proofs.laws.a_script_has_one_list_of_actions.Goals as goal

pub returns : goal.returns
returns c = script_once
