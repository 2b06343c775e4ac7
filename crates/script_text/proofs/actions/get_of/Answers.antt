-- The words of the line.
use Rattle.script_text.proofs.ActionLines.{get_again, get_known, get_index}
use Rattle.script_text.proofs.actions.get_of.Goals as goal

pub returns-in_default : goal.returns-in_default
returns-in_default c = get_known c.in_default.ensures

pub returns-in-Some-last_int : goal.returns-in-Some-last_int
returns-in-Some-last_int c = get_again c.in-Some.ensures c.in-Some-last_int.ensures

pub returns-in-None : goal.returns-in-None
returns-in-None c = get_index c.in-Some.ensures c.in-None.ensures
