-- The words of the line.
use Rattle.script_text.proofs.ActionLines.{set_again, set_known, set_index, set_value}
use Rattle.script_text.proofs.actions.set_of.Goals as goal

pub returns-in_default : goal.returns-in_default
returns-in_default c = set_known c.in_default.ensures

pub returns-in_default-next_int : goal.returns-in_default-next_int
returns-in_default-next_int c = set_index c.in-Some.ensures c.in_default-next_int.ensures

pub returns-in-Some-last_given : goal.returns-in-Some-last_given
returns-in-Some-last_given c = set_again c.in-Some.ensures c.in-Some-next_int.ensures c.in-Some-last_given.ensures

pub returns-in-None : goal.returns-in-None
returns-in-None c = set_value c.in-Some.ensures c.in-Some-next_int.ensures c.in-None.ensures
