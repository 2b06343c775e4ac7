-- The words of the line.
use Rattle.script_text.proofs.ActionLines.{is_length, no_length}
use Rattle.script_text.proofs.actions.length_of.Goals as goal

pub returns-in-Some : goal.returns-in-Some
returns-in-Some c = is_length c.in-Some.ensures

pub returns-in-None : goal.returns-in-None
returns-in-None c = no_length c.in-None.ensures
