-- The words of the line.
use Rattle.script_text.proofs.ActionLines.{is_throw, no_throw}
use Rattle.script_text.proofs.actions.throw_of.Goals as goal

pub returns-in-Some : goal.returns-in-Some
returns-in-Some c = is_throw c.in-Some.ensures

pub returns-in-None : goal.returns-in-None
returns-in-None c = no_throw c.in-None.ensures
