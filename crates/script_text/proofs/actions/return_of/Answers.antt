-- Nothing is left of the line, or the word of a value.
use Rattle.script_text.proofs.ActionLines.{is_return_value, no_return, is_return}
use Rattle.script_text.proofs.Pieces.{words_none, words_some}
use Rattle.script_text.proofs.actions.return_of.Goals as goal

pub returns-then-is_none : goal.returns-then-is_none
returns-then-is_none c = is_return (words_none c.args.words c.if-is_none.ensures)

pub returns-in-Some : goal.returns-in-Some
returns-in-Some c = is_return_value c.in-Some.ensures

pub returns-in-None : goal.returns-in-None
returns-in-None c = no_return (words_some c.args.words c.if-is_none.ensures) c.in-None.ensures
