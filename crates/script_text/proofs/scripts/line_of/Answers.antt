-- An empty line, a comment, an action or none.
use Rattle.std.proofs.Common.{sym}
use Rattle.script_text.specs.Scripts.{SpellsAction, words_of, action_line}
use Rattle.script_text.proofs.ScriptLines.{blank_line, no_line}
use Rattle.script_text.proofs.Taken.{was_read, was_none}
use Rattle.script_text.proofs.scripts.line_of.Goals as goal

pub returns-then-is_blank : goal.returns-then-is_blank
returns-then-is_blank c = blank_line _ (sym c.if-is_blank.ensures)

pub returns-in-Some : goal.returns-in-Some
returns-in-Some c = action_line (was_read (λ action. SpellsAction action (words_of c.args.line.now)) _ _ c.in_ok-answer.ensures c.in-Some.is)

pub returns-in-None : goal.returns-in-None
returns-in-None c = no_line _ (sym c.if-is_blank.ensures) (was_none (λ action. SpellsAction action (words_of c.args.line.now)) _ c.in_ok-answer.ensures c.in-None.is)
