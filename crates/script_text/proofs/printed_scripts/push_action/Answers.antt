-- The words of the action, and a line feed.
use Rattle.script_text.proofs.PrintedActions.{as_printed}
use Rattle.script_text.proofs.printed_scripts.push_action.Goals as goal

pub returns-clause-printed : goal.returns-clause-printed
returns-clause-printed c =
    as_printed c.args.text.now.items _ _ c.args.action.now c.in_ok-push_words.ensures.printed c.in_ok-push.ensures.items
