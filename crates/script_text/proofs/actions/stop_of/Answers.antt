-- The words of the line.
use Rattle.std.proofs.Common.{ap}
use Rattle.std.specs.Option.{option_copied}
use Rattle.script_text.proofs.Pieces.{none_left, some_left}
use Rattle.script_text.proofs.ActionLines.{no_stop, is_stop}
use Rattle.script_text.proofs.actions.stop_of.Goals as goal

pub returns-in-None : goal.returns-in-None
returns-in-None c = is_stop (none_left _ (ap option_copied c.in-None.is))

pub returns-in-Some : goal.returns-in-Some
returns-in-Some c = no_stop (some_left (option_copied c.args.words) _ (ap option_copied c.in-Some.is))
