-- Each call prints one digit fewer.
use Rattle.script_text.proofs.printed.+push_hex.Given as goal

abbrev pub decreases-push_hex : goal.decreases-push_hex
decreases-push_hex l = l.count
