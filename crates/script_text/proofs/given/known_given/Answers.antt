-- The word of the value.
use Rattle.script_text.specs.Scripts.{given_known}
use Rattle.script_text.proofs.given.known_given.Goals as goal

pub returns-in-Some : goal.returns-in-Some
returns-in-Some c = given_known c.in-Some.ensures
