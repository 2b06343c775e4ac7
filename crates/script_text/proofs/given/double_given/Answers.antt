-- The word of the value.
use Rattle.script_text.specs.Scripts.{given_double}
use Rattle.script_text.proofs.given.double_given.Goals as goal

pub returns-in-Some : goal.returns-in-Some
returns-in-Some c = given_double c.in-Some.ensures
