-- The word of the value.
use Rattle.script_text.specs.Scripts.{given_float}
use Rattle.script_text.proofs.given.float_given.Goals as goal

pub returns-in-Some : goal.returns-in-Some
returns-in-Some c = given_float c.in-Some.ensures
