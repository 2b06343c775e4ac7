-- The last word is taken.
use Rattle.script_text.specs.Scripts.{SpellsGiven}
use Rattle.script_text.proofs.Taken.{last_read}
use Rattle.script_text.proofs.words.last_given.Goals as goal

pub returns : goal.returns
returns c = last_read SpellsGiven _ _ c.given_of.result c.in-Some.ensures.some c.given_of.ensures
