-- The last word is taken.
use Rattle.script_text.specs.Scripts.{SpellsKnown}
use Rattle.script_text.proofs.Taken.{last_read}
use Rattle.script_text.proofs.words.last_known.Goals as goal

pub returns : goal.returns
returns c = last_read SpellsKnown _ _ c.known_of.result c.in-Some.ensures.some c.known_of.ensures
