-- The word is taken.
use Rattle.script_text.specs.Scripts.{SpellsKnown}
use Rattle.script_text.proofs.Taken.{taken}
use Rattle.script_text.proofs.words.next_known.Goals as goal

pub returns-in-Some-known_of : goal.returns-in-Some-known_of
returns-in-Some-known_of c = taken SpellsKnown _ _ _ _ c.in-Some.ensures.some c.in-Some-known_of.ensures
