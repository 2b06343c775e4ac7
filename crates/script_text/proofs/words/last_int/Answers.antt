-- The last word is taken.
use Rattle.std.specs.Int.{w32}
use Rattle.script_text.specs.Scripts.{SpellsInteger}
use Rattle.script_text.proofs.Taken.{last_read}
use Rattle.script_text.proofs.words.last_int.Goals as goal

pub returns : goal.returns
returns c = last_read (SpellsInteger w32) _ _ c.int_of.result c.in-Some.ensures.some c.int_of.ensures
