-- The number behind the letter and the colon.
use Rattle.std.proofs.Common.{List, ℕ, subst, sym}
use Rattle.script_text.specs.Scripts.{SpellsKnown}
use Rattle.script_text.specs.Inner.Reading.{IsRead}
use Rattle.script_text.proofs.GivenWords.{reference_read}
use Rattle.script_text.proofs.given.known_of.Goals as goal

pub returns : goal.returns
returns c = subst (λ (w : List ℕ). IsRead (λ number. SpellsKnown number w) c.number_of.result) (sym c.in-Some.ensures.some) (reference_read _ c.number_of.result c.number_of.ensures)
