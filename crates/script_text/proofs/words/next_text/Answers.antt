-- The word is taken.
use Rattle.std.proofs.Common.{ℕ, List, Option, subst}
use Rattle.script_text.specs.Scripts.{SpellsText}
use Rattle.script_text.specs.Inner.Reading.{IsRead}
use Rattle.script_text.proofs.Taken.{taken}
use Rattle.script_text.proofs.words.next_text.Goals as goal

pub returns-in-Some-2 : goal.returns-in-Some-2
returns-in-Some-2 c =
    let spelled : SpellsText c.in-Some-2.text c.in-Some.word.now = subst (λ (o : Option (List ℕ)). IsRead (λ text. SpellsText text c.in-Some.word.now) o) c.in-Some-2.is c.in_ok-text.ensures in
    taken SpellsText _ _ _ _ c.in-Some.ensures.some spelled
