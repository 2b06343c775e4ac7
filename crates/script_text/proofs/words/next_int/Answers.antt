-- The word is taken.
use Rattle.std.proofs.Common.{ℤ, sym, subst}
use Rattle.std.proofs.lemmas.Int.{to_z-of_z}
use Rattle.std.specs.Int.{w32}
use Rattle.std.specs.Option.{option_copied}
use Rattle.script_text.specs.Scripts.{SpellsInteger}
use Rattle.script_text.specs.Inner.Reading.{Takes, words_left}
use Rattle.script_text.proofs.Taken.{taken, not_next}
use Rattle.script_text.proofs.words.next_int.Goals as goal

pub returns-in-Some-int_of : goal.returns-in-Some-int_of
returns-in-Some-int_of c =
    subst (λ (z : ℤ). Takes (SpellsInteger w32) (words_left (option_copied c.args.words)) z (words_left (option_copied c.in-Some.rest))) (sym (to_z-of_z w32 c.in-Some-int_of.number c.in-Some-int_of.ensures.fits))
    (taken (SpellsInteger w32) _ _ _ _ c.in-Some.ensures.some c.in-Some-int_of.ensures)

pub returns-in-None : goal.returns-in-None
returns-in-None c = not_next (SpellsInteger w32) _ _ _ c.in-Some.ensures.some c.in-None.ensures
