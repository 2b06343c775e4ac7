-- The words of the line.
use Rattle.std.specs.Option.{option_copied}
use Rattle.script_text.specs.Scripts.{SpellsText, SpellsEach}
use Rattle.script_text.specs.Inner.Reading.{words_left}
use Rattle.script_text.proofs.Taken.{took, took_none, was_read, was_none}
use Rattle.script_text.proofs.ActionLines.{is_new, new_class, new_also}
use Rattle.script_text.proofs.actions.new_of.Goals as goal

pub returns-in_default : goal.returns-in_default
returns-in_default c = new_class (took_none SpellsText (words_left (option_copied c.args.words)) c.in_ok-class.field-0 c.in_ok-class.ensures c.in_default.is)

pub returns-in_default-2 : goal.returns-in_default-2
returns-in_default-2 c = new_also (took SpellsText (words_left (option_copied c.args.words)) c.in_ok-class.field-0 _ c.in_ok-class.ensures c.in-Some.is) (was_none (λ all. SpellsEach SpellsText all (words_left (option_copied c.in-Some.words))) c.in_ok-also.field-0 c.in_ok-also.ensures c.in_default-2.is)

pub returns : goal.returns
returns c = is_new (took SpellsText (words_left (option_copied c.args.words)) c.in_ok-class.field-0 _ c.in_ok-class.ensures c.in-Some.is) (was_read (λ all. SpellsEach SpellsText all (words_left (option_copied c.in-Some.words))) c.in_ok-also.field-0 _ c.in_ok-also.ensures c.in-Some-2.is)
