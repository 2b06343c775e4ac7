-- The words of the line.
use Rattle.std.specs.Option.{option_copied}
use Rattle.script_text.specs.Scripts.{SpellsText, SpellsEach, SpellsGiven}
use Rattle.script_text.specs.Inner.Reading.{words_left}
use Rattle.script_text.proofs.Taken.{took, took_none, was_read, was_none}
use Rattle.script_text.proofs.ActionLines.{is_call, call_class, call_name, call_desc, call_values}
use Rattle.script_text.proofs.actions.call_of.Goals as goal

pub returns-in_default : goal.returns-in_default
returns-in_default c = call_class (took_none SpellsText (words_left (option_copied c.args.words)) c.in_ok-class.field-0 c.in_ok-class.ensures c.in_default.is)

pub returns-in_default-2 : goal.returns-in_default-2
returns-in_default-2 c = call_name (took SpellsText (words_left (option_copied c.args.words)) c.in_ok-class.field-0 _ c.in_ok-class.ensures c.in-Some.is) (took_none SpellsText (words_left (option_copied c.in-Some.words)) c.in_ok-name.field-0 c.in_ok-name.ensures c.in_default-2.is)

pub returns-in_default-3 : goal.returns-in_default-3
returns-in_default-3 c = call_desc (took SpellsText (words_left (option_copied c.args.words)) c.in_ok-class.field-0 _ c.in_ok-class.ensures c.in-Some.is) (took SpellsText (words_left (option_copied c.in-Some.words)) c.in_ok-name.field-0 _ c.in_ok-name.ensures c.in-Some-2.is) (took_none SpellsText (words_left (option_copied c.in-Some-2.words)) c.in_ok-desc.field-0 c.in_ok-desc.ensures c.in_default-3.is)

pub returns-in_default-4 : goal.returns-in_default-4
returns-in_default-4 c = call_values (took SpellsText (words_left (option_copied c.args.words)) c.in_ok-class.field-0 _ c.in_ok-class.ensures c.in-Some.is) (took SpellsText (words_left (option_copied c.in-Some.words)) c.in_ok-name.field-0 _ c.in_ok-name.ensures c.in-Some-2.is) (took SpellsText (words_left (option_copied c.in-Some-2.words)) c.in_ok-desc.field-0 _ c.in_ok-desc.ensures c.in-Some-3.is) (was_none (λ all. SpellsEach SpellsGiven all (words_left (option_copied c.in-Some-3.words))) c.in_ok-values.field-0 c.in_ok-values.ensures c.in_default-4.is)

pub returns : goal.returns
returns c = is_call (took SpellsText (words_left (option_copied c.args.words)) c.in_ok-class.field-0 _ c.in_ok-class.ensures c.in-Some.is) (took SpellsText (words_left (option_copied c.in-Some.words)) c.in_ok-name.field-0 _ c.in_ok-name.ensures c.in-Some-2.is) (took SpellsText (words_left (option_copied c.in-Some-2.words)) c.in_ok-desc.field-0 _ c.in_ok-desc.ensures c.in-Some-3.is) (was_read (λ all. SpellsEach SpellsGiven all (words_left (option_copied c.in-Some-3.words))) c.in_ok-values.field-0 _ c.in_ok-values.ensures c.in-Some-4.is)
