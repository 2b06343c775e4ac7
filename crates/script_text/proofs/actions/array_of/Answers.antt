-- The words of the line.
use Rattle.std.specs.Option.{option_copied}
use Rattle.script_text.specs.Scripts.{SpellsText}
use Rattle.script_text.specs.Inner.Reading.{words_left}
use Rattle.script_text.proofs.Taken.{took, took_none}
use Rattle.script_text.proofs.ActionLines.{array_again, array_desc, array_len}
use Rattle.script_text.proofs.actions.array_of.Goals as goal

pub returns-in_default : goal.returns-in_default
returns-in_default c = array_desc (took_none SpellsText (words_left (option_copied c.args.words)) c.in_ok-desc.field-0 c.in_ok-desc.ensures c.in_default.is)

pub returns-in-Some-last_int : goal.returns-in-Some-last_int
returns-in-Some-last_int c = array_again (took SpellsText (words_left (option_copied c.args.words)) c.in_ok-desc.field-0 _ c.in_ok-desc.ensures c.in-Some.is) c.in-Some-last_int.ensures

pub returns-in-None : goal.returns-in-None
returns-in-None c = array_len (took SpellsText (words_left (option_copied c.args.words)) c.in_ok-desc.field-0 _ c.in_ok-desc.ensures c.in-Some.is) c.in-None.ensures
