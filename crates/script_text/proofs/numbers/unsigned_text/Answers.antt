-- A number in decimal is UTF-8.
use Rattle.script_text.proofs.Numerals.{numeral_is_text}
use Rattle.script_text.proofs.numbers.unsigned_text.Goals as goal

pub returns-in-Err-clause-none : goal.returns-in-Err-clause-none
returns-in-Err-clause-none c = λ digits. c.in-Err.ensures.cases.0 (numeral_is_text c.args.word.now digits)
