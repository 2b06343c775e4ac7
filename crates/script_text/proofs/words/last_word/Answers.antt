-- What is left behind a space is one more word at least.
use Rattle.std.proofs.Common.{ap}
use Rattle.std.specs.Option.{option_copied}
use Rattle.script_text.proofs.Pieces.{two_words}
use Rattle.script_text.proofs.words.last_word.Goals as goal

pub returns-in-Some-rest-clause-none : goal.returns-in-Some-rest-clause-none
returns-in-Some-rest-clause-none c = two_words _ _ _ (option_copied c.in-Some.rest) c.in-Some.ensures.some (ap option_copied c.in-Some-rest.is)
