-- Both commands are read off the one list of parts that the words are cut into.
use Rattle.pea_top.proofs.WordGrammar.{same_command}
use Rattle.pea_top.proofs.laws.words_spell_one_command.Goals as goal

pub returns : goal.returns
returns c = same_command
