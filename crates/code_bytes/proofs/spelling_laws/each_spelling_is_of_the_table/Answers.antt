use Rattle.code_bytes.proofs.AllSpellings.{spelling_spells, spelling_found}
use Rattle.code_bytes.proofs.spelling_laws.each_spelling_is_of_the_table.Goals as goal

pub returns-clause-spells : goal.returns-clause-spells
returns-clause-spells c = spelling_spells

pub returns-clause-all : goal.returns-clause-all
returns-clause-all c = spelling_found
