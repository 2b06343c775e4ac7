use Rattle.code_bytes.proofs.ChosenBytes.{chosen_written, written_chosen}
use Rattle.code_bytes.proofs.spelling_laws.the_chosen_spelling_is_of_the_table.Goals as goal

pub returns-clause-table : goal.returns-clause-table
returns-clause-table c = chosen_written

pub returns-clause-chosen : goal.returns-clause-chosen
returns-clause-chosen c = written_chosen
