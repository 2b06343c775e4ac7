use Rattle.code_bytes.proofs.ChosenBytes.{one_chosen}
use Rattle.code_bytes.proofs.laws.one_chosen_spelling.Goals as goal

pub returns : goal.returns
returns c = one_chosen
