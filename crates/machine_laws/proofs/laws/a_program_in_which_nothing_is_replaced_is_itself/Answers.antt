use Rattle.machine_laws.proofs.NothingReplaced.{nothing_replaced}
use Rattle.machine_laws.proofs.laws.a_program_in_which_nothing_is_replaced_is_itself.Goals as goal

pub returns : goal.returns
returns c = λ P r none. nothing_replaced r none P
