use Rattle.machine_laws.proofs.StackRuns.{entries_move, jumps_are_taken}
use Rattle.machine_laws.proofs.cases.programs_show_what_the_stack_holds.Goals as goal

pub returns-clause-entries : goal.returns-clause-entries
returns-clause-entries c = entries_move

pub returns-clause-jumps : goal.returns-clause-jumps
returns-clause-jumps c = jumps_are_taken
