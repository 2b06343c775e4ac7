use Rattle.std.proofs.Common.{length}
use Rattle.cases_command.proofs.base_library.+are_small.Given as goal

abbrev pub decreases-are_small : goal.decreases-are_small
decreases-are_small l = length l.methods.now
