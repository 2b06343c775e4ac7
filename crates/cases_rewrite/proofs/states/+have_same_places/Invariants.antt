use Rattle.std.proofs.Common.{length}
use Rattle.cases_rewrite.proofs.states.+have_same_places.Given as goal

abbrev pub decreases-have_same_places : goal.decreases-have_same_places
decreases-have_same_places l = length l.slots.now
