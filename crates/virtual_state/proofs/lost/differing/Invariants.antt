use Rattle.virtual_state.proofs.LostSites.{AreLostBelow}
use Rattle.virtual_state.proofs.lost.differing.Given as goal

abbrev pub invariant-loop-site : goal.invariant-loop-site
invariant-loop-site l = AreLostBelow l.sites l.state.objects l.other.objects l.site
