use Rattle.std.proofs.Common.{take}
use Rattle.materialise.proofs.NextSites.{NoneSoFar}
use Rattle.materialise.proofs.ordering.next_site.Given as goal

abbrev pub invariant-loop-site : goal.invariant-loop-site
invariant-loop-site l = NoneSoFar l.state.objects l.sites l.made (take l.site-index l.site-items)
