use Rattle.materialise.proofs.UnitLaws.{HasUnits}
use Rattle.materialise.proofs.units.first_units.Given as goal

abbrev pub invariant-loop-site : goal.invariant-loop-site
invariant-loop-site l = HasUnits l.first l.sites l.units.items l.unit l.site-index
