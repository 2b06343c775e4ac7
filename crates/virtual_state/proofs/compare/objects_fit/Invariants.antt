use Rattle.std.proofs.Common.{ℕ, ◌<◌}
use Rattle.virtual_state.specs.Inner.Comparing.{ObjectFits}
use Rattle.virtual_state.specs.States.{object_of}
use Rattle.virtual_state.proofs.compare.objects_fit.Given as goal

abbrev pub invariant-loop-site : goal.invariant-loop-site
invariant-loop-site l = (site : ℕ) → site < l.site → ObjectFits l.others (object_of l.objects site) (object_of l.others site)
