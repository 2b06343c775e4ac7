use Rattle.virtual_state.specs.Inner.Agreement.{HasMarkedObjects}
use Rattle.virtual_state.proofs.merge.mark_objects.Given as goal

abbrev pub invariant-loop-site : goal.invariant-loop-site
invariant-loop-site l = HasMarkedObjects l.fn.away l.away l.objects l.others l.site
