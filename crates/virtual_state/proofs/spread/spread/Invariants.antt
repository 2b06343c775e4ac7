use Rattle.std.proofs.Common.{◌-◌}
use Rattle.virtual_state.proofs.Spreading.{IsSpreading}
use Rattle.virtual_state.proofs.spread.spread.Given as goal

abbrev pub invariant-loop-at : goal.invariant-loop-at
invariant-loop-at l = IsSpreading l.initial.sites l.one l.other l.at l.sites

abbrev pub decreases-loop-at : goal.decreases-loop-at
decreases-loop-at l = 65536 - l.at
