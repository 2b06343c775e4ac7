use Rattle.std.proofs.Common.{◌≡◌, map, take}
use Rattle.virtual_state.specs.Gaps.{true_from}
use Rattle.virtual_state.specs.States.{is_unusable}
use Rattle.virtual_state.proofs.listed.gaps_among.Given as goal

abbrev pub invariant-loop-at : goal.invariant-loop-at
invariant-loop-at l = l.gaps.items ≡ true_from 0 (map is_unusable (take l.at l.slots))
