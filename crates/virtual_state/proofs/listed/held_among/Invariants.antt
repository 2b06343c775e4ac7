use Rattle.std.proofs.Common.{◌≡◌, take}
use Rattle.std.specs.List.{filter}
use Rattle.virtual_state.specs.Inner.Listed.{holds_object}
use Rattle.virtual_state.proofs.listed.held_among.Given as goal

abbrev pub invariant-loop-at : goal.invariant-loop-at
invariant-loop-at l = l.held.items ≡ filter holds_object (take l.at l.slots)
