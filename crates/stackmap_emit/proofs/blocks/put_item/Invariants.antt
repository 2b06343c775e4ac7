use Rattle.std.proofs.Common.{◌≡◌, ◌-◌, ◌+◌, ℕ, length}
use Rattle.stackmap_emit.proofs.blocks.put_item.Given as goal
use Rattle.stackmap_emit.specs.Inner.PlacedUnits.{number_by}

abbrev pub invariant-loop-items : goal.invariant-loop-items
invariant-loop-items l =
    (at : ℕ) → number_by l.items.items l.other at ≡ number_by l.initial.items.items l.other at

abbrev pub decreases-loop-items : goal.decreases-loop-items
decreases-loop-items l = l.point + 1 - length l.items.items
