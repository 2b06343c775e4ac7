use Rattle.std.proofs.Common.{◌≡◌, take}
use Rattle.inline_expand.proofs.expanded.places.under.Given as goal

abbrev pub invariant-loop-entry : goal.invariant-loop-entry
invariant-loop-entry l = l.below.items ≡ take l.entry-index l.entry-items
