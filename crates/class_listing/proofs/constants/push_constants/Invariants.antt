-- What was appended so far is what stands for the constants before the index.
use Rattle.std.proofs.Common.{◌≡◌, ◌++◌, take}
use Rattle.class_listing.specs.Inner.ListingTexts.{entries_text}
use Rattle.class_listing.proofs.constants.push_constants.Given as goal

abbrev pub invariant-loop-index : goal.invariant-loop-index
invariant-loop-index l = l.out.items ≡ l.initial.out.items ++ entries_text 0 (take l.index l.pool)
