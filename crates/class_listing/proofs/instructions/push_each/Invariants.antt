-- What was appended so far is what stands for the instructions before the index.
use Rattle.std.proofs.Common.{◌≡◌, ◌++◌, take}
use Rattle.std.specs.List.{flat_map}
use Rattle.class_listing.specs.Inner.ListingTexts.{placed_text}
use Rattle.class_listing.proofs.instructions.push_each.Given as goal

abbrev pub invariant-loop-placed : goal.invariant-loop-placed
invariant-loop-placed l = l.out.items ≡ l.initial.out.items ++ flat_map (placed_text l.code) (take l.placed-index l.instrs)
