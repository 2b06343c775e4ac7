-- What was appended so far is what stands for the methods before the index.
use Rattle.std.proofs.Common.{◌≡◌, ◌++◌, take}
use Rattle.std.specs.List.{flat_map}
use Rattle.class_listing.specs.Inner.ListingTexts.{method_text}
use Rattle.class_listing.proofs.members.push_methods.Given as goal

abbrev pub invariant-loop-method : goal.invariant-loop-method
invariant-loop-method l = l.out.items ≡ l.initial.out.items ++ flat_map method_text (take l.method-index l.methods)
