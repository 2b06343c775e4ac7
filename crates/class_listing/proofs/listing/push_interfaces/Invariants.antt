-- What was appended so far is what stands for the interfaces before the index.
use Rattle.std.proofs.Common.{◌≡◌, ◌++◌, take}
use Rattle.std.specs.List.{flat_map}
use Rattle.class_listing.specs.Inner.ListingTexts.{interface_text}
use Rattle.class_listing.proofs.listing.push_interfaces.Given as goal

abbrev pub invariant-loop-interface : goal.invariant-loop-interface
invariant-loop-interface l = l.out.items ≡ l.initial.out.items ++ flat_map interface_text (take l.interface-index l.interfaces)
