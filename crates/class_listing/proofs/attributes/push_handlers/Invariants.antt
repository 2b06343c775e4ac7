-- What was appended so far is what stands for the entries before the index.
use Rattle.std.proofs.Common.{◌≡◌, ◌++◌, take}
use Rattle.std.specs.List.{flat_map}
use Rattle.class_listing.specs.Inner.ListingTexts.{handler_text}
use Rattle.class_listing.proofs.attributes.push_handlers.Given as goal

abbrev pub invariant-loop-handler : goal.invariant-loop-handler
invariant-loop-handler l = l.out.items ≡ l.initial.out.items ++ flat_map handler_text (take l.handler-index l.handlers)
