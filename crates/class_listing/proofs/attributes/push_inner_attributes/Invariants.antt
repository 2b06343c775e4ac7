-- What was appended so far is what stands for the attributes before the index.
use Rattle.std.proofs.Common.{◌≡◌, ◌++◌, take}
use Rattle.std.specs.List.{flat_map}
use Rattle.class_listing.specs.Inner.ListingTexts.{inner_attr_text}
use Rattle.class_listing.proofs.attributes.push_inner_attributes.Given as goal

abbrev pub invariant-loop-attr : goal.invariant-loop-attr
invariant-loop-attr l = l.out.items ≡ l.initial.out.items ++ flat_map inner_attr_text (take l.attr-index l.attrs)
