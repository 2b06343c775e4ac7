-- What was appended so far is what stands for the attributes before the index.
use Rattle.std.proofs.Common.{◌≡◌, ◌++◌, take}
use Rattle.class_listing.specs.Inner.ListingTexts.{attrs_text}
use Rattle.class_listing.proofs.attributes.push_attributes.Given as goal

abbrev pub invariant-loop-attr : goal.invariant-loop-attr
invariant-loop-attr l = l.out.items ≡ l.initial.out.items ++ attrs_text (take l.attr-index l.attrs)
