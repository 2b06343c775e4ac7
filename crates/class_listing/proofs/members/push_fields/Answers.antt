-- What holds of each holds of this one, and one more is appended.
use Rattle.class_listing.specs.Inner.ListingTexts.{field_text}
use Rattle.class_listing.specs.Listings.{FieldCodes}
use Rattle.class_listing.proofs.PushedTexts.{one_more}
use Rattle.class_listing.proofs.ReadInstrs.{one_of}
use Rattle.class_listing.proofs.members.push_fields.Goals as goal

pub push_field-requires : goal.push_field-requires
push_field-requires c = one_of FieldCodes _ _ _ c.requires c.loop-field-test.true c.field-item.is

pub loop-field-preserved : goal.loop-field-preserved
loop-field-preserved c =
    one_more field_text c.args.fields.now c.loop-field.field-index c.field-item.result c.args.out.now.items c.loop-field.out.items c.push_field.new.out.items c.loop-field-test.true c.field-item.is c.loop-field.invariant c.in_ok-push_field.ensures
