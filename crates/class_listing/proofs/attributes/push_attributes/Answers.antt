-- What holds of each holds of this one.
use Rattle.code_bytes.specs.Codes.{HasInstrs}
use Rattle.class_listing.proofs.ReadInstrs.{one_of}
use Rattle.class_listing.proofs.attributes.push_attributes.Goals as goal

pub push_attribute-requires : goal.push_attribute-requires
push_attribute-requires c = one_of HasInstrs _ _ _ c.requires c.loop-attr-test.true c.attr-item.is
