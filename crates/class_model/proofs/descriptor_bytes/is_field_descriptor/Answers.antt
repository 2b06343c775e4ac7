use Rattle.class_model.proofs.DescriptorShapes.{decides_type, no_descriptor}
use Rattle.class_model.proofs.descriptor_bytes.is_field_descriptor.Goals as goal

pub returns-in-Some : goal.returns-in-Some
returns-in-Some c = decides_type _ _ _ _ c.in-Some.ensures.some c.is_empty.ensures

pub returns-in-None : goal.returns-in-None
returns-in-None c = no_descriptor _ c.in-None.ensures.none
