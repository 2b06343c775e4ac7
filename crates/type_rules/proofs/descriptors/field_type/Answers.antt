use Rattle.type_rules.proofs.TypeTexts.{name_of_class}
use Rattle.type_rules.proofs.descriptors.field_type.Goals as goal

pub class_type-requires : goal.class_type-requires
class_type-requires c = name_of_class c.args.desc.now c.bytes.result.now c.in-Some.rest.now c.in-Some.first.now c.requires c.bytes.ensures.text c.bytes.ensures.same c.in-Some.ensures.cases.0 c.in-76.is
