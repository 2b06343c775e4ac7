use Rattle.type_rules.proofs.ArrayTexts.{component_text}
use Rattle.type_rules.proofs.arrays.element_type.Goals as goal

pub of_text-requires : goal.of_text-requires
of_text-requires c = component_text c.in-Some.ensures.some (rw c.bytes.ensures.same c.bytes.ensures.text)
