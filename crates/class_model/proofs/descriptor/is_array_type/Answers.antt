use Rattle.class_model.proofs.DescriptorGrammar.{at_whole, decides_array}
use Rattle.class_model.proofs.descriptor.is_array_type.Goals as goal

pub returns-in-Some : goal.returns-in-Some
returns-in-Some c = let found = c.in-Some.ensures.some in decides_array _ _ _ _ found.1 c.is_empty.ensures

pub returns-in-None : goal.returns-in-None
returns-in-None c = (λ e. absurd cc, λ array. absurd (c.in-None.ensures.none _ _ (at_whole _ array)))
