use Rattle.class_model.proofs.DescriptorGrammar.{only_front, type_of_array}
use Rattle.class_model.proofs.Variants.{passed_on}
use Rattle.class_model.proofs.descriptor.array_type_at.Goals as goal

pub returns-in_err-array-clause-bad_name : goal.returns-in_err-array-clause-bad_name
returns-in_err-array-clause-bad_name c = λ bad. let found = c.in-Some.ensures.some in only_front _ _ _ found.1 (c.in_err-array.ensures.bad_name (passed_on _ _ _ c.from_residual.ensures.1 bad))

pub returns-clause-read : goal.returns-clause-read
returns-clause-read c = let found = c.in-Some.ensures.some in type_of_array _ _ _ _ found.1 c.in_ok-array.ensures.read c.in_ok-array.ensures.text
