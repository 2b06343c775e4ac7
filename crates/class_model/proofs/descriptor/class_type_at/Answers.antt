use Rattle.class_model.proofs.DescriptorGrammar.{only_name, type_of_class}
use Rattle.class_model.proofs.Variants.{passed_on}
use Rattle.class_model.proofs.descriptor.class_type_at.Goals as goal

pub returns-in_err-class-clause-bad_name : goal.returns-in_err-class-clause-bad_name
returns-in_err-class-clause-bad_name c = λ bad. only_name _ _ _ c.in-Some.ensures.some (c.in_err-class.ensures.bad_name (passed_on _ _ _ c.from_residual.ensures.1 bad))

pub returns-clause-read : goal.returns-clause-read
returns-clause-read c = type_of_class _ _ _ _ c.in-Some.ensures.some c.in_ok-class.ensures.read c.in_ok-class.ensures.text
