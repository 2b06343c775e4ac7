use Rattle.class_rewrite.proofs.GivenConstructors.{descriptors_given}
use Rattle.class_rewrite.proofs.method_laws.field_constructors_have_descriptors.Goals as goal

pub returns : goal.returns
returns c = λ classes. descriptors_given classes
