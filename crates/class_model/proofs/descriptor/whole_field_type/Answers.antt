use Rattle.class_model.proofs.DescriptorGrammar.{type_at_whole, only_whole}
use Rattle.class_model.proofs.Variants.{passed_on}
use Rattle.class_model.proofs.descriptor.whole_field_type.Goals as goal

pub returns-in_err-field_type-clause-bad_name : goal.returns-in_err-field_type-clause-bad_name
returns-in_err-field_type-clause-bad_name c = λ bad type spells. c.in_err-field_type.ensures.bad_name (passed_on _ _ _ c.from_residual.ensures.1 bad) type _ (type_at_whole _ _ spells)

pub returns-else-is_empty-clause-bad_name : goal.returns-else-is_empty-clause-bad_name
returns-else-is_empty-clause-bad_name c = λ bad. only_whole _ _ _ _ c.in_ok-field_type.ensures.read c.is_empty.ensures c.if-is_empty.false
