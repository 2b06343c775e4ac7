use Rattle.class_model.proofs.DescriptorGrammar.{name_before, no_semicolon}
use Rattle.class_model.proofs.Variants.{if_none}
use Rattle.class_model.proofs.descriptor.class_name_at.Goals as goal

pub returns-in_err-end-clause-none : goal.returns-in_err-end-clause-none
returns-in_err-end-clause-none c = if_none _ (no_semicolon _ c.in_err-end.ensures.none)

pub returns-else-is_class_name-clause-none : goal.returns-else-is_class_name-clause-none
returns-else-is_class_name-clause-none c = λ name rest at.
    let found = c.in_ok-end.ensures in
    let is_name = c.is_class_name.ensures.1 (name_before _ _ found.within found.found found.before name rest at) in
    absurd (cc (is_name, c.if-is_class_name.false))
