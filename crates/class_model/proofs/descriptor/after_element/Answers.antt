use Rattle.std.proofs.Common.{◌∙◌, sym, ap, is_some, arith}
use Rattle.class_model.proofs.DescriptorGrammar.{element_of_class, element_of_base, no_element, no_class}
use Rattle.class_model.proofs.Variants.{if_none}
use Rattle.class_model.proofs.descriptor.after_element.Goals as goal

pub returns-in_err-rest-in-76-clause-none : goal.returns-in_err-rest-in-76-clause-none
returns-in_err-rest-in-76-clause-none c = if_none _ (no_class _ _ (cc (c.in_ok-first.ensures.cases.0, c.in-76.is)) c.in_err-rest-in-76.ensures.none)

pub returns-in_ok-rest-in-76-clause-some : goal.returns-in_ok-rest-in-76-clause-some
returns-in_ok-rest-in-76-clause-some c = element_of_class _ _ _ _ (cc (c.in_ok-first.ensures.cases.0, c.in-76.is)) c.in_ok-rest-in-76.ensures.some

pub returns-in_default-clause-some : goal.returns-in_default-clause-some
returns-in_default-clause-some c = element_of_base _ _ _ _ c.in_ok-first.ensures.cases.0 c.base_type.ensures (sym c.if-is_some.ensures)

pub returns-in_default-2-clause-none : goal.returns-in_default-2-clause-none
returns-in_default-2-clause-none c = no_element _ _ c.in_ok-first.first.now c.in_ok-first.ensures.cases.0 (λ e. omega arith) (ap is_some (sym c.base_type.ensures) ∙ sym c.is_some.ensures ∙ c.if-is_some.false)
