use Rattle.std.proofs.Common.{inl, inr}
use Rattle.class_model.proofs.DescriptorGrammar.{bad_count, some_array, no_array}
use Rattle.class_model.proofs.descriptor.after_array.Goals as goal

pub returns-then-dimensions-eq0-clause-none : goal.returns-then-dimensions-eq0-clause-none
returns-then-dimensions-eq0-clause-none c = bad_count _ _ c.after_brackets-element.ensures (elim c.then-dimensions-eq0.either [ inl none ↦ inl none | inr many ↦ inr many.1 ])

pub returns-clause-some : goal.returns-clause-some
returns-clause-some c = some_array _ _ c.after_brackets-element.ensures c.if-dimensions-eq0.false c.if-dimensions-gt-MAX_DIMENSIONS.false _ c.after_element.ensures.some

pub returns-clause-none : goal.returns-clause-none
returns-clause-none c = no_array _ _ c.after_brackets-element.ensures _ c.after_element.ensures.none
