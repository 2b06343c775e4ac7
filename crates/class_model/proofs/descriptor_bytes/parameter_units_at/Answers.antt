use Rattle.std.proofs.Common.{refl}
use Rattle.class_model.proofs.DescriptorShapes.{at_parenthesis, no_units, too_many_units, read_type}
use Rattle.class_model.proofs.Variants.{if_none}
use Rattle.class_model.proofs.descriptor_bytes.parameter_units_at.Goals as goal

pub returns-in-Some-clause-some : goal.returns-in-Some-clause-some
returns-in-Some-clause-some c = at_parenthesis _ _ _ _ c.loop-after.invariant c.in-Some.ensures.some

pub returns-in_err-more-clause-none : goal.returns-in_err-more-clause-none
returns-in_err-more-clause-none c = if_none _ (no_units _ _ _ c.loop-after.invariant c.in_default.ensures.none c.in_err-more.ensures.none)

pub returns-then-units-gt-MAX_UNITS-clause-none : goal.returns-then-units-gt-MAX_UNITS-clause-none
returns-then-units-gt-MAX_UNITS-clause-none c = too_many_units _ _ _ c.loop-after.invariant c.in_default.ensures.none _ _ c.in_ok-more.ensures.some c.if-units-gt-MAX_UNITS.true

pub loop-after-preserved : goal.loop-after-preserved
loop-after-preserved c = read_type _ _ _ c.loop-after.invariant c.in_default.ensures.none _ _ c.in_ok-more.ensures.some _ refl c.if-units-gt-MAX_UNITS.false
