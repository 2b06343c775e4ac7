use Rattle.std.proofs.Common.{[]}
use Rattle.class_model.proofs.ArrayDimensions.{has_dimensions, no_dimensions, nothing_left, no_whole}
use Rattle.class_model.proofs.descriptor_bytes.dimensions.Goals as goal

pub returns-in-Some-clause-some : goal.returns-in-Some-clause-some
returns-in-Some-clause-some c =
    has_dimensions c.args.bytes.now c.after_brackets-element.result.now c.in-Some.rest.now c.after_brackets-element.ensures c.in-Some.ensures.some
    (nothing_left c.in-Some.rest.now c.is_empty.result c.is_empty.ensures c.if-is_empty.true)

pub returns-in_default-clause-none : goal.returns-in_default-clause-none
returns-in_default-clause-none c =
    no_dimensions c.args.bytes.now c.after_brackets-element.result.now c.after_brackets-element.ensures
    (no_whole c.after_brackets-element.result.now c.in-Some.rest.now c.is_empty.result c.in-Some.ensures.some c.is_empty.ensures c.if-is_empty.false)

pub returns-in_default-2-clause-none : goal.returns-in_default-2-clause-none
returns-in_default-2-clause-none c =
    no_dimensions c.args.bytes.now c.after_brackets-element.result.now c.after_brackets-element.ensures (rw c.in_default.is at c.after_element.ensures.none [])
