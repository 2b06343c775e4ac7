use Rattle.std.proofs.Common.{◌+◌, refl, arith}
use Rattle.std.proofs.lemmas.Bool.{false≢true}
use Rattle.inline_expand.proofs.FieldLists.{units_more, units_part, units_whole}
use Rattle.inline_expand.proofs.candidates.are_narrow.Goals as goal

pub loop-field-preserved : goal.loop-field-preserved
loop-field-preserved c =
    let more = units_more c.args.fields.now c.loop-field.field-index c.field-item.result c.loop-field-test.true c.field-item.is in
    (omega (arith, more, c.loop-field.invariant.0, c.units_of-units.ensures.same), c.if-units-gt-MOST_UNITS.false)

pub overflow_add-units : goal.overflow_add-units
overflow_add-units c = omega (arith, c.loop-field.invariant.1, c.units_of-units.ensures.few)

pub returns-then-units-gt-MOST_UNITS : goal.returns-then-units-gt-MOST_UNITS
returns-then-units-gt-MOST_UNITS c =
    let more = units_more c.args.fields.now c.loop-field.field-index c.field-item.result c.loop-field-test.true c.field-item.is in
    let part = units_part c.args.fields.now (c.loop-field.field-index + 1) in
    (λ is. absurd (false≢true is), λ narrow. absurd (omega (arith, narrow, more, part, c.loop-field.invariant.0, c.units_of-units.ensures.same, c.if-units-gt-MOST_UNITS.true)))

pub returns : goal.returns
returns c =
    let whole = units_whole c.args.fields.now c.loop-field.field-index c.loop-field-test.false in
    (λ is. omega (arith, whole, c.loop-field.invariant.0, c.loop-field.invariant.1), λ narrow. refl)
