use Rattle.std.proofs.Common.{◌∙◌}
use Rattle.class_rewrite.proofs.ClearedFields.{cleared_next}
use Rattle.class_rewrite.proofs.marked_fields.cleared_fields.Goals as goal

pub loop-number-preserved : goal.loop-number-preserved
loop-number-preserved c =
    c.in_ok-push.ensures.ok
    ∙ cleared_next c.args.finals.now c.args.privates.now c.args.fields.now c.loop-number.cleared c.loop-number.number c.index-fields-number.result
    c.in_ok-cleared_field.field-0 c.has.result c.has-in-loop-number.result c.loop-number-test.true c.index-fields-number.is c.has.ensures
    c.has-in-loop-number.ensures c.in_ok-cleared_field.ensures c.loop-number.invariant
