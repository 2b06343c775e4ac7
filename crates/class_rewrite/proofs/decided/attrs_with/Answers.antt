use Rattle.std.proofs.Common.{◌∙◌}
use Rattle.class_rewrite.proofs.AttrsWithCode.{part_more}
use Rattle.class_rewrite.proofs.decided.attrs_with.Goals as goal

pub loop-attr-preserved : goal.loop-attr-preserved
loop-attr-preserved c =
    c.in_ok-push.ensures.ok
    ∙ part_more c.args.part.now c.args.attrs.now c.loop-attr.written c.loop-attr.attr-index c.attr-item.result _ c.loop-attr-test.true c.attr-item.is c.loop-attr.invariant c.in_ok-attr_with.ensures
