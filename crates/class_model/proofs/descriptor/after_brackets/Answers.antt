use Rattle.std.proofs.Common.{suc, ◌∙◌}
use Rattle.class_model.proofs.DescriptorGrammar.{more_brackets}
use Rattle.class_model.proofs.descriptor.after_brackets.Goals as goal

pub loop-after-preserved : goal.loop-after-preserved
loop-after-preserved c =
    let before = c.loop-after.invariant in
    (suc before.0, before.1 ∙ more_brackets before.0 _ _ c.in-Some.ensures.some)
