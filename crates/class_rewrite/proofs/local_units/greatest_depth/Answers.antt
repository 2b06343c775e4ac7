use Rattle.std.proofs.Common.{◌∙◌, List, ap, min}
use Rattle.class_model.specs.Frames.{depth}
use Rattle.class_model.specs.declared.frame.VType.{VType}
use Rattle.class_rewrite.proofs.LocalUnits.{deepest_more}
use Rattle.class_rewrite.proofs.local_units.greatest_depth.Goals as goal

pub loop-at-preserved : goal.loop-at-preserved
loop-at-preserved c =
    deepest_more c.args.flat.now.points c.loop-at.at c.loop-at.greatest c.depth_of.result c.greater-greatest.result c.in-Some.types.now c.in-Some.ensures
    (c.depth_of.ensures ∙ ap (λ (entries : List VType). min (depth entries) 65535) c.as_slice.ensures) c.greater-greatest.ensures c.loop-at.invariant
