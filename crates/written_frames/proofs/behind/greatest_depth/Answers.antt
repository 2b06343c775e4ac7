use Rattle.std.proofs.Common.{◌≤◌, ◌∙◌, List, ap, subst, sym}
use Rattle.class_model.specs.Frames.{depth}
use Rattle.class_model.specs.declared.frame.VType.{VType}
use Rattle.written_frames.proofs.Depths.{deepest_fits, deepest_more}
use Rattle.written_frames.proofs.behind.greatest_depth.Goals as goal

pub depth-requires : goal.depth-requires
depth-requires c =
    let typed = c.in-Some.typed.now in
    subst (λ (list : List VType). depth list ≤ 65535) (sym c.as_slice.ensures)
    (deepest_fits c.args.flat.now.points c.loop-at.at c.loop-at.greatest typed c.in-Some.ensures c.loop-at.invariant)

pub loop-at-preserved : goal.loop-at-preserved
loop-at-preserved c =
    let typed = c.in-Some.typed.now in
    deepest_more c.args.flat.now.points c.loop-at.at c.loop-at.greatest c.depth.result c.greater-greatest.result typed c.in-Some.ensures
    (c.depth.ensures ∙ ap depth c.as_slice.ensures) c.greater-greatest.ensures c.loop-at.invariant
