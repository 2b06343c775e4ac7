use Rattle.std.proofs.Common.{◌≡◌, ◌+◌, drop, arith}
use Rattle.std.proofs.Common.{List, ap, ◌∙◌}
use Rattle.class_model.specs.Frames.{depth}
use Rattle.class_model.specs.declared.frame.VType.{VType}
use Rattle.flow_code.specs.WrittenUnits.{greatest_depth}
use Rattle.inline_expand.proofs.WideParts.{deepest-more, next-depth}
use Rattle.inline_expand.proofs.expanded.wide.greatest_depth.Goals as goal
use Rattle.inline_expand.specs.Inner.WideWords.{counted}

pub loop-at-preserved : goal.loop-at-preserved
loop-at-preserved c =
    let points = c.args.flat.now.points in
    let at = c.loop-at.at in
    let typed = c.in-Some.typed.now in
    let next = next-depth points at typed c.in-Some.ensures in
    let own : c.depth.result ≡ counted (depth typed.stack) = c.depth.ensures ∙ ap (λ (entries : List VType). counted (depth entries)) c.as_slice.ensures in
    record {
      few = omega (arith, c.greater-greatest.ensures, own, c.loop-at.invariant.few);
      all = deepest-more c.loop-at.greatest c.depth.result c.greater-greatest.result (depth typed.stack) (greatest_depth (drop (at + 1) points)) (greatest_depth (drop at points)) (greatest_depth points) c.greater-greatest.ensures own next c.loop-at.invariant.all;
    }
