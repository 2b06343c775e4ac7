use Rattle.std.proofs.Common.{arith}
use Rattle.class_model.specs.declared.frame.VType.TheVariants.{Top}
use Rattle.inline_expand.proofs.Overlays.{written-alike}
use Rattle.inline_expand.proofs.expanded.frames.written_units.Goals as goal

pub returns-then-len-saturating_sub-clause-same : goal.returns-then-len-saturating_sub-clause-same
returns-then-len-saturating_sub-clause-same c = λ f same.
    written-alike f Top c.args.own.now c.args.below.now c.args.unit c.listed-then-len-saturating_sub.result c.listed.result c.min.result same
    c.listed-then-len-saturating_sub.ensures.tops c.listed.ensures.tops
    (omega (arith, c.min.ensures, c.len-then-len-saturating_sub.ensures))
    (λ less. (
      omega (arith, less, c.min.ensures, c.max.ensures, c.len-then-len-saturating_sub.ensures),
      omega (arith, less, c.min.ensures, c.max.ensures, c.saturating_sub-listed.ensures, c.len-then-len-saturating_sub.ensures),
      omega (arith, less, c.min.ensures, c.if-len-saturating_sub.true, c.saturating_sub.ensures, c.len.ensures, c.len-2.ensures),
    ))
