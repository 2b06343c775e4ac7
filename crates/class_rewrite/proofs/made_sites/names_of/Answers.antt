use Rattle.std.proofs.Common.{◌∙◌, ap, arith, take_all}
use Rattle.class_rewrite.proofs.made_sites.names_of.Goals as goal
use Rattle.class_rewrite.specs.Inner.MadeSites.{classes_of}

pub returns : goal.returns
returns c =
    c.loop-number.invariant ∙ ap (classes_of c.args.sites.now) (take_all c.loop-number.number-index c.args.numbers.now (omega arith))
