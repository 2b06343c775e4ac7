use Rattle.std.proofs.Common.{◌≡◌, take}
use Rattle.class_rewrite.specs.Inner.MadeSites.{classes_of}
use Rattle.class_rewrite.proofs.made_sites.names_of.Given as goal

abbrev pub invariant-loop-number : goal.invariant-loop-number
invariant-loop-number l = l.names ≡ classes_of l.sites (take l.number-index l.numbers)
