use Rattle.std.proofs.Common.{take}
use Rattle.class_rewrite.specs.Inner.MadeSites.{IsNoted}
use Rattle.class_rewrite.proofs.made_sites.note_sites.Given as goal

abbrev pub invariant-loop-site : goal.invariant-loop-site
invariant-loop-site l = IsNoted l.fn.making (take l.site-index l.sites) l.making
