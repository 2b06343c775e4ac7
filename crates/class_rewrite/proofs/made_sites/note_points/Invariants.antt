use Rattle.class_rewrite.specs.Inner.MadeSites.{IsNoted, made_to}
use Rattle.class_rewrite.proofs.made_sites.note_points.Given as goal

abbrev pub invariant-loop-at : goal.invariant-loop-at
invariant-loop-at l = IsNoted l.fn.making (made_to l.at l.plan) l.making
