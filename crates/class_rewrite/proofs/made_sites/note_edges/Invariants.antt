use Rattle.std.proofs.Common.{take}
use Rattle.class_rewrite.specs.Inner.MadeSites.{IsNoted, edges_behind, made_on}
use Rattle.class_rewrite.proofs.made_sites.note_edges.Given as goal
use Rattle.plan_flow.specs.Plans.{planned}

abbrev pub invariant-loop-number : goal.invariant-loop-number
invariant-loop-number l = IsNoted l.fn.making (made_on (take l.number (edges_behind (planned l.plan l.at)))) l.making
