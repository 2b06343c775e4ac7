use Rattle.std.proofs.Common.{◌≡◌, ◌+◌, ◌-◌, ◌*◌, length}
use Rattle.inline_expand.proofs.GrownSteps.{SoFar}
use Rattle.inline_expand.specs.Inner.Growths.{HasGrown}
use Rattle.inline_expand.specs.Inner.Places.{chain_of, host_of}
use Rattle.inline_expand.specs.Inner.Steps.{callees_of}
use Rattle.member_link.specs.Scope.{instructions}
use Rattle.inline_expand.proofs.expansions.+expansion.Given as goal

abbrev pub decreases-replace : goal.decreases-replace
decreases-replace l = 3 * (8 - length l.place.line.now)

abbrev pub decreases-step_at : goal.decreases-step_at
decreases-step_at l = 3 * (8 - length l.place.line.now) + 1

abbrev pub decreases-steps_of : goal.decreases-steps_of
decreases-steps_of l = 3 * (8 - length l.place.line.now) + 2

abbrev pub invariant-steps_of-loop-number : goal.invariant-steps_of-loop-number
invariant-steps_of-loop-number l = record {
  far : SoFar l.place.class.tree.now l.place.class.typed.now (host_of l.place.line.now) (chain_of l.place.line.now) l.method.at (instructions l.method.host)
      l.number (callees_of l.growth.bodies.items) l.steps l.fn.growth.left l.growth.left;
  grown : HasGrown l.place.class l.fn.growth l.growth;
  classes : l.candidates ≡ l.fn.candidates;
}
