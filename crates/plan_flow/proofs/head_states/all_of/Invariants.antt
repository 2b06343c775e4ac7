use Rattle.std.proofs.Common.{◌≡◌, ◌-◌, length, take}
use Rattle.plan_flow.proofs.head_states.all_of.Given as goal

abbrev pub invariant-loop-state : goal.invariant-loop-state
invariant-loop-state l = l.copies.items ≡ take l.number l.states

abbrev pub decreases-loop-state : goal.decreases-loop-state
decreases-loop-state l = length l.states - l.number
