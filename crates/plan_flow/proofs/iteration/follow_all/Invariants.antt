use Rattle.std.proofs.Common.{◌-◌, List, Option, length, take}
use Rattle.plan_flow.specs.Inner.Blocks.{AreFollowedBy, AreStartedBy}
use Rattle.plan_flow.proofs.iteration.follow_all.Given as goal
use Rattle.virtual_state.specs.States.{State}

abbrev pub invariant-loop-edge : goal.invariant-loop-edge
invariant-loop-edge l = (all : List (Option State))
    → AreStartedBy l.tree l.flat l.initial.states all l.edges
    → AreFollowedBy l.tree l.flat l.initial.states l.states all l.initial.work l.work (take l.number l.edges) l.new

abbrev pub decreases-loop-edge : goal.decreases-loop-edge
decreases-loop-edge l = length l.edges - l.number
