-- States of one point while the least plan is found.
use Rattle.std.specs.Prelude.{◌≡◌, ℕ, List, [], drop, length, Option, Some, IsFalse}
use Rattle.flow_code.specs.FlatCode.{FlatCode}
use Rattle.flow_code.specs.declared.point.Point.{Point}
use Rattle.plan_flow.specs.Must.{IsMustOf}
use Rattle.plan_flow.specs.PlanScope.{PlanScope, local_types, stack_types}
use Rattle.plan_flow.specs.PlanSlots.{beneath_top}
use Rattle.plan_flow.specs.Plans.{HasPlainBeneathTop, IsStateAt}
use Rattle.virtual_state.specs.Orders.{IsBelow}
use Rattle.virtual_state.specs.States.{State, names}
use Rattle.virtual_state.specs.declared.slot.Slot.{Slot}

-- the state in which the instruction is done: the least one above in which it asks for no object
pub record IsLeft (s : PlanScope) (at : ℕ) (point : Point) (state left : State) : Type 0 where
  pub below : IsBelow state left
  pub must : IsMustOf s at point left []
  pub least :
      (other : State) → IsBelow state other → IsMustOf s at point other [] → IsBelow left other

-- what the target of an edge must be, if this is the state behind the edge
pub record IsTarget (s : PlanScope) (at : ℕ) (behind state : State) : Type 0 where
  pub below : IsBelow behind state
  pub beneath : HasPlainBeneathTop s at state

-- The least state of a target that is above the one behind an edge, and above the one that the target has, if it has one.
pub record IsRaised (s : PlanScope) (to : ℕ) (behind : State) (old : Option State) (above : State)
    : Type 0 where
  pub at : IsStateAt s to above
  pub below : IsBelow behind above
  pub above_old : (state : State) → old ≡ Some state → IsBelow state above
  pub beneath : HasPlainBeneathTop s to above
  pub least : (target : State)
      → IsBelow behind target
      → HasPlainBeneathTop s to target
      → ((state : State) → old ≡ Some state → IsBelow state target)
      → IsBelow above target

-- The least state above the one behind an edge and the one that a point has, if it has one.
pub record IsJoined (behind : State) (old : Option State) (joined : State) : Type 0 where
  pub below : IsBelow behind joined
  pub above_old : (state : State) → old ≡ Some state → IsBelow state joined
  pub least : (target : State)
      → IsBelow behind target
      → ((state : State) → old ≡ Some state → IsBelow state target)
      → IsBelow joined target

-- the slots of a point's stack entries at or below one whose type is Top
abbrev pub slots_beneath : FlatCode → ℕ → State → List Slot
slots_beneath flat at state =
    beneath_top (stack_types flat at) (drop (length (local_types flat at)) state.slots)

-- The least state above another one in which they hold no virtual object.
pub record IsCleaned (flat : FlatCode) (at : ℕ) (state clean : State) : Type 0 where
  pub below : IsBelow state clean
  pub beneath : (site : ℕ) → IsFalse (names (slots_beneath flat at clean) site)
  pub least : (target : State)
      → IsBelow state target
      → ((site : ℕ) → IsFalse (names (slots_beneath flat at target) site))
      → IsBelow clean target
