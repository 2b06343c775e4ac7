-- When two programs run the same: for each list of actions they show the same events and the same end, the one goes on exactly where the
-- other goes on, and at each event the second has allocated no more objects and entered no more monitors.
use Rattle.std.specs.Prelude.{◌≡◌, ◌≤◌, ℕ, List, [], ◌∷◌}
use Rattle.machine_values.specs.declared.action.Action.{Action}
use Rattle.machine_values.specs.declared.event.Event.{Event}
use Rattle.machine_values.specs.declared.event.Shown.{Shown}
use Rattle.member_link.specs.Machine.Programs.{Program}
use Rattle.member_link.specs.Machine.Runs.{shown_after}

-- two events are equal but for the two counts, which the second may have lower
pub record IsSameEvent (one other : Event) : Type 0 where
  pub kind : other.kind ≡ one.kind
  pub monitors : other.monitors ≡ one.monitors
  pub allocations : other.allocations ≤ one.allocations
  pub entries : other.entries ≤ one.entries

abbrev pub AreSameEvents : List Event → List Event → Type 0
AreSameEvents [] [] = Unit {0}
AreSameEvents (one ∷ ones) (other ∷ others) = IsSameEvent one other × AreSameEvents ones others
AreSameEvents ones others = ⊥

pub record IsSameShown (one other : Shown) : Type 0 where
  pub events : AreSameEvents one.events other.events
  pub end : other.end ≡ one.end

-- what the first shows after any number of steps the second shows after some number, and the other way round
pub record RunsSame (P Q : Program) (actions : List Action) : Type 0 where
  pub forth :
      (count : ℕ)
      → (other : ℕ) × IsSameShown (shown_after P actions count) (shown_after Q actions other)
  pub back :
      (other : ℕ)
      → (count : ℕ) × IsSameShown (shown_after P actions count) (shown_after Q actions other)

abbrev pub SameRuns : Program → Program → Type 0
SameRuns P Q = (actions : List Action) → RunsSame P Q actions
