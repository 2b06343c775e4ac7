-- When two programs show quite the same: the same events with equal counts, and the same end. The one goes on exactly where the other does.
use Rattle.std.specs.Prelude.{◌≡◌, ℕ, List}
use Rattle.machine_values.specs.declared.action.Action.{Action}
use Rattle.member_link.specs.Machine.Programs.{Program}
use Rattle.member_link.specs.Machine.Runs.{shown_after}

pub record RunsEqually (P Q : Program) (actions : List Action) : Type 0 where
  pub forth :
      (count : ℕ) → (other : ℕ) × (shown_after P actions count ≡ shown_after Q actions other)
  pub back :
      (other : ℕ) → (count : ℕ) × (shown_after P actions count ≡ shown_after Q actions other)

abbrev pub EqualRuns : Program → Program → Type 0
EqualRuns P Q = (actions : List Action) → RunsEqually P Q actions
