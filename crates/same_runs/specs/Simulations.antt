-- Simulations: what it takes that two programs show the same, in both directions, by one relation of their runs.
use Rattle.std.specs.Prelude.{◌≡◌, ◌⊎◌, ◌<◌, ℕ}
use Rattle.machine_values.specs.declared.event.Shown.{Shown}
use Rattle.member_link.specs.Machine.Programs.{Program}
use Rattle.member_link.specs.Machine.Runs.{Run, shown, turn, turns}

-- from one run to another by turns that show nothing new
pub data Quietly (P : Program) : Run → Run → Type 0 where
  at_once : {r : Run} → Quietly P r r
  turn_first : {r later : Run}
      → shown (turn P r) ≡ shown r
      → Quietly P (turn P r) later
      → Quietly P r later

-- Where runs are related, and the first takes a turn, the second takes quiet turns, and then either none, where a measure falls, or one.
pub record Keeps (P Q : Program) (Relates : ℕ → Run → Run → Type 0) (measure : ℕ) (one other : Run)
    : Type 0 where
  pub waits : Run
  pub quietly : Quietly Q other waits
  pub measure_then : ℕ
  pub goes_on :
      ((measure_then < measure) × Relates measure_then (turn P one) waits)
      ⊎ Relates measure_then (turn P one) (turn Q waits)

-- Related runs show the same, in a sense of the same, and a turn of the first keeps them related.
pub record IsSimulation (P Q : Program) (Same : Shown → Shown → Type 0)
    (Relates : ℕ → Run → Run → Type 0)
    : Type 0 where
  pub shows :
      (measure : ℕ) (one other : Run)
      → Relates measure one other
      → Same (shown one) (shown other)
  pub keeps :
      (measure : ℕ) (one other : Run)
      → Relates measure one other
      → Keeps P Q Relates measure one other

-- what the one shows after any number of turns the other shows after some number, and the other way round
pub record ShowBothWays (P Q : Program) (Same : Shown → Shown → Type 0) (one other : Run)
    : Type 0 where
  pub forth :
      (count : ℕ) → (also : ℕ) × Same (shown (turns P count one)) (shown (turns Q also other))
  pub back :
      (also : ℕ) → (count : ℕ) × Same (shown (turns P count one)) (shown (turns Q also other))
