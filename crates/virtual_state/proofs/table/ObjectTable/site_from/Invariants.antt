use Rattle.std.proofs.Common.{ℕ, ◌≤◌, ◌<◌, IsFalse}
use Rattle.virtual_state.specs.States.{is_present}
use Rattle.virtual_state.proofs.table.ObjectTable.site_from.Given as goal

abbrev pub invariant-loop-at : goal.invariant-loop-at
invariant-loop-at l = (site : ℕ) → l.first ≤ site → site < l.at → IsFalse (is_present l.self site)
