-- Runs that are over stay so.
use Rattle.std.proofs.Common.{ℕ, sym, ◌∙◌, inr}
use Rattle.member_link.specs.Machine.Runs.{Run}
use Rattle.same_runs.specs.Laws.Turns.{over_stays, turns_keep}
use Rattle.same_runs.specs.Simulations.{at_once}
use Rattle.written_runs.specs.Inner.Setup.{Setup, first, second}
use Rattle.written_runs.specs.Laws.Simulation.{KeepsTurn}
use Rattle.written_runs.specs.Inner.Together.{Over}

pub over_keeps : (u : Setup) (measure : ℕ) (one other : Run) → Over u one other → KeepsTurn u measure one other
over_keeps u measure one other over =
    turns_keep measure measure (over_stays (first u) one over.over) (over_stays (second u) other (λ is. over.over (sym over.same ∙ is)))
    (record { later = other; quietly = at_once; state = inr over })
