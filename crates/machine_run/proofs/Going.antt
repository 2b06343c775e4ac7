-- States that go on.
use Rattle.std.proofs.Common.{◌≡◌, sym, ap}
use Rattle.member_link.specs.Machine.Worlds.{Halt, World, going}
use Rattle.machine_run.specs.Outcomes.{ended}

-- a world that goes on is one with this halt
pub goes_on : (w : World) → w.halt ≡ going → ended going w ≡ w
goes_on w is = ap (λ (halt : Halt). ended halt w) (sym is)
