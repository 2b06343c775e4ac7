-- How far the run is.
use Rattle.std.proofs.Common.{◌≡◌, ◌≤◌, ◌-◌, length, false}
use Rattle.member_link.specs.Machine.Programs.{Program}
use Rattle.member_link.specs.Machine.Runs.{begins_with, turns}
use Rattle.member_link.specs.TreePrograms.{IsProgram}
use Rattle.machine_run.specs.Inner.RunWords.{run_at}
use Rattle.machine_run.proofs.running.take_turns.Given as goal

abbrev pub invariant-loop-done : goal.invariant-loop-done
invariant-loop-done l = record {
  same : l.prepared ≡ l.fn.prepared;
  few : l.used ≤ length l.actions;
  within : l.done ≤ l.steps;
  unspent : l.world.spent ≡ false;
  turned : (P : Program) → IsProgram l.prepared P
      → turns P l.done (begins_with l.actions) ≡ run_at l.world.world l.actions l.used;
}

abbrev pub decreases-loop-done : goal.decreases-loop-done
decreases-loop-done l = l.steps - l.done
