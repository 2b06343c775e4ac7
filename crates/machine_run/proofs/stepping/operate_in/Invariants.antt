-- The world behind the operations that are done.
use Rattle.std.proofs.Common.{◌≡◌, ◌≤◌, ◌-◌, List}
use Rattle.machine_values.specs.declared.frame.RunFrame.{RunFrame}
use Rattle.member_link.specs.Machine.Programs.{Program}
use Rattle.member_link.specs.Machine.Worlds.{World}
use Rattle.machine_code.specs.Prepared.{IsPrepared}
use Rattle.member_link.specs.TreePrograms.{IsProgram}
use Rattle.machine_run.specs.Inner.StepWords.{Leads, Runs, behind}
use Rattle.machine_run.proofs.stepping.operate_in.Given as goal

abbrev pub invariant-loop-count : goal.invariant-loop-count
invariant-loop-count l = record {
  at : l.frame.at ≡ l.fn.frame.at;
  prepared : (P : Program) → IsProgram l.tree P → IsPrepared P l.fn.frame.at l.method;
  few : l.count ≤ l.left;
  led : (P : Program) (w : World) (rest : List RunFrame)
      → IsProgram l.tree P
      → Runs w rest l.fn.frame l.fn.memory l.left
      → Leads P l.count w (behind w rest l.frame l.memory l.count);
}

abbrev pub decreases-loop-count : goal.decreases-loop-count
decreases-loop-count l = l.left - l.count
