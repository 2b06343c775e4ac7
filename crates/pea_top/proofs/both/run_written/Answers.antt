use Rattle.std.proofs.Common.{◌≢◌, subst}
use Rattle.std.specs.Prelude.{IfOk}
use Rattle.class_tree.specs.Headers.{Classes}
use Rattle.machine_values.specs.declared.event.End.TheVariants as ends
use Rattle.member_link.specs.Machine.Programs.{Program}
use Rattle.member_link.specs.TreePrograms.{IsProgram}
use Rattle.pea_top.proofs.both.run_written.Goals as goal

-- the hierarchy that was made is that of the written folder
pub returns-clause-never_stuck : goal.returns-clause-never_stuck
returns-clause-never_stuck c =
    subst (λ (classes : Classes). IfOk c.run_verified.result (λ shown. (P : Program) → IsProgram classes P → shown.end ≢ ends.Stuck)) c.in_ok-written.ensures c.run_verified.ensures.never_stuck
