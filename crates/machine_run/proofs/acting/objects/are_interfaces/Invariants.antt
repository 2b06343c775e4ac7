use Rattle.std.proofs.Common.{◌≡◌, length}
use Rattle.member_link.specs.Machine.Programs.{Program}
use Rattle.member_link.specs.TreePrograms.{IsProgram}
use Rattle.machine_run.proofs.Interfaces.{has_other}
use Rattle.machine_run.proofs.acting.objects.are_interfaces.Given as goal

abbrev pub invariant-loop-name : goal.invariant-loop-name
invariant-loop-name l = (P : Program) → IsProgram l.tree P → has_other P l.names ≡ has_other P l.rest

abbrev pub decreases-loop-name : goal.decreases-loop-name
decreases-loop-name l = length l.rest
