use Rattle.std.proofs.Common.{◌≡◌, length}
use Rattle.std.specs.Option.{option_copied}
use Rattle.member_link.specs.Machine.Programs.{Program}
use Rattle.machine_code.specs.Prepared.{catches_around}
use Rattle.member_link.specs.TreePrograms.{IsProgram}
use Rattle.machine_run.specs.Inner.ThrowTargets.{first_handler}
use Rattle.machine_run.proofs.throw_targets.first_handler.Given as goal

abbrev pub invariant-loop-handler : goal.invariant-loop-handler
invariant-loop-handler l =
    (P : Program)
    → IsProgram l.tree P
    → first_handler P (option_copied l.shape) (catches_around l.handlers l.offset)
    ≡ first_handler P (option_copied l.shape) (catches_around l.rest l.offset)

abbrev pub decreases-loop-handler : goal.decreases-loop-handler
decreases-loop-handler l = length l.rest
