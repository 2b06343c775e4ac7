use Rattle.std.proofs.Common.{◌≡◌, length, reverse}
use Rattle.std.specs.Option.{option_copied}
use Rattle.member_link.specs.Machine.Programs.{Program}
use Rattle.member_link.specs.TreePrograms.{IsProgram}
use Rattle.machine_run.specs.Inner.ThrowTargets.{target_in}
use Rattle.machine_run.proofs.throw_targets.find_target.Given as goal

abbrev pub invariant-loop-frame : goal.invariant-loop-frame
invariant-loop-frame l =
    record {
      same : l.prepared ≡ l.fn.prepared;
      target :
          (P : Program)
          → IsProgram l.fn.prepared P
          → target_in P (option_copied l.shape) l.frames
          ≡ target_in P (option_copied l.shape) (reverse l.rest);
    }

abbrev pub decreases-loop-frame : goal.decreases-loop-frame
decreases-loop-frame l = length l.rest
