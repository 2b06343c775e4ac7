use Rattle.std.proofs.Common.{◌≡◌, ◌+◌, ◌*◌, length}
use Rattle.member_link.specs.Machine.Programs.{Program}
use Rattle.member_link.specs.TreePrograms.{IsProgram}
use Rattle.machine_run.specs.Inner.ComeFirst.{unbegun_above}
use Rattle.machine_run.proofs.coming_first.+interfaces.Given as goal

abbrev pub decreases-first_above : goal.decreases-first_above
decreases-first_above l = 2 * l.left

abbrev pub decreases-first_from : goal.decreases-first_from
decreases-first_from l = 2 * l.left + 1

abbrev pub invariant-first_above-loop-name : goal.invariant-first_above-loop-name
invariant-first_above-loop-name l =
    (P : Program)
    → IsProgram l.tree P
    → unbegun_above P l.memory l.left l.names ≡ unbegun_above P l.memory l.left l.rest

abbrev pub decreases-first_above-loop-name : goal.decreases-first_above-loop-name
decreases-first_above-loop-name l = length l.rest
