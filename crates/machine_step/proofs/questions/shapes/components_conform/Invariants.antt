use Rattle.std.proofs.Common.{◌≡◌, length}
use Rattle.member_link.specs.Machine.Programs.{Program}
use Rattle.member_link.specs.Machine.Shapes.{components_conform}
use Rattle.member_link.specs.TreePrograms.{IsProgram}
use Rattle.machine_step.proofs.questions.shapes.components_conform.Given as goal

abbrev pub invariant-loop-low : goal.invariant-loop-low
invariant-loop-low l =
    (P : Program)
    → IsProgram l.tree P
    → components_conform P l.fn.low l.fn.high ≡ components_conform P l.low l.high

abbrev pub decreases-loop-low : goal.decreases-loop-low
decreases-loop-low l = length l.low
