use Rattle.std.proofs.Common.{drop}
use Rattle.member_link.specs.Machine.Programs.{Program}
use Rattle.machine_step.specs.Inner.Numbering.{NumbersOn}
use Rattle.member_link.specs.TreePrograms.{IsProgram}
use Rattle.machine_step.proofs.numbering.number_values.Given as goal

abbrev pub invariant-loop-value : goal.invariant-loop-value
invariant-loop-value l = (P : Program) → IsProgram l.tree P → NumbersOn P l.heap l.initial.known l.values l.seen l.known (drop l.value-index l.values)
