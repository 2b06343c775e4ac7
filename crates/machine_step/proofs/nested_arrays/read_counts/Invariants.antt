use Rattle.std.proofs.Common.{◌≡◌, drop}
use Rattle.member_link.specs.Machine.ArraySteps.{counts_of}
use Rattle.machine_step.specs.Inner.NestedArrays.{AllShort, counts_before}
use Rattle.machine_step.proofs.nested_arrays.read_counts.Given as goal

abbrev pub invariant-loop-operand : goal.invariant-loop-operand
invariant-loop-operand l =
    record {
      same :
          counts_of l.operands
          ≡ counts_before l.counts.items l.is_negative (counts_of (drop l.operand-index l.operands));
      short : AllShort l.counts.items;
    }
