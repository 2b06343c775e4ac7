use Rattle.std.proofs.Common.{◌≡◌, length, ap, ◌∙◌, arith}
use Rattle.member_link.specs.Machine.ArraySteps.{all_counts, counts_of}
use Rattle.machine_step.specs.Inner.NestedArrays.{counts_read}
use Rattle.machine_step.proofs.ArrayCounts.{counts_len}
use Rattle.machine_step.proofs.nested_arrays.new_arrays.Goals as goal

pub arrays_of-requires-clause-few : goal.arrays_of-requires-clause-few
arrays_of-requires-clause-few c =
    let same : counts_of c.args.operands.now ≡ all_counts c.in-All.counts.items = c.in_ok-counts.ensures.counts ∙ ap counts_read c.in-All.is in
    let len = counts_len c.args.operands.now c.in-All.counts.items same in
    omega (arith, len, ap length c.deref.ensures.value)
