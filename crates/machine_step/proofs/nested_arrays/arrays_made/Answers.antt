use Rattle.std.proofs.Common.{◌≡◌, ◌*◌, ◌≤◌, get_or, arith, rules}
use Rattle.member_link.specs.Machine.ArraySteps.{most_elements}
use Rattle.machine_step.proofs.ArrayCounts.{made_more}
use Rattle.machine_step.proofs.nested_arrays.arrays_made.Goals as goal

pub loop-count-preserved : goal.loop-count-preserved
loop-count-preserved c =
    let count : c.from-product.result ≡ get_or c.args.counts.now c.loop-count.count-index 0 = search rules in
    let short : c.loop-count.product * c.from-product.result ≤ most_elements = omega arith in
    made_more c.args.counts.now c.loop-count.made c.loop-count.product c.loop-count.count-index c.from-product.result
    c.loop-count.invariant c.loop-count-test.true count short
