use Rattle.std.proofs.Common.{arith, rules}
use Rattle.inline_expand.proofs.ParameterCounts.{begins_counted, begins_within, no_parameter, one_parameter}
use Rattle.inline_expand.proofs.parameters.parameter_count.Goals as goal

pub loop-after-init : goal.loop-after-init
loop-after-init c = record {
  counted = omega (arith, begins_counted c.args.desc.now c.behind-rest.result.now c.behind-rest.ensures);
  bound = omega (arith, begins_within c.args.desc.now c.behind-rest.result.now c.behind-rest.ensures);
}

pub overflow_add-count : goal.overflow_add-count
overflow_add-count c =
    let h = one_parameter c.loop-after.rest.now c.in-Some.after.now (search rules) in
    search rules

pub loop-after-smaller : goal.loop-after-smaller
loop-after-smaller c = (one_parameter c.loop-after.rest.now c.in-Some.after.now (search rules)).0

pub loop-after-preserved : goal.loop-after-preserved
loop-after-preserved c =
    let h = one_parameter c.loop-after.rest.now c.in-Some.after.now (search rules) in
    record { counted = omega (arith, h.1); bound = omega (arith, h.0) }

pub returns : goal.returns
returns c = omega (arith, no_parameter c.loop-after.rest.now (search rules))
