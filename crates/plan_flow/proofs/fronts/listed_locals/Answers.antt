use Rattle.std.proofs.Common.{◌<◌, length, arith}
use Rattle.plan_flow.specs.Inner.Fronts.{locals_held}
use Rattle.plan_flow.proofs.LocalUnits.{fits_more}
use Rattle.plan_flow.proofs.fronts.listed_locals.Goals as goal

pub loop-at-preserved : goal.loop-at-preserved
loop-at-preserved c =
    let target = c.args.target.now in
    let test = c.loop-at-test.true in
    let few = c.requires.inside in
    let low : c.loop-at.at < length target = omega (arith, test, few) in
    fits_more target (locals_held c.args.state.now c.args.types.now c.args.stored) c.loop-at.slots.items c.push.new.self.items c.loop-at.at _
    c.local_behind.result c.loop-at.invariant low (omega arith) c.local_behind.ensures c.in_ok-push.ensures.items
