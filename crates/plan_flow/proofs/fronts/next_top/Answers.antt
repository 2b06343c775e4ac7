use Rattle.std.proofs.Common.{◌<◌, ◌∙◌, true, false, length, sym, arith}
use Rattle.plan_flow.proofs.KeptUnits.{next_found, next_later}
use Rattle.plan_flow.proofs.fronts.next_top.Goals as goal

pub returns-then-is_top_at : goal.returns-then-is_top_at
returns-then-is_top_at c =
    let test = c.loop-at-test.true in
    let low : c.loop-at.at < c.args.end = omega (arith, test) in
    next_found c.args.target.now c.args.from c.args.end c.loop-at.at low c.requires.inside c.loop-at.invariant (sym c.is_top_at.ensures ∙ c.if-is_top_at.true)

pub loop-at-preserved : goal.loop-at-preserved
loop-at-preserved c =
    let test = c.loop-at-test.true in
    let few = c.requires.inside in
    let low : c.loop-at.at < length c.args.target.now = omega (arith, test, few) in
    next_later c.args.target.now c.args.from c.loop-at.at low c.loop-at.invariant (sym c.is_top_at.ensures ∙ c.if-is_top_at.false)
