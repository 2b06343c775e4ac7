use Rattle.std.proofs.Common.{◌<◌, length, sym, ◌∙◌, arith, rules}
use Rattle.plan_flow.specs.Inner.Sharing.{points_of}
use Rattle.plan_flow.proofs.Opening.{got_inside}
use Rattle.plan_flow.proofs.TargetLists.{alike_end, alike_next, alike_start, length_points}
use Rattle.plan_flow.proofs.handler_targets.lead_alike.Goals as goal

pub loop-to-init : goal.loop-to-init
loop-to-init c = alike_start (points_of c.args.handlers.now) (points_of c.args.others.now)

pub loop-to-smaller : goal.loop-to-smaller
loop-to-smaller c =
    let low = got_inside (points_of c.args.handlers.now) c.loop-to.number c.in-Some.to (sym c.target_of.ensures ∙ c.in-Some.is) in
    omega (arith, low)

pub overflow_add-number : goal.overflow_add-number
overflow_add-number c =
    let low = got_inside (points_of c.args.handlers.now) c.loop-to.number c.in-Some.to (sym c.target_of.ensures ∙ c.in-Some.is) in
    let same = length_points c.args.handlers.now in
    let inside : c.loop-to.number < length c.args.handlers.now = omega (arith, low, same) in
    search rules

pub loop-to-preserved : goal.loop-to-preserved
loop-to-preserved c =
    alike_next (points_of c.args.handlers.now) (points_of c.args.others.now) c.loop-to.number c.in-Some.to c.loop-to.invariant
    (sym c.target_of.ensures ∙ c.in-Some.is) (c.leads_to.ensures (search rules))

pub returns : goal.returns
returns c = λ told.
    alike_end c.args.handlers.now c.args.others.now c.loop-to.number c.loop-to.invariant (search rules) (sym c.target_of.ensures ∙ c.in_default.is)
