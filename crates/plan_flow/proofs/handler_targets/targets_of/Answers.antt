use Rattle.std.proofs.Common.{◌<◌, length, sym, ◌∙◌, arith, rules}
use Rattle.plan_flow.specs.Inner.Sharing.{points_of}
use Rattle.plan_flow.proofs.Opening.{got_inside}
use Rattle.plan_flow.proofs.TargetLists.{length_points, seen_end, seen_next}
use Rattle.plan_flow.proofs.handler_targets.targets_of.Goals as goal

pub loop-to-smaller : goal.loop-to-smaller
loop-to-smaller c =
    let low = got_inside (points_of c.args.handlers.now) c.loop-to.number c.in-Some.to (sym c.target_of.ensures ∙ c.in-Some.is) in
    omega (arith, low)

pub overflow_add-number : goal.overflow_add-number
overflow_add-number c =
    let low = got_inside (points_of c.args.handlers.now) c.loop-to.number c.in-Some.to (sym c.target_of.ensures ∙ c.in-Some.is) in
    let same = length_points c.args.handlers.now in
    let inside : c.loop-to.number < length c.args.handlers.now = omega (arith, low, same) in
    search rules

pub loop-to-preserved : goal.loop-to-preserved
loop-to-preserved c =
    seen_next (points_of c.args.handlers.now) c.loop-to.number c.loop-to.seen.keys c.insert.new.self.keys c.in-Some.to c.loop-to.invariant
    (sym c.target_of.ensures ∙ c.in-Some.is) c.in_ok-insert.ensures.keys

pub returns : goal.returns
returns c =
    seen_end c.args.handlers.now c.loop-to.number c.loop-to.seen.keys c.in_ok-targets.targets.items c.loop-to.invariant
    (sym c.target_of.ensures ∙ c.in_default.is) c.in_ok-targets.ensures
