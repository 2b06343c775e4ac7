use Rattle.std.proofs.Common.{sym, ◌∙◌, refl, arith, rules}
use Rattle.plan_flow.specs.PlanTable.{targets_at}
use Rattle.plan_flow.proofs.Opening.{got_inside, jumps_start, jumps_next, jumps_end}
use Rattle.plan_flow.proofs.edges.push_jumps.Goals as goal

pub loop-to-init : goal.loop-to-init
loop-to-init c = jumps_start c.args.state.now c.args.edges.now.items c.args.guard (targets_at c.args.instr.now)

pub loop-to-smaller : goal.loop-to-smaller
loop-to-smaller c =
    let low = got_inside (targets_at c.args.instr.now) c.loop-to.number c.in-Some.to (sym c.target.ensures ∙ c.in-Some.is) in
    omega (arith, low)

pub overflow_add-number : goal.overflow_add-number
overflow_add-number c =
    let low = got_inside (targets_at c.args.instr.now) c.loop-to.number c.in-Some.to (sym c.target.ensures ∙ c.in-Some.is) in
    let few = c.requires in
    search rules

pub loop-to-preserved : goal.loop-to-preserved
loop-to-preserved c =
    jumps_next (targets_at c.args.instr.now) c.loop-to.number _ c.in-Some.to c.loop-to.invariant (sym c.target.ensures ∙ c.in-Some.is) c.in_ok-push_open.ensures refl

pub returns : goal.returns
returns c = λ row same. jumps_end (targets_at c.args.instr.now) c.loop-to.number c.loop-to.invariant (sym c.target.ensures ∙ c.in_default.is) row same
