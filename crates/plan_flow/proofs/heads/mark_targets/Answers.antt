use Rattle.std.proofs.Common.{◌≡◌, ◌+◌, ℕ, List, suc, take, sym, subst, ◌∙◌, arith, rules}
use Rattle.plan_flow.specs.Inner.Blocks.{AreMarked}
use Rattle.plan_flow.specs.PlanTable.{targets_at}
use Rattle.plan_flow.proofs.HeadMarks.{marked_more, marked_none}
use Rattle.plan_flow.proofs.Opening.{got_inside}
use Rattle.plan_flow.proofs.PointLists.{took_all}
use Rattle.plan_flow.proofs.heads.mark_targets.Goals as goal

pub loop-to-init : goal.loop-to-init
loop-to-init c = marked_none c.args.heads.now.items

pub loop-to-smaller : goal.loop-to-smaller
loop-to-smaller c =
    let low = got_inside (targets_at c.args.instr.now) c.loop-to.number c.in-Some.to (sym c.target.ensures ∙ c.in-Some.is) in
    omega (arith, low)

pub overflow_add-number : goal.overflow_add-number
overflow_add-number c =
    let low = got_inside (targets_at c.args.instr.now) c.loop-to.number c.in-Some.to (sym c.target.ensures ∙ c.in-Some.is) in
    let few = c.requires in
    search rules

pub loop-to-preserved : goal.loop-to-preserved
loop-to-preserved c =
    let list = targets_at c.args.instr.now in
    let next : suc c.loop-to.number ≡ c.loop-to.number + 1 = omega arith in
    subst (λ (number : ℕ). AreMarked c.args.heads.now.items c.mark.new.heads.items (take number list)) next
    (marked_more c.args.heads.now.items c.loop-to.heads.items c.mark.new.heads.items list c.loop-to.number c.in-Some.to c.loop-to.invariant
    c.mark.ensures (sym c.target.ensures ∙ c.in-Some.is))

pub returns : goal.returns
returns c =
    let list = targets_at c.args.instr.now in
    subst (λ (points : List ℕ). AreMarked c.args.heads.now.items c.loop-to.heads.items points)
    (took_all list c.loop-to.number (sym c.target.ensures ∙ c.in_default.is)) c.loop-to.invariant
