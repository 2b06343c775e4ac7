use Rattle.std.proofs.Common.{◌≡◌, ◌+◌, ℕ, List, suc, take, get_or, subst, arith}
use Rattle.std.proofs.lemmas.Option.{slice_get-get_or}
use Rattle.plan_flow.specs.Inner.Blocks.{AreMarked}
use Rattle.plan_flow.proofs.HeadMarks.{marked_more, marked_none, took_past}
use Rattle.plan_flow.proofs.heads.mark_all.Goals as goal

pub loop-to-init : goal.loop-to-init
loop-to-init c = marked_none c.args.heads.now.items

pub loop-to-preserved : goal.loop-to-preserved
loop-to-preserved c =
    let list = c.args.points.now in
    let number = c.loop-to.to-index in
    let next : suc number ≡ number + 1 = omega arith in
    subst (λ (count : ℕ). AreMarked c.args.heads.now.items c.mark.new.heads.items (take count list)) next
    (marked_more c.args.heads.now.items c.loop-to.heads.items c.mark.new.heads.items list number (get_or list number 0) c.loop-to.invariant
    c.mark.ensures (slice_get-get_or list number 0 c.loop-to-test.true))

pub returns : goal.returns
returns c =
    subst (λ (points : List ℕ). AreMarked c.args.heads.now.items c.loop-to.heads.items points)
    (took_past c.args.points.now c.loop-to.to-index c.loop-to-test.false) c.loop-to.invariant
