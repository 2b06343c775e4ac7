use Rattle.std.proofs.Common.{◌≡◌, ◌<◌, ℕ, false, Bool, length, replicate, ap, subst, ◌∙◌, arith, rules}
use Rattle.plan_flow.specs.Inner.Blocks.{AreHeadsUpTo}
use Rattle.plan_flow.proofs.HeadMarks.{heads_more, heads_start}
use Rattle.plan_flow.proofs.LeastPlans.{point_there}
use Rattle.plan_flow.proofs.heads.heads_of.Goals as goal

pub loop-at-init : goal.loop-at-init
loop-at-init c =
    let blank : c.resize.new.self.items ≡ replicate c.len.result false = search rules in
    heads_start c.args.flat.now c.resize.new.self.items c.mark.new.heads.items
    (blank ∙ ap (λ (count : ℕ). replicate {A = Bool} count false) c.len.ensures.len) c.mark.ensures

pub loop-at-preserved : goal.loop-at-preserved
loop-at-preserved c =
    let flat = c.args.flat.now in
    let inside : c.loop-at.at < length flat.points = omega (arith, c.loop-at-test.true, c.len-at-end.ensures.len) in
    let point = point_there flat.points c.loop-at.at inside in
    heads_more flat c.loop-at.heads.items c.mark_by.new.heads.items c.loop-at.at point.0 c.loop-at.invariant point.1
    (c.mark_by.ensures point.0 point.1)

pub returns : goal.returns
returns c =
    let all : c.loop-at.at ≡ length c.args.flat.now.points = omega (arith, c.loop-at-test.false, c.loop-at.auto.at-end, c.len-at-end.ensures.len) in
    subst (AreHeadsUpTo c.args.flat.now c.loop-at.heads.items) all c.loop-at.invariant
