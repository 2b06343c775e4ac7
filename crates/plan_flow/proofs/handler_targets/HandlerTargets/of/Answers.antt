use Rattle.std.proofs.Common.{◌≤◌, ◌+◌, List, ℕ, length, sym, subst, ◌∙◌, arith}
use Rattle.plan_flow.specs.Inner.Sharing.{AreTargets, AreTargetsUpTo}
use Rattle.plan_flow.proofs.TargetLists.{known_all, known_more, known_none}
use Rattle.plan_flow.proofs.handler_targets.HandlerTargets.of.Goals as goal

pub loop-at-init : goal.loop-at-init
loop-at-init c = known_none c.args.flat.now c.in_ok-points.points.items c.in_ok-points.ensures.items

pub targets_at-requires : goal.targets_at-requires
targets_at-requires c =
    subst (λ (table : List (List ℕ)). AreTargetsUpTo c.args.flat.now table c.loop-at.at) (sym c.as_slice.ensures.value) c.loop-at.invariant

pub loop-at-preserved : goal.loop-at-preserved
loop-at-preserved c =
    subst (λ (table : List (List ℕ)). AreTargetsUpTo c.args.flat.now table (c.loop-at.at + 1)) (sym c.in_ok-push.ensures.items)
    (known_more c.args.flat.now c.loop-at.points.items c.loop-at.at c.in_ok-targets.targets c.loop-at.invariant c.in_ok-targets.ensures)

pub returns : goal.returns
returns c =
    let past : length c.args.flat.now.points ≤ c.loop-at.at = omega (arith, c.loop-at-test.false, c.len-at-end.ensures.len) in
    known_all c.args.flat.now c.loop-at.points.items c.loop-at.at c.loop-at.invariant past
