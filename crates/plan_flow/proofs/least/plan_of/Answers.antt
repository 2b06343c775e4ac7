use Rattle.std.proofs.Common.{◌+◌, ◌<◌, ◌≤◌, length, sym, subst, arith}
use Rattle.plan_flow.specs.PlanScope.{scope_of}
use Rattle.plan_flow.specs.Plans.{IsLeast, Plan}
use Rattle.plan_flow.proofs.AllStates.{known_start}
use Rattle.plan_flow.proofs.LeastStarts.{ArePlanned, all_planned, none_yet, one_more}
use Rattle.plan_flow.proofs.least.plan_of.Goals as goal

pub loop-at-init : goal.loop-at-init
loop-at-init c =
    let links = c.a_tree_has_links.ensures in
    let tree = c.args.tree.now in
    let flat = c.args.flat.now in
    let heads = c.args.heads.now in
    record {
      known =
          known_start tree flat heads c.in_ok-states.states links.0 links.1 c.requires.reaching.spread.heads c.in_ok-states.ensures.hold
          c.in_ok-states.ensures.same;
      planned = λ all.
          subst (λ (points : Plan). ArePlanned tree flat all.states points 0) (sym c.in_ok-points.ensures.items) (none_yet tree flat all.states);
    }

pub point_plan-requires-clause-inside : goal.point_plan-requires-clause-inside
point_plan-requires-clause-inside c = omega (arith, c.loop-at-test.true, c.len-at-end.ensures.len)

pub point_plan-requires-clause-heads : goal.point_plan-requires-clause-heads
point_plan-requires-clause-heads c = c.requires.reaching.spread.heads

pub point_plan-requires-clause-known : goal.point_plan-requires-clause-known
point_plan-requires-clause-known c = c.loop-at.invariant.known

pub loop-at-preserved : goal.loop-at-preserved
loop-at-preserved c =
    let tree = c.args.tree.now in
    let flat = c.args.flat.now in
    let inside : c.loop-at.at < length flat.points = omega (arith, c.loop-at-test.true, c.len-at-end.ensures.len) in
    record {
      known = c.in_ok-plan.ensures.known;
      planned = λ all.
          subst (λ (points : Plan). ArePlanned tree flat all.states points (c.loop-at.at + 1)) (sym c.in_ok-push.ensures.items)
          (one_more tree flat all.states c.loop-at.points.items c.loop-at.at c.in_ok-plan.plan (c.loop-at.invariant.planned all) inside
          (c.in_ok-plan.ensures.plan all));
    }

pub returns : goal.returns
returns c = λ links are.
    let tree = c.args.tree.now in
    let flat = c.args.flat.now in
    let all = c.requires.reaching in
    let past : length flat.points ≤ c.loop-at.at = omega (arith, c.loop-at-test.false, c.len-at-end.ensures.len) in
    subst (IsLeast (scope_of tree links flat)) (sym c.of.ensures)
    (all_planned tree flat all.states c.loop-at.points.items c.loop-at.at links are all.reaching (c.loop-at.invariant.planned all) past)
