use Rattle.std.proofs.Common.{◌≤◌, length, subst, arith, List, Some, None, Option}
use Rattle.plan_flow.specs.Inner.Blocks.{IsStateInside}
use Rattle.plan_flow.specs.declared.edge.Edge.{Edge}
use Rattle.plan_flow.proofs.Walking.{going_end, going_on, going_past, going_start}
use Rattle.plan_flow.proofs.blocks.edges_behind.Goals as goal
use Rattle.virtual_state.specs.States.{State}

pub loop-next-init : goal.loop-next-init
loop-next-init c =
    going_start c.args.tree.now c.args.flat.now c.args.targets.now c.args.states.now c.args.at c.args.state.now c.in_ok-edges.edges c.requires.inside
    c.in_ok-edges.ensures

pub loop-next-preserved : goal.loop-next-preserved
loop-next-preserved c =
    let links = c.a_tree_has_links.ensures in
    let flat = c.args.flat.now in
    let states = c.args.states.now in
    let here = subst (λ (o : Option State). IsStateInside flat states.heads c.loop-next.next c.as_slice.result.now o) c.in-Some.is c.in_ok-inner.ensures in
    let inside = subst (λ (list : List Edge). IsStateInside flat states.heads c.loop-next.next list (Some c.in-Some.inner)) c.as_slice.ensures here in
    going_on c.args.tree.now flat c.args.targets.now states c.args.at c.args.state.now c.loop-next.next c.loop-next.edges c.in_ok-edges-2.edges
    c.in-Some.inner links.0 links.1 c.len-end.ensures.flat c.requires.flows c.requires.targets c.requires.heads c.loop-next.invariant inside
    c.in_ok-edges-2.ensures

pub returns-in_default : goal.returns-in_default
returns-in_default c =
    let links = c.a_tree_has_links.ensures in
    let flat = c.args.flat.now in
    let states = c.args.states.now in
    let here = subst (λ (o : Option State). IsStateInside flat states.heads c.loop-next.next c.as_slice.result.now o) c.in_default.is c.in_ok-inner.ensures in
    let inside = subst (λ (list : List Edge). IsStateInside flat states.heads c.loop-next.next list None) c.as_slice.ensures here in
    going_end c.args.tree.now flat c.args.targets.now states c.args.at c.args.state.now c.loop-next.next c.loop-next.edges links.0 links.1
    c.requires.targets c.loop-next.invariant inside

pub returns : goal.returns
returns c =
    let links = c.a_tree_has_links.ensures in
    let past : length c.args.flat.now.points ≤ c.loop-next.next = omega (arith, c.loop-next-test.false, c.len-next-end.ensures.len) in
    going_past c.args.tree.now c.args.flat.now c.args.targets.now c.args.states.now c.args.at c.args.state.now c.loop-next.next c.loop-next.edges
    links.0 links.1 c.requires.targets c.requires.heads c.loop-next.invariant past
