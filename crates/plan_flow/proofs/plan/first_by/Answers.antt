use Rattle.std.proofs.Common.{option_map, sym, ap, ◌∙◌, arith, rules}
use Rattle.plan_flow.specs.PlanEdges.{made_edge_meant}
use Rattle.plan_flow.proofs.EdgeKinds.{found_here, found_next, found_none}
use Rattle.plan_flow.proofs.Opening.{got_inside}
use Rattle.plan_flow.proofs.plan.first_by.Goals as goal

pub returns-then-is_kind : goal.returns-then-is_kind
returns-then-is_kind c =
    let there = sym c.own_at.ensures ∙ ap (option_map made_edge_meant) c.in-Some.is in
    found_here c.args.by c.args.edges.now c.loop-edge.number (made_edge_meant c.in-Some.edge) c.loop-edge.invariant there (sym c.is_kind.ensures ∙ c.if-is_kind.true)

pub overflow_add-number : goal.overflow_add-number
overflow_add-number c =
    let low = got_inside c.args.edges.now c.loop-edge.number (made_edge_meant c.in-Some.edge) (sym c.own_at.ensures ∙ ap (option_map made_edge_meant) c.in-Some.is) in
    search rules

pub loop-edge-smaller : goal.loop-edge-smaller
loop-edge-smaller c =
    let low = got_inside c.args.edges.now c.loop-edge.number (made_edge_meant c.in-Some.edge) (sym c.own_at.ensures ∙ ap (option_map made_edge_meant) c.in-Some.is) in
    omega (arith, low)

pub loop-edge-preserved : goal.loop-edge-preserved
loop-edge-preserved c =
    let there = sym c.own_at.ensures ∙ ap (option_map made_edge_meant) c.in-Some.is in
    found_next c.args.by c.args.edges.now c.loop-edge.number (made_edge_meant c.in-Some.edge) c.loop-edge.invariant there (sym c.is_kind.ensures ∙ c.if-is_kind.false)

pub returns : goal.returns
returns c = found_none c.args.by c.args.edges.now c.loop-edge.number c.loop-edge.invariant (sym c.own_at.ensures ∙ ap (option_map made_edge_meant) c.in_default.is)
