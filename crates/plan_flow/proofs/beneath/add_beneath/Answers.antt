use Rattle.std.proofs.Common.{sym, ◌∙◌, refl, arith, rules}
use Rattle.plan_flow.proofs.Opening.{got_inside}
use Rattle.plan_flow.proofs.TopEntries.{edges_start, edges_next, edges_end}
use Rattle.plan_flow.proofs.beneath.add_beneath.Goals as goal

pub loop-edge-init : goal.loop-edge-init
loop-edge-init c = edges_start c.args.sites.now c.args.tree.now c.args.flat.now c.args.types.now c.args.row.now c.args.edges.now c.args.state.now

pub loop-edge-smaller : goal.loop-edge-smaller
loop-edge-smaller c =
    let low = got_inside c.args.edges.now c.loop-edge.at c.in-Some.edge (sym c.edge_at.ensures ∙ c.in-Some.is) in
    omega (arith, low)

pub overflow_add-at : goal.overflow_add-at
overflow_add-at c =
    let low = got_inside c.args.edges.now c.loop-edge.at c.in-Some.edge (sym c.edge_at.ensures ∙ c.in-Some.is) in
    search rules

pub loop-edge-preserved : goal.loop-edge-preserved
loop-edge-preserved c =
    edges_next c.args.edges.now c.loop-edge.at _ c.in-Some.edge c.loop-edge.invariant (sym c.edge_at.ensures ∙ c.in-Some.is) c.in_ok-add_behind.ensures refl

pub returns : goal.returns
returns c = λ links. edges_end c.args.edges.now c.loop-edge.at c.loop-edge.invariant (sym c.edge_at.ensures ∙ c.in_default.is) links
