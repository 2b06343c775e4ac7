use Rattle.std.proofs.Common.{◌+◌, List, map, take, sym, subst, ◌∙◌, refl, arith, rules}
use Rattle.plan_flow.specs.Effect.{AreEdges}
use Rattle.plan_flow.specs.Inner.EdgeViews.{row_edge}
use Rattle.plan_flow.specs.PlanScope.{scope_of}
use Rattle.plan_flow.specs.declared.edge.Edge.{Edge}
use Rattle.plan_flow.proofs.DoneEdges.{EdgesDone, done_none, done_more, done_all}
use Rattle.plan_flow.proofs.Opening.{got_inside}
use Rattle.plan_flow.proofs.effects.edges_over.Goals as goal

pub loop-edge-init : goal.loop-edge-init
loop-edge-init c =
    subst (λ (list : List Edge). EdgesDone c.args.tree.now c.args.flat.now c.args.at c.args.types.now c.args.row.now c.args.state.now c.args.taken.now list 0) (sym c.new-edges.ensures)
    (done_none c.args.tree.now c.args.flat.now c.args.at c.args.types.now c.args.row.now c.args.state.now c.args.taken.now)

pub state_by-requires-clause-edges : goal.state_by-requires-clause-edges
state_by-requires-clause-edges c = record {
  rows = map row_edge (take c.loop-edge.number c.args.taken.now);
  each = λ links point row_of.
      subst (λ (list : List Edge). AreEdges (scope_of c.args.tree.now links c.args.flat.now) point c.args.at c.args.state.now (map row_edge (take c.loop-edge.number c.args.taken.now)) list)
      (sym c.as_slice-done.ensures) (c.loop-edge.invariant.each links point row_of);
}

pub loop-edge-smaller : goal.loop-edge-smaller
loop-edge-smaller c =
    let low = got_inside c.args.taken.now c.loop-edge.number c.in-Some.edge (sym c.edge_at.ensures ∙ c.in-Some.is) in
    omega (arith, low)

pub overflow_add-number : goal.overflow_add-number
overflow_add-number c =
    let low = got_inside c.args.taken.now c.loop-edge.number c.in-Some.edge (sym c.edge_at.ensures ∙ c.in-Some.is) in
    search rules

pub loop-edge-preserved : goal.loop-edge-preserved
loop-edge-preserved c =
    let edge = c.in-Some.edge in
    let made : Edge = record { to = edge.to; by = edge.by; state = c.in_ok-behind.behind } in
    subst (λ (list : List Edge). EdgesDone c.args.tree.now c.args.flat.now c.args.at c.args.types.now c.args.row.now c.args.state.now c.args.taken.now list (c.loop-edge.number + 1)) (sym c.in_ok-push.ensures.ok)
    (done_more c.args.taken.now c.loop-edge.edges c.loop-edge.number (c.loop-edge.number + 1) edge made c.loop-edge.invariant (sym c.edge_at.ensures ∙ c.in-Some.is) (omega arith) refl refl c.in_ok-behind.ensures)

pub returns : goal.returns
returns c = done_all c.args.taken.now c.loop-edge.number c.loop-edge.invariant (sym c.edge_at.ensures ∙ c.in_default.is)
