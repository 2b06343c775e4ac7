use Rattle.std.proofs.Common.{List, map, option_map, sym, ap, subst, ◌∙◌}
use Rattle.std.specs.List.{filter}
use Rattle.std.specs.Option.{option_copied}
use Rattle.std.proofs.lemmas.Option.{same_Some}
use Rattle.flow_code.specs.declared.point.Point.{Point}
use Rattle.plan_flow.specs.Effect.{AreEdges}
use Rattle.plan_flow.specs.Inner.EdgeViews.{row_edge}
use Rattle.plan_flow.specs.Inner.Sharing.{edges_by}
use Rattle.plan_flow.specs.PlanRows.{PlanRow, RowEdge}
use Rattle.plan_flow.specs.PlanScope.{scope_of}
use Rattle.plan_flow.specs.PlanSlots.{is_open}
use Rattle.plan_flow.proofs.effects.edges_by.Goals as goal

pub returns : goal.returns
returns c = λ links point is row_of.
    let s = scope_of c.args.tree.now links c.args.flat.now in
    let types = c.args.types.now in
    let state = c.args.state.now in
    let same_instr = same_Some point.instr c.args.instr.now (sym (ap (option_map (λ (p : Point). p.instr)) is) ∙ c.requires.instr) in
    let opened = c.in_ok-taken.ensures types point is same_instr in
    subst (λ (list : List RowEdge). AreEdges s point c.args.at state list c.in_ok-edges.edges)
    (ap (map row_edge) c.as_slice.ensures.value ∙ opened.same ∙ ap (λ (r : PlanRow). filter (λ (edge : RowEdge). is_open state edge.guard) (edges_by (option_copied c.args.shared) c.args.at point r)) row_of.same_row)
    (c.in_ok-edges.ensures links point row_of)
