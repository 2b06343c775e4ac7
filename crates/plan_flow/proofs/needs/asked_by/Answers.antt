use Rattle.std.proofs.Common.{ℕ, List, map, option_map, sym, ap, subst, ◌∙◌}
use Rattle.std.specs.List.{filter}
use Rattle.std.proofs.lemmas.Option.{same_Some}
use Rattle.flow_code.specs.declared.point.Point.{Point}
use Rattle.plan_flow.specs.Inner.Asking.{HasAdded, IsAskedIn, IsBeneathAny}
use Rattle.plan_flow.specs.Inner.EdgeViews.{row_edge}
use Rattle.plan_flow.specs.Inner.RowViews.{plan_row}
use Rattle.plan_flow.specs.PlanRows.{PlanRow, RowEdge}
use Rattle.plan_flow.specs.PlanScope.{scope_of}
use Rattle.plan_flow.specs.PlanSlots.{is_open}
use Rattle.plan_flow.specs.PlanTable.{edges_of, positions}
use Rattle.plan_flow.proofs.AskedSites.{are_asked}
use Rattle.plan_flow.proofs.ThrownStacks.{beneath_all}
use Rattle.plan_flow.proofs.needs.asked_by.Goals as goal

pub returns : goal.returns
returns c = λ links point are is row_of.
    let s = scope_of c.args.tree.now links c.args.flat.now in
    let types = c.args.types.now in
    let state = c.args.state.now in
    let row = plan_row types c.args.row.now in
    let same_instr = same_Some point.instr c.args.instr.now (sym (ap (option_map (λ (p : Point). p.instr)) is) ∙ c.requires.instr) in
    let opened = c.in_ok-edges.ensures types point is same_instr in
    are_asked s c.args.at point state row (filter (λ (edge : RowEdge). is_open state edge.guard) (edges_of c.args.at point row)) row_of.same_row
    (ap (λ (r : PlanRow). filter (λ (edge : RowEdge). is_open state edge.guard) (edges_of c.args.at point r)) row_of.same_row)
    (subst (λ (list : List ℕ). HasAdded list c.add_asked.new.sites (IsAskedIn s state (positions row))) c.new-asked.ensures (c.in_ok-add_asked.ensures links are))
    (beneath_all s c.args.at point state row
    (subst (λ (list : List RowEdge). HasAdded c.add_asked.new.sites c.add_beneath.new.sites (IsBeneathAny s state row list)) (ap (map row_edge) c.as_slice.ensures.value ∙ opened.same) (c.in_ok-add_beneath.ensures links)))
