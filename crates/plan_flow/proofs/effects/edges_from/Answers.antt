use Rattle.std.proofs.Common.{[], Option, option_map, sym, ap, subst, ◌∙◌}
use Rattle.std.proofs.lemmas.Option.{same_Some}
use Rattle.std.proofs.lemmas.Result.{IfOk-weaker}
use Rattle.flow_code.specs.FlatCode.{point_at}
use Rattle.flow_code.specs.declared.point.Point.{Point}
use Rattle.plan_flow.specs.Must.{IsMustIn}
use Rattle.plan_flow.specs.PlanScope.{scope_of}
use Rattle.plan_flow.proofs.AskedSites.{found_point}
use Rattle.plan_flow.proofs.DoneEdges.{row_is}
use Rattle.plan_flow.proofs.Narrows.{narrow_types}
use Rattle.plan_flow.proofs.effects.edges_from.Goals as goal

pub row_at-requires-clause-types : goal.row_at-requires-clause-types
row_at-requires-clause-types c = narrow_types c.args.flat.now c.args.at c.args.types.now c.requires.narrow c.requires.types

pub edges_by-edges-requires-clause-types : goal.edges_by-edges-requires-clause-types
edges_by-edges-requires-clause-types c = narrow_types c.args.flat.now c.args.at c.args.types.now c.requires.narrow c.requires.types

pub edges_by-edges-requires-clause-done : goal.edges_by-edges-requires-clause-done
edges_by-edges-requires-clause-done c =
    let links = c.a_tree_has_links.ensures in
    let s = scope_of c.args.tree.now links.0 c.args.flat.now in
    let types = c.args.types.now in
    let found = found_point (λ (p : Point). p.typed) (point_at c.args.flat.now c.args.at) types c.requires.types in
    let same_instr = same_Some found.0.instr c.args.instr.now (sym (ap (option_map (λ (p : Point). p.instr)) found.1) ∙ c.requires.instr) in
    record {
      links = links.0;
      point = found.0;
      row_of = row_is s c.args.at found.0 types c.in_ok-row.row c.args.instr.now (c.in_ok-row.ensures links.0 links.1) found.2 same_instr;
      asks_none = subst (λ (point : Option Point). IsMustIn s c.args.at point c.args.state.now []) found.1 (c.requires.asks_none links.0 links.1);
    }

pub returns : goal.returns
returns c =
    IfOk-weaker c.edges_by-edges.result _ _
    (λ edges each links point are is.
    let s = scope_of c.args.tree.now links c.args.flat.now in
    let types = c.args.types.now in
    let same_types = same_Some point.typed types (sym (ap (option_map (λ (p : Point). p.typed)) is) ∙ c.requires.types) in
    let same_instr = same_Some point.instr c.args.instr.now (sym (ap (option_map (λ (p : Point). p.instr)) is) ∙ c.requires.instr) in
    each links point is (row_is s c.args.at point types c.in_ok-row.row c.args.instr.now (c.in_ok-row.ensures links are) same_types same_instr))
    c.edges_by-edges.ensures
