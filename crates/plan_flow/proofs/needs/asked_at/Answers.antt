use Rattle.std.proofs.Common.{option_map, sym, ap, ◌∙◌}
use Rattle.std.proofs.lemmas.Option.{same_Some}
use Rattle.std.proofs.lemmas.Result.{IfOk-weaker}
use Rattle.flow_code.specs.declared.point.Point.{Point}
use Rattle.plan_flow.specs.PlanScope.{scope_of}
use Rattle.plan_flow.proofs.DoneEdges.{row_is}
use Rattle.plan_flow.proofs.Narrows.{narrow_types}
use Rattle.plan_flow.proofs.needs.asked_at.Goals as goal

pub row_at-requires-clause-types : goal.row_at-requires-clause-types
row_at-requires-clause-types c = narrow_types c.args.flat.now c.args.at c.args.types.now c.requires.narrow c.requires.types

pub asked_by-asked-requires-clause-types : goal.asked_by-asked-requires-clause-types
asked_by-asked-requires-clause-types c = narrow_types c.args.flat.now c.args.at c.args.types.now c.requires.narrow c.requires.types

pub returns : goal.returns
returns c =
    IfOk-weaker c.asked_by-asked.result _ _
    (λ asked each links point are is.
    let s = scope_of c.args.tree.now links c.args.flat.now in
    let types = c.args.types.now in
    let same_types = same_Some point.typed types (sym (ap (option_map (λ (p : Point). p.typed)) is) ∙ c.requires.types) in
    let same_instr = same_Some point.instr c.args.instr.now (sym (ap (option_map (λ (p : Point). p.instr)) is) ∙ c.requires.instr) in
    each links point are is (row_is s c.args.at point types c.in_ok-row.row c.args.instr.now (c.in_ok-row.ensures links are) same_types same_instr))
    c.asked_by-asked.ensures
