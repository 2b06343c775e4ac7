use Rattle.std.proofs.Common.{◌≡◌, option_and_then, option_map, ap, ◌∙◌}
use Rattle.code_drafts.specs.Emits.{Writing}
use Rattle.code_drafts.specs.Drafts.{target_of}
use Rattle.plan_flow.specs.PlanEdges.{made_edge_meant}
use Rattle.plan_flow.specs.Plans.{planned}
use Rattle.plan_flow.specs.Written.Routes.{edge_by}
use Rattle.plan_flow.specs.declared.edge.EdgeKind.TheVariants as edges
use Rattle.code_drafts.proofs.CarriedLaws.{jump_none, jump_some}
use Rattle.code_drafts.proofs.SameEnds.{end_found, in_plan, no_end_found, same_ends}
use Rattle.code_drafts.proofs.carried.target_behind.Goals as goal

pub returns-in-Some : goal.returns-in-Some
returns-in-Some c = λ links route are here.
    let w = c.args.setting.now in
    let by = edges.Jump c.args.number in
    let given : option_map made_edge_meant c.edge_by.result ≡ option_and_then (λ point. in_plan by point.edges) (planned w.plan c.args.at) =
    c.edge_by.ensures ∙ ap (λ (one : Writing). option_and_then (λ point. in_plan by point.edges) (planned one.plan c.args.at)) c.setting.view_is in
    jump_some c.args.at route c.args.number c.args.to c.in-Some.edge.to c.in-Some.edge.made.now (target_of c.point_or_pad.result)
    (end_found _ c.edge_by.result (edge_by route by) c.in-Some.edge given c.in-Some.is (same_ends w links c.args.at route by c.requires are here)) c.point_or_pad.ensures

pub returns-in-None : goal.returns-in-None
returns-in-None c = λ links route are here.
    let w = c.args.setting.now in
    let by = edges.Jump c.args.number in
    let given : option_map made_edge_meant c.edge_by.result ≡ option_and_then (λ point. in_plan by point.edges) (planned w.plan c.args.at) =
    c.edge_by.ensures ∙ ap (λ (one : Writing). option_and_then (λ point. in_plan by point.edges) (planned one.plan c.args.at)) c.setting.view_is in
    jump_none c.args.at route c.args.number c.args.to
    (no_end_found _ c.edge_by.result (edge_by route by) given c.in-None.is (same_ends w links c.args.at route by c.requires are here))
