use Rattle.std.proofs.Common.{rules, ◌≡◌, option_and_then, option_map, ap, ◌∙◌}
use Rattle.std.specs.Result.{IsErrOf}
use Rattle.code_drafts.specs.Emits.{Writing}
use Rattle.flow_code.specs.declared.reason.KeptFault.TheVariants.{Kept}
use Rattle.plan_flow.specs.PlanEdges.{made_edge_meant}
use Rattle.plan_flow.specs.Plans.{planned}
use Rattle.plan_flow.specs.Written.Routes.{edge_by}
use Rattle.plan_flow.specs.declared.edge.EdgeKind.TheVariants as edges
use Rattle.code_drafts.proofs.CarriedLaws.{catch_full, catch_none, catch_some}
use Rattle.code_drafts.proofs.SameEnds.{end_found, in_plan, no_end_found, same_ends}
use Rattle.code_drafts.proofs.carried.push_catch.Goals as goal

pub returns-in_default-clause-ok : goal.returns-in_default-clause-ok
returns-in_default-clause-ok c = λ links route are here.
    let w = c.args.setting.now in
    let by = edges.Handler c.args.number in
    let given : option_map made_edge_meant c.edge_by.result ≡ option_and_then (λ point. in_plan by point.edges) (planned w.plan c.args.at) =
    c.edge_by.ensures ∙ ap (λ (one : Writing). option_and_then (λ point. in_plan by point.edges) (planned one.plan c.args.at)) c.setting.view_is in
    catch_none c.args.at c.args.number c.args.handler.now (edge_by route by) c.args.pool.now c.args.list.now
    (no_end_found _ c.edge_by.result (edge_by route by) given c.in_default.is (same_ends w links c.args.at route by c.requires are here))

pub returns-in_err-class-clause-full : goal.returns-in_err-class-clause-full
returns-in_err-class-clause-full c = λ reason links route is are here.
    let w = c.args.setting.now in
    let by = edges.Handler c.args.number in
    let given : option_map made_edge_meant c.edge_by.result ≡ option_and_then (λ point. in_plan by point.edges) (planned w.plan c.args.at) =
    c.edge_by.ensures ∙ ap (λ (one : Writing). option_and_then (λ point. in_plan by point.edges) (planned one.plan c.args.at)) c.setting.view_is in
    let fails : IsErrOf c.caught_index.result (Kept reason) = search rules in
    catch_full c.args.at c.args.number c.in-Some.edge.to c.args.handler.now (edge_by route by) c.in-Some.edge.made.now c.args.pool.now reason
    (end_found _ c.edge_by.result (edge_by route by) c.in-Some.edge given c.in-Some.is (same_ends w links c.args.at route by c.requires are here)) (c.caught_index.ensures.full reason fails)

pub returns-clause-ok : goal.returns-clause-ok
returns-clause-ok c = λ links route are here.
    let w = c.args.setting.now in
    let by = edges.Handler c.args.number in
    let given : option_map made_edge_meant c.edge_by.result ≡ option_and_then (λ point. in_plan by point.edges) (planned w.plan c.args.at) =
    c.edge_by.ensures ∙ ap (λ (one : Writing). option_and_then (λ point. in_plan by point.edges) (planned one.plan c.args.at)) c.setting.view_is in
    catch_some c.args.at c.args.number c.in-Some.edge.to c.in_ok-class.class c.args.handler.now (edge_by route by) c.in-Some.edge.made.now c.point_or_pad-to.result c.args.pool.now
    c.caught_index.new.pool c.args.list.now c.push.new.self
    (end_found _ c.edge_by.result (edge_by route by) c.in-Some.edge given c.in-Some.is (same_ends w links c.args.at route by c.requires are here)) c.point_or_pad-to.ensures
    c.in_ok-class.ensures.ok c.in_ok-class.ensures.index c.in_ok-push.ensures.ok
