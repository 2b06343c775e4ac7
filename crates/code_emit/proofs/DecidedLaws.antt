-- Instructions that go to their targets alone.
use Rattle.std.proofs.Common.{◌≡◌, ℕ, Bool, true, false, cond, Option, Some, None, option_map, sym, ap, ◌∙◌}
use Rattle.class_tree.specs.Headers.{headers_of}
use Rattle.code_drafts.specs.Emits.{Writing}
use Rattle.code_drafts.specs.Laws.LedRoutes.{left_is_written}
use Rattle.code_drafts.specs.Writable.{IsLeftAt, IsRouteAt, IsWritable}
use Rattle.code_emit.proofs.EdgeLaws.{edge_nowhere, edge_there}
use Rattle.flow_code.specs.FlatCode.{FlatCode, point_at}
use Rattle.flow_code.specs.declared.point.Point.{Point}
use Rattle.member_link.specs.Machine.Links.{AreLinksOf}
use Rattle.member_link.specs.Machine.Programs.{Links}
use Rattle.plan_flow.specs.PlanEdges.{made_edge_meant}
use Rattle.plan_flow.specs.Plans.{planned}
use Rattle.code_drafts.specs.LedEdges.{planned_edge}
use Rattle.plan_flow.specs.Written.Blocks.{is_decided, leaves_to, state_written}
use Rattle.plan_flow.specs.Written.Routes.{Route, RouteEdge, edge_by}
use Rattle.plan_flow.specs.declared.edge.EdgeKind.TheVariants as edges
use Rattle.plan_flow.specs.declared.plan.PlanEdge.{PlanEdge}
use Rattle.virtual_state.specs.States.{State}

-- whether the jump is decided, by the code's test
abbrev pub IsDecidedTest : FlatCode → ℕ → State → Bool → Type 0
IsDecidedTest flat at state decided =
    (point : Point) (route : Route) → point_at flat at ≡ Some point → state ≡ state_written route → decided ≡ is_decided point route

abbrev leaves_by : Route → Bool → Option ℕ
leaves_by route decided = cond decided (option_map (λ (edge : RouteEdge). edge.to) (edge_by route (edges.Jump 0))) None

module _ (w : Writing) (at : ℕ) (state : State) (flat : FlatCode) (decided : Bool) (left : IsLeftAt w at state) (test : IsDecidedTest flat at state decided)
    (same : flat ≡ w.flat) where
  pub decided_is : (links : Links) (point : Point) (route : Route) → point_at w.flat at ≡ Some point → IsRouteAt w links at route → decided ≡ is_decided point route
  decided_is links point route there here =
      test point route (ap (λ (f : FlatCode). point_at f at) same ∙ there) (left_is_written w links at state route left here)

  pub leaves_none : (links : Links) (point : Point) (route : Route) → decided ≡ false → point_at w.flat at ≡ Some point → IsRouteAt w links at route
      → None ≡ leaves_to point route
  leaves_none links point route fails there here = ap (leaves_by route) (sym fails ∙ decided_is links point route there here)

  pub leaves_nowhere : (can : IsWritable w) (found : Option PlanEdge) (links : Links) (point : Point) (route : Route)
      → option_map made_edge_meant found ≡ planned_edge (planned w.plan at) (edges.Jump 0)
      → found ≡ None
      → AreLinksOf (headers_of w.classes) links
      → decided ≡ true
      → point_at w.flat at ≡ Some point
      → IsRouteAt w links at route
      → None ≡ leaves_to point route
  leaves_nowhere can found links point route given is are holds there here =
      ap (option_map (λ (edge : RouteEdge). edge.to)) (sym (edge_nowhere w can at (edges.Jump 0) found links route given is are here))
      ∙ ap (leaves_by route) (sym holds ∙ decided_is links point route there here)

  pub leaves_there : (can : IsWritable w) (found : Option PlanEdge) (edge : PlanEdge) (links : Links) (point : Point) (route : Route)
      → option_map made_edge_meant found ≡ planned_edge (planned w.plan at) (edges.Jump 0)
      → found ≡ Some edge
      → AreLinksOf (headers_of w.classes) links
      → decided ≡ true
      → point_at w.flat at ≡ Some point
      → IsRouteAt w links at route
      → Some edge.to ≡ leaves_to point route
  leaves_there can found edge links point route given is are holds there here =
      let on = edge_there w can at (edges.Jump 0) found edge links route given is are here in
      ap Some (sym on.same_to)
      ∙ ap (option_map (λ (edge : RouteEdge). edge.to)) (sym on.is)
      ∙ ap (leaves_by route) (sym holds ∙ decided_is links point route there here)
