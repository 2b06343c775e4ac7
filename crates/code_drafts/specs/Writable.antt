-- What code is written from: a valid plan of a narrow flat code; and what it is meant by: links, the field constructors' descriptors, routes.
use Rattle.std.specs.Prelude.{◌≡◌, ◌≤◌, ℕ, List, [], Option, Some, None}
use Rattle.class_tree.specs.Headers.{Name, headers_of}
use Rattle.code_drafts.specs.Emits.{Writing}
use Rattle.flow_code.specs.WrittenUnits.{written_units}
use Rattle.making_code.specs.Items.{WItem}
use Rattle.materialise.specs.MadeCode.{DescribesConstructors, HaveConstructors}
use Rattle.member_link.specs.Machine.Links.{AreLinksOf}
use Rattle.member_link.specs.Machine.Programs.{Links}
use Rattle.plan_flow.specs.Narrow.{IsNarrow}
use Rattle.plan_flow.specs.PlanScope.{PlanScope, scope_of}
use Rattle.plan_flow.specs.Plans.{FlowsInside, IsValid, PlannedPoint, planned, state_left}
use Rattle.plan_flow.specs.Written.Blocks.{making}
use Rattle.plan_flow.specs.Written.Routes.{IsRoute, Route, RouteEdge}
use Rattle.virtual_state.specs.States.{State}

-- what the plan and its routes read
abbrev pub scope : Writing → Links → PlanScope
scope w links = scope_of w.classes links w.flat

-- the plan is valid, numbers fit, and each site's class has a field constructor
pub record IsWritable (w : Writing) : Type 0 where
  pub few_units : written_units w.flat ≤ 65535
  pub narrow : IsNarrow w.flat
  pub flows : FlowsInside w.flat
  pub constructors : HaveConstructors w.classes w.flat
  pub valid :
      (links : Links)
      → AreLinksOf (headers_of w.classes) links
      → IsValid (scope w links) w.plan

-- a point is reached, and its instruction is written in this state
pub record IsLeftAt (w : Writing) (at : ℕ) (state : State) : Type 0 where
  pub point : PlannedPoint
  pub reached : planned w.plan at ≡ Some point
  pub left : state ≡ state_left point

-- the links of the folder's classes, and the descriptors of their field constructors
pub record AreMeant (w : Writing) (links : Links) (constructor : Name → List ℕ) : Type 0 where
  pub is_links : AreLinksOf (headers_of w.classes) links
  pub describes : DescribesConstructors w.classes constructor

-- the route of a reached point
pub record IsRouteAt (w : Writing) (links : Links) (at : ℕ) (route : Route) : Type 0 where
  pub point : PlannedPoint
  pub reached : planned w.plan at ≡ Some point
  pub is : IsRoute (scope w links) at point route

-- the make code of an edge, if there is one
abbrev pub making_on : PlanScope → Option RouteEdge → List WItem
making_on s None = []
making_on s (Some edge) = making s edge.to edge.state edge.made edge.order
