-- The hypotheses of all families, from the laws of other crates.
use Rattle.class_tree.specs.Headers.{Classes, headers_of}
use Rattle.class_tree.specs.Hierarchy.{IsHierarchy}
use Rattle.class_tree.specs.Trees.{IsTree}
use Rattle.plan_flow.specs.Laws.RoutedPlans.{HasOneEffect}
use Rattle.plan_flow.specs.PlanScope.{PlanScope}
use Rattle.written_types.proofs.Given.{Given}
use Rattle.written_types.proofs.Ways.{routes_fit}
use Rattle.written_types.specs.Setting.{Setting}
use Rattle.written_types.specs.Writing.{Writing}

-- a tree's classes are a hierarchy (class_tree), and a state has one effect (plan_flow)
pub given_by : ((classes : Classes) → IsTree classes → IsHierarchy (headers_of classes)) → ((s : PlanScope) → HasOneEffect s)
    → (w : Writing) → Setting w
    → Given w
given_by hierarchies effects w setting =
    let hierarchy = hierarchies w.s.classes setting.tree in
    record {
      setting = setting;
      hierarchy = hierarchy;
      fits = routes_fit w.s.classes w.s.links w.host w.s.flat setting.plan hierarchy setting.tree.holds setting.links setting.ready setting.sites
          setting.valid setting.routes setting.routed;
      one_effect = effects w.s;
    }
