use Rattle.std.proofs.Common.{◌≡◌, Some, None, option_map, sym, ap, ◌∙◌}
use Rattle.plan_flow.specs.Inner.Sharing.{or_no_edge}
use Rattle.plan_flow.specs.PlanEdges.{made_edge_meant}
use Rattle.plan_flow.proofs.EdgeKinds.{found, found_back, found_front}
use Rattle.plan_flow.proofs.plan.EdgePlans.by_kind.Goals as goal

pub returns-in-Some : goal.returns-in-Some
returns-in-Some c =
    let own = c.self.inside.own.items in
    let edge = made_edge_meant c.in-Some.edge in
    let there : found c.args.by own ≡ Some edge =
    ap (found c.args.by) (sym c.as_slice.ensures.value) ∙ sym c.own_by.ensures ∙ ap (option_map made_edge_meant) c.in-Some.is in
    found_front c.args.by own (or_no_edge c.self.inside.thrown) edge there ∙ ap (found c.args.by) c.self.view_is

pub returns-in-None : goal.returns-in-None
returns-in-None c =
    let own = c.self.inside.own.items in
    let none : found c.args.by own ≡ None =
    ap (found c.args.by) (sym c.as_slice.ensures.value) ∙ sym c.own_by.ensures ∙ ap (option_map made_edge_meant) c.in-None.is in
    c.thrown_by.ensures ∙ found_back c.args.by own (or_no_edge c.self.inside.thrown) none ∙ ap (found c.args.by) c.self.view_is
