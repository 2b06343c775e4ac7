use Rattle.std.proofs.Common.{◌≡◌, ◌-◌, ℕ, List, Option, None, Some, length, option_map, slice_get, sym, ap, ◌∙◌}
use Rattle.plan_flow.specs.Inner.Sharing.{or_no_edge}
use Rattle.plan_flow.specs.PlanEdges.{made_edge_meant}
use Rattle.plan_flow.specs.Plans.{MadeEdge}
use Rattle.plan_flow.specs.declared.plan.PlanEdge.{PlanEdge}
use Rattle.plan_flow.proofs.PlanEdges.{in_back, in_front}
use Rattle.plan_flow.proofs.plan.EdgePlans.get.Goals as goal

pub returns-in-Some : goal.returns-in-Some
returns-in-Some c =
    let own = c.self.inside.own.items in
    let thrown = or_no_edge c.self.inside.thrown in
    let edge = made_edge_meant c.in-Some.edge in
    let there : slice_get own c.args.number ≡ Some edge =
    ap (λ (list : List MadeEdge). slice_get list c.args.number) (sym c.as_slice-own.ensures.value) ∙ sym c.own_at.ensures
    ∙ ap (λ (one : Option PlanEdge). option_map made_edge_meant one) c.in-Some.is in
    sym (in_front own thrown c.args.number edge there) ∙ ap (λ (list : List MadeEdge). slice_get list c.args.number) c.self.view_is

pub returns-in-None : goal.returns-in-None
returns-in-None c =
    let own = c.self.inside.own.items in
    let thrown = or_no_edge c.self.inside.thrown in
    let none : slice_get own c.args.number ≡ None =
    ap (λ (list : List MadeEdge). slice_get list c.args.number) (sym c.as_slice-own.ensures.value) ∙ sym c.own_at.ensures
    ∙ ap (λ (one : Option PlanEdge). option_map made_edge_meant one) c.in-None.is in
    let number = c.behind.ensures ∙ ap (λ (count : ℕ). c.args.number - count) (ap (λ (list : List MadeEdge). length list) c.as_slice-own.ensures.value) in
    c.thrown_at.ensures ∙ ap (λ (n : ℕ). slice_get thrown n) number ∙ sym (in_back own thrown c.args.number none) ∙ ap (λ (list : List MadeEdge). slice_get list c.args.number) c.self.view_is
