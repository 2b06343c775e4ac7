use Rattle.std.proofs.Common.{◌≡◌, List, Option, None, Some, option_map, slice_get, sym, ap, ◌∙◌, arith}
use Rattle.std.specs.Option.{option_copied}
use Rattle.flow_code.specs.declared.handlers.FlatHandler.{FlatHandler}
use Rattle.plan_flow.specs.Inner.Sharing.{made_in}
use Rattle.plan_flow.specs.Plans.{MadeEdge}
use Rattle.plan_flow.specs.declared.edge.EdgeKind.TheVariants as kinds
use Rattle.plan_flow.proofs.Opening.{got_inside}
use Rattle.plan_flow.proofs.PlanEdges.{caught_here, thrown_edge}
use Rattle.plan_flow.proofs.plan.ThrownPlan.get.Goals as goal

pub returns-in_default : goal.returns-in_default
returns-in_default c =
    let made = made_in c.self.inside.made in
    let handlers = c.self.inside.handlers in
    let none : slice_get handlers c.args.number ≡ None = sym c.get.ensures ∙ ap option_copied c.in_default.is in
    sym (ap (λ (list : List MadeEdge). slice_get list c.args.number) (sym c.self.view_is)
    ∙ caught_here made c.args.number handlers
    ∙ ap (λ (one : Option FlatHandler). option_map (thrown_edge made c.args.number) one) none)

pub short-requires : goal.short-requires
short-requires c =
    let handlers = c.self.inside.handlers in
    let low = got_inside handlers c.args.number c.in-Some.handler.now (sym c.get.ensures ∙ ap option_copied c.in-Some.is) in
    let few = c.self.invariant.1 in
    omega (arith, low, few)

pub made_for-requires : goal.made_for-requires
made_for-requires c = c.self.invariant.0

pub returns : goal.returns
returns c =
    let made = made_in c.self.inside.made in
    let handlers = c.self.inside.handlers in
    let handler = c.in-Some.handler.now in
    let there : slice_get handlers c.args.number ≡ Some handler = sym c.get.ensures ∙ ap option_copied c.in-Some.is in
    (λ i. Some (record { by = kinds.Handler (c.short.ensures i); to = handler.to; made = c.made_for.ensures i }))
    ∙ sym (ap (λ (list : List MadeEdge). slice_get list c.args.number) (sym c.self.view_is)
    ∙ caught_here made c.args.number handlers
    ∙ ap (λ (one : Option FlatHandler). option_map (thrown_edge made c.args.number) one) there)
