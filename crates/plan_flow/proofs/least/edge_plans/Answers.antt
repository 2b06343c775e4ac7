use Rattle.std.proofs.Common.{List, sym, ap, subst, ◌∙◌, arith, rules}
use Rattle.std.specs.Option.{option_copied}
use Rattle.plan_flow.specs.Inner.Reaching.{reached_in}
use Rattle.plan_flow.specs.Plans.{MadeEdge}
use Rattle.plan_flow.proofs.Opening.{got_inside}
use Rattle.plan_flow.proofs.OwnPlans.{OwnLeft, own_end, own_inside, own_next, own_start}
use Rattle.plan_flow.proofs.least.edge_plans.Goals as goal

pub loop-edge-init : goal.loop-edge-init
loop-edge-init c =
    subst (λ (plans : List MadeEdge). OwnLeft (reached_in c.args.states.now) c.args.edges.now 0 plans) (sym c.new-plans.ensures.items)
    (own_start (reached_in c.args.states.now) c.args.edges.now)

pub loop-edge-smaller : goal.loop-edge-smaller
loop-edge-smaller c =
    let edges = c.args.edges.now in
    let found = sym c.own_edge.ensures ∙ ap option_copied c.in-Some.is in
    let low = got_inside edges c.loop-edge.number c.in-Some.edge.now (own_inside edges c.loop-edge.number c.in-Some.edge.now found) in
    omega (arith, low)

pub overflow_add-number : goal.overflow_add-number
overflow_add-number c =
    let edges = c.args.edges.now in
    let found = sym c.own_edge.ensures ∙ ap option_copied c.in-Some.is in
    let low = got_inside edges c.loop-edge.number c.in-Some.edge.now (own_inside edges c.loop-edge.number c.in-Some.edge.now found) in
    search rules

pub loop-edge-preserved : goal.loop-edge-preserved
loop-edge-preserved c =
    own_next (reached_in c.args.states.now) c.args.edges.now c.loop-edge.number c.loop-edge.plans.items c.push.new.self.items c.in-Some.edge.now
    c.in_ok-edge_plan.field-0 c.loop-edge.invariant (sym c.own_edge.ensures ∙ ap option_copied c.in-Some.is) c.in_ok-edge_plan.ensures c.in_ok-push.ensures.items

pub returns : goal.returns
returns c =
    own_end (reached_in c.args.states.now) c.args.edges.now c.loop-edge.number c.loop-edge.plans.items c.loop-edge.invariant
    (sym c.own_edge.ensures ∙ ap option_copied c.in_default.is)
