use Rattle.std.proofs.Common.{◌≡◌, ◌++◌, ℕ, List, drop, length, ap, ◌∙◌, arith}
use Rattle.plan_flow.specs.Inner.Reaching.{reached_in}
use Rattle.plan_flow.specs.Inner.Sharing.{caught_plans, own_part}
use Rattle.plan_flow.specs.Plans.{MadeEdge}
use Rattle.plan_flow.specs.declared.edge.Edge.{Edge}
use Rattle.plan_flow.proofs.OwnPlans.{behind_own, made_length, own_few}
use Rattle.plan_flow.proofs.planned_edges.planned_edges.Goals as goal

pub edges_behind-caught-requires : goal.edges_behind-caught-requires
edges_behind-caught-requires c =
    let edges = c.args.edges.now in
    let count : length c.as_slice-first.result.now ≡ length (own_part edges) =
    ap (λ (list : List MadeEdge). length list) (c.as_slice-first.ensures.value ∙ c.in_ok-own.ensures) ∙ made_length (reached_in c.args.states.now) (own_part edges) in
    let few = own_few edges in
    omega (arith, count, few)

pub returns : goal.returns
returns c = λ point is.
    let edges = c.args.edges.now in
    let states = reached_in c.args.states.now in
    let count : length c.as_slice-first.result.now ≡ length (own_part edges) =
    ap (λ (list : List MadeEdge). length list) (c.as_slice-first.ensures.value ∙ c.in_ok-own.ensures) ∙ made_length states (own_part edges) in
    let caught = c.edges_behind-caught.ensures ∙ ap (λ (n : ℕ). drop n edges) count ∙ behind_own edges in
    let thrown = c.in_ok-thrown.ensures.edges point is ∙ ap (λ (list : List Edge). caught_plans states point.handlers list) caught in
    c.of.ensures ∙ (λ i. c.in_ok-own.ensures i ++ thrown i)
