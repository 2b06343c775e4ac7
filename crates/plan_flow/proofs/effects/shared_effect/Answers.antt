use Rattle.std.proofs.Common.{List, ℕ, Some, subst}
use Rattle.plan_flow.specs.Effect.{AreEdges}
use Rattle.plan_flow.specs.Inner.Sharing.{open_by}
use Rattle.plan_flow.specs.PlanScope.{scope_of}
use Rattle.plan_flow.proofs.effects.shared_effect.Goals as goal

pub returns : goal.returns
returns c = λ links point are is.
    let s = scope_of c.args.tree.now links c.args.flat.now in
    subst (λ (targets : List ℕ). AreEdges s point c.args.at c.args.state.now (open_by s c.args.at point c.args.state.now (Some targets)) c.in_ok-edges.edges)
    c.at-shared.ensures
    (c.in_ok-edges.ensures links point are is)
