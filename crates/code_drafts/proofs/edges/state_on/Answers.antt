use Rattle.std.proofs.Common.{ap, sym, subst, ◌∙◌, option_map}
use Rattle.code_drafts.specs.Laws.EmittedParts.{if_ok}
use Rattle.code_drafts.specs.Laws.LedRoutes.{state_behind}
use Rattle.code_drafts.proofs.edges.state_on.Goals as goal
use Rattle.code_drafts.specs.LedEdges.{AreLed}
use Rattle.plan_flow.specs.declared.edge.Edge.{Edge}

pub returns : goal.returns
returns c =
    let led = subst (AreLed c.args.setting.now c.args.at) (c.as_slice.ensures ∙ sym c.as_slice-2.ensures) c.edges_are_led.ensures in
    if_ok c.copied_state-behind.result
    (λ state is.
    state_behind c.args.setting.now c.args.at c.args.by c.as_slice-2.result.now state led
    (is ∙ ap (option_map (λ (edge : Edge). edge.state)) c.edge_of_kind.ensures)) c.copied_state-behind.ensures
