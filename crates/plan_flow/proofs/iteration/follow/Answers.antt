use Rattle.std.proofs.Common.{is_some, sym, ap, ◌∙◌, refl, Option}
use Rattle.std.proofs.lemmas.Bool.{both_ways}
use Rattle.plan_flow.proofs.Following.{copied_some}
use Rattle.plan_flow.proofs.HeadSteps.{head_inside, head_leads, head_places, head_raised}
use Rattle.plan_flow.specs.Inner.Iteration.{IsRaised}
use Rattle.plan_flow.proofs.iteration.follow.Goals as goal
use Rattle.virtual_state.specs.States.{State}
use Rattle.std.proofs.Common.{subst}

pub returns-then-leads : goal.returns-then-leads
returns-then-leads c = λ all started.
    let links = c.a_tree_has_links.ensures in
    head_leads c.args.tree.now c.args.flat.now c.args.states.now all c.args.edge.now started c.args.work.now links.0 links.1
    (c.leads.ensures.0 c.if-leads.true)

pub raised-requires : goal.raised-requires
raised-requires c = λ state is.
    let links = c.a_tree_has_links.ensures in
    head_places c.args.tree.now c.args.flat.now c.args.states.now c.requires.start.states c.args.edge.now c.requires.start.started links.0 state
    links.1 (sym c.get-old.ensures ∙ is)

pub put-requires-clause-inside : goal.put-requires-clause-inside
put-requires-clause-inside c =
    let links = c.a_tree_has_links.ensures in
    head_inside c.args.tree.now c.args.flat.now c.args.states.now c.requires.start.states c.args.edge.now c.requires.start.started links.0 links.1

pub put-requires-clause-head : goal.put-requires-clause-head
put-requires-clause-head c = c.requires.start.started.ends 0 c.args.edge.now refl

pub returns : goal.returns
returns c = λ all started.
    let links = c.a_tree_has_links.ensures in
    let edge = c.args.edge.now in
    let above = c.in_ok-above.above in
    let new = c.is_none-new.result in
    head_raised c.args.tree.now c.args.flat.now c.args.states.now all edge started c.put.new.self c.args.work.now c.add.new.self above new
    links.0 links.1
    (λ lead. both_ways c.leads.result c.if-leads.false (c.leads.ensures.1 lead))
    (λ s same at. subst (λ (o : Option State). IsRaised s edge.to edge.state o above) c.get-old.ensures (c.in_ok-above.ensures s same at))
    c.in_ok-add.ensures
    c.put.ensures
    (sym (ap (λ (o : Option State). is_some o) c.get-old.ensures) ∙ copied_some c.get-old.result ∙ c.is_none-new.ensures)
