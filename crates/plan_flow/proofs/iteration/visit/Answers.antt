use Rattle.std.proofs.Common.{◌==◌, List, sym, ap, subst, ◌∙◌}
use Rattle.std.specs.Option.{option_copied}
use Rattle.std.proofs.lemmas.Bool.{or_right}
use Rattle.plan_flow.specs.Inner.Blocks.{AreFollowedBy, AreStartedBy, CanBeFollowed}
use Rattle.plan_flow.specs.declared.edge.Edge.{Edge}
use Rattle.plan_flow.proofs.HeadSteps.{block_visited, found_inside, head_not_reached, head_found, walked_starts}
use Rattle.virtual_state.specs.Sites.{has}
use Rattle.plan_flow.proofs.iteration.visit.Goals as goal

pub returns-in_default : goal.returns-in_default
returns-in_default c =
    head_not_reached c.args.tree.now c.args.flat.now c.args.states.now c.args.at c.args.work.now c.requires.reaching
    (sym c.get.ensures ∙ ap option_copied c.in_default.is)

pub edges_behind-requires-clause-heads : goal.edges_behind-requires-clause-heads
edges_behind-requires-clause-heads c = c.requires.reaching.spread.heads

pub edges_behind-requires-clause-inside : goal.edges_behind-requires-clause-inside
edges_behind-requires-clause-inside c =
    let links = c.a_tree_has_links.ensures in
    found_inside c.args.tree.now c.args.flat.now c.args.states.now c.args.at c.args.work.now c.in-Some.state.now links.0 links.1
    c.requires.reaching (sym c.get.ensures ∙ ap option_copied c.in-Some.is)

pub follow_all-requires : goal.follow_all-requires
follow_all-requires c =
    let links = c.a_tree_has_links.ensures in
    let found = head_found c.args.tree.now c.args.flat.now c.args.states.now c.args.at c.args.work.now c.in-Some.state.now links.0 links.1
    c.requires.reaching (sym c.get.ensures ∙ ap option_copied c.in-Some.is) in
    let block = c.in_ok-edges.ensures c.args.work.now c.requires.reaching found in
    let started = walked_starts c.args.tree.now c.args.flat.now c.args.targets.now c.args.states.now c.args.work.now c.in_ok-edges.edges
    links.0 links.1 c.len-end.ensures.flat c.requires.flows c.requires.targets block in
    record {
      start = subst (CanBeFollowed c.args.tree.now c.args.flat.now c.args.states.now) (sym c.as_slice.ensures)
          (record { states = block.walked.states; started = started });
    }

pub returns : goal.returns
returns c =
    let links = c.a_tree_has_links.ensures in
    let found = head_found c.args.tree.now c.args.flat.now c.args.states.now c.args.at c.args.work.now c.in-Some.state.now links.0 links.1
    c.requires.reaching (sym c.get.ensures ∙ ap option_copied c.in-Some.is) in
    let block = c.in_ok-edges.ensures c.args.work.now c.requires.reaching found in
    let started = walked_starts c.args.tree.now c.args.flat.now c.args.targets.now c.args.states.now c.args.work.now c.in_ok-edges.edges
    links.0 links.1 c.len-end.ensures.flat c.requires.flows c.requires.targets block in
    let followed = c.in_ok-new.ensures block.walked.states (subst (AreStartedBy c.args.tree.now c.args.flat.now c.args.states.now
    block.walked.states) (sym c.as_slice.ensures) started) in
    block_visited c.args.tree.now c.args.flat.now c.args.targets.now c.args.states.now c.follow_all.new.states c.args.work.now
    c.follow_all.new.work c.in_ok-edges.edges c.in_ok-new.new c.requires.targets
    (λ at there. c.requires.reaching.listed at (or_right (c.args.at == at) (has c.args.work.now at) there)) block
    (subst (λ (edges : List Edge). AreFollowedBy c.args.tree.now c.args.flat.now c.args.states.now c.follow_all.new.states
    block.walked.states c.args.work.now c.follow_all.new.work edges c.in_ok-new.new) c.as_slice.ensures followed)
