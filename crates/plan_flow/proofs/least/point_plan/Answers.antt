use Rattle.std.proofs.Common.{◌+◌, List, inl, sym, ap, subst, ◌∙◌, arith}
use Rattle.std.specs.Option.{option_copied}
use Rattle.plan_flow.specs.Inner.Blocks.{AreEdgesAt, IsKnownTo, IsStateInside}
use Rattle.plan_flow.specs.Inner.Reaching.{reached_in}
use Rattle.plan_flow.specs.Inner.Sharing.{plans_of}
use Rattle.plan_flow.specs.declared.edge.Edge.{Edge}
use Rattle.plan_flow.proofs.AllStates.{known_after, known_none, next_fits, plans_alike, targets_known}
use Rattle.plan_flow.proofs.LeastStarts.{none_planned, point_planned}
use Rattle.plan_flow.proofs.least.point_plan.Goals as goal

pub returns-in_default-clause-known : goal.returns-in_default-clause-known
returns-in_default-clause-known c =
    let links = c.a_tree_has_links.ensures in
    known_none c.args.tree.now c.args.flat.now c.args.heads.now c.args.at c.args.states.now links.0 links.1 c.requires.known
    (sym c.get.ensures ∙ ap option_copied c.in_default.is)

pub returns-in_default-clause-plan : goal.returns-in_default-clause-plan
returns-in_default-clause-plan c = λ all links are.
    none_planned c.args.tree.now c.args.flat.now all.states c.args.at links
    (sym (c.requires.known.each all c.args.at (inl (omega arith))) ∙ sym c.get.ensures ∙ ap option_copied c.in_default.is)

pub put-requires : goal.put-requires
put-requires c = λ one is.
    let flat = c.args.flat.now in
    let heads = c.args.heads.now in
    let inside = subst (λ (list : List Edge). IsStateInside flat heads.heads (c.args.at + 1) list c.in_ok-inner.inner) c.as_slice.ensures c.in_ok-inner.ensures in
    next_fits c.args.tree.now flat heads c.args.at c.args.states.now c.in_ok-edges.edges c.in_ok-inner.inner one c.requires.heads c.requires.known inside is

pub returns-clause-known : goal.returns-clause-known
returns-clause-known c =
    let links = c.a_tree_has_links.ensures in
    let tree = c.args.tree.now in
    let flat = c.args.flat.now in
    let heads = c.args.heads.now in
    let edges = c.in_ok-edges.edges in
    let edges_at : AreEdgesAt tree flat c.args.targets.now c.args.at c.in-Some.state.now edges = record {
      left = c.in_ok-left.left;
      left_state = c.is_state.ensures;
      is_left = c.in_ok-left.ensures;
      effect = c.in_ok-edges.ensures;
    } in
    let inside = subst (λ (list : List Edge). IsStateInside flat heads.heads (c.args.at + 1) list c.in_ok-inner.inner) c.as_slice.ensures c.in_ok-inner.ensures in
    subst (IsKnownTo tree flat heads (c.args.at + 1)) (sym c.put.ensures)
    (known_after tree flat c.args.targets.now heads c.args.at c.args.states.now c.in-Some.state.now edges c.in_ok-inner.inner links.0 links.1
    c.requires.targets c.requires.heads c.requires.known (sym c.get.ensures ∙ ap option_copied c.in-Some.is) edges_at inside)

pub returns-clause-plan : goal.returns-clause-plan
returns-clause-plan c = λ all links are.
    let tree = c.args.tree.now in
    let flat = c.args.flat.now in
    let heads = c.args.heads.now in
    let state = c.in-Some.state.now in
    let edges = c.in_ok-edges.edges in
    let edges_at : AreEdgesAt tree flat c.args.targets.now c.args.at state edges = record {
      left = c.in_ok-left.left;
      left_state = c.is_state.ensures;
      is_left = c.in_ok-left.ensures;
      effect = c.in_ok-edges.ensures;
    } in
    let inside = subst (λ (list : List Edge). IsStateInside flat heads.heads (c.args.at + 1) list c.in_ok-inner.inner) c.as_slice.ensures c.in_ok-inner.ensures in
    let found = sym c.get.ensures ∙ ap option_copied c.in-Some.is in
    let known = subst (IsKnownTo tree flat heads (c.args.at + 1)) (sym c.put.ensures)
    (known_after tree flat c.args.targets.now heads c.args.at c.args.states.now state edges c.in_ok-inner.inner links are c.requires.targets
    c.requires.heads c.requires.known found edges_at inside) in
    point_planned tree flat c.args.targets.now all.states c.args.at state c.in_ok-left.left edges c.in_ok-state.state c.in_ok-made.made
    c.in_ok-edges-2.edges links are c.requires.targets all.reaching
    (sym (c.requires.known.each all c.args.at (inl (omega arith))) ∙ found) c.is_state.ensures c.in_ok-left.ensures c.in_ok-edges.ensures
    c.in_ok-state.ensures c.in_ok-made.ensures
    (λ point is.
    c.in_ok-edges-2.ensures point is
    ∙ ap (λ (list : List Edge). plans_of (reached_in c.put.new.self) point.handlers list) c.as_slice-2.ensures
    ∙ plans_alike (reached_in c.put.new.self) (reached_in all.states) point.handlers edges
    (targets_known tree flat c.args.targets.now heads c.args.at c.put.new.self state edges links are c.requires.targets c.requires.heads
    c.requires.inside known edges_at all))
