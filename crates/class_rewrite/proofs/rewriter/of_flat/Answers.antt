use Rattle.class_rewrite.proofs.rewriter.of_flat.Goals as goal

pub least_plan-requires-clause-narrow : goal.least_plan-requires-clause-narrow
least_plan-requires-clause-narrow c =
    let links = c.a_tree_has_links.ensures in
    let known = c.requires.known in
    (c.a_flat_code_can_be_planned.ensures c.args.tree.now known.typed links.0 known.at c.args.flat.now known.is_flat links.1).narrow

pub least_plan-requires-clause-flows : goal.least_plan-requires-clause-flows
least_plan-requires-clause-flows c =
    let links = c.a_tree_has_links.ensures in
    let known = c.requires.known in
    (c.a_flat_code_can_be_planned.ensures c.args.tree.now known.typed links.0 known.at c.args.flat.now known.is_flat links.1).flows
