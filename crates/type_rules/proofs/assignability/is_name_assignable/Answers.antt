use Rattle.class_tree.specs.Headers.{headers_of}
use Rattle.type_rules.proofs.NameAssignability.{all_components_decide}
use Rattle.type_rules.proofs.assignability.is_name_assignable.Goals as goal

pub returns : goal.returns
returns c =
    let inner = all_components_decide (headers_of c.args.tree.now) c.a_tree_is_a_hierarchy.ensures c.innermost.ensures.taken in
    (λ yes. inner.1 (c.is_innermost_assignable.ensures.0 yes), λ is. c.is_innermost_assignable.ensures.1 (inner.0 is))
