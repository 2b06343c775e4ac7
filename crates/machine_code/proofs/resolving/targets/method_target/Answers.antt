use Rattle.std.proofs.Common.{◌∙◌}
use Rattle.machine_code.proofs.CallTargets.{found_method_is}
use Rattle.machine_code.proofs.resolving.targets.method_target.Goals as goal

pub returns-clause-found : goal.returns-clause-found
returns-clause-found c = λ P is.
    found_method_is c.args.tree.now P is c.a_tree_is_a_hierarchy.ensures c.requires.0 c.args.found c.requires.1 c.args.named.now _
    (c.in_ok-method.ensures c.requires.0 c.requires.1) c.has.ensures (c.is_polymorphic-is_polymorphic.ensures P is) c.in_ok-asked.ensures c.home_number.ensures
