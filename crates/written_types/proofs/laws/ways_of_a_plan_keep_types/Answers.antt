use Rattle.written_types.proofs.Ways.{routes_fit}
use Rattle.written_types.proofs.laws.ways_of_a_plan_keep_types.Goals as goal

pub returns : goal.returns
returns c = λ classes links s flat plan routes tree are_links ready candidates valid routed.
    routes_fit classes links s flat plan (c.classes_of_a_tree_are_a_hierarchy.ensures classes tree) tree.holds are_links ready candidates valid routes
    routed
