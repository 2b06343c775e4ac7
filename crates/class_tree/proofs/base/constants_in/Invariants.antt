use Rattle.std.proofs.Common.{◌≡◌, ◌||◌}
use Rattle.class_tree.specs.Steps.{has_constant, is_method_handle, is_method_type}
use Rattle.class_tree.proofs.FoundConstants.{from_index}
use Rattle.class_tree.proofs.base.constants_in.Given as goal

abbrev pub invariant-loop-index : goal.invariant-loop-index
invariant-loop-index l =
    ((l.constants.method_handle || has_constant is_method_handle (from_index l.class l.index)) ≡ has_constant is_method_handle l.class)
    × ((l.constants.method_type || has_constant is_method_type (from_index l.class l.index)) ≡ has_constant is_method_type l.class)
