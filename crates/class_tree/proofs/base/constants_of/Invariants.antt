use Rattle.std.proofs.Common.{◌≡◌, ◌||◌, drop}
use Rattle.std.specs.List.{list_any}
use Rattle.class_tree.specs.Steps.{has_constant, is_method_handle, is_method_type}
use Rattle.class_tree.proofs.base.constants_of.Given as goal

abbrev pub invariant-loop-class : goal.invariant-loop-class
invariant-loop-class l =
    ((l.constants.method_handle || list_any (has_constant is_method_handle) (drop l.class-index l.folder)) ≡ list_any (has_constant is_method_handle) l.folder)
    × ((l.constants.method_type || list_any (has_constant is_method_type) (drop l.class-index l.folder)) ≡ list_any (has_constant is_method_type) l.folder)
