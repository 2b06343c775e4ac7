use Rattle.std.proofs.Common.{◌≡◌, drop}
use Rattle.class_model.specs.Checks.{asked_each}
use Rattle.class_model.specs.Laws.Checks.{Remain}
use Rattle.class_tree.specs.Headers.{headers_of}
use Rattle.member_link.specs.Declarations.{declared_method_checks}
use Rattle.member_link.proofs.declarations.check_methods.Given as goal

abbrev pub invariant-loop-member : goal.invariant-loop-member
invariant-loop-member l =
    (l.descriptors ≡ headers_of l.tree)
    × (l.index ≡ l.member-index)
    × Remain (asked_each (declared_method_checks (headers_of l.tree) l.header) l.header.methods) (asked_each (declared_method_checks (headers_of l.tree) l.header) (drop l.member-index l.member-items))
