use Rattle.std.proofs.Common.{◌≡◌, Some, drop}
use Rattle.class_model.specs.declared.header.Header.{Header}
use Rattle.class_tree.specs.Headers.{headers_of}
use Rattle.class_tree.specs.Order.{header_at}
use Rattle.member_link.proofs.InheritedMethods.{HidesAt}
use Rattle.member_link.proofs.OneHas.{OneHas}
use Rattle.member_link.proofs.defaults.is_hidden.Given as goal

-- where one of all hides, one of those that are left does
abbrev pub invariant-loop-below : goal.invariant-loop-below
invariant-loop-below l = (high : Header) → header_at (headers_of l.tree) l.interface ≡ Some high → OneHas (HidesAt (headers_of l.tree) l.name l.desc high.name) l.below-items → OneHas (HidesAt (headers_of l.tree) l.name l.desc high.name) (drop l.below-index l.below-items)
