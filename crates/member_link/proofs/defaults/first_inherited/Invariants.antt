use Rattle.std.proofs.Common.{◌≡◌, List, Some, map, drop}
use Rattle.class_tree.specs.Headers.{Name, headers_of}
use Rattle.class_tree.specs.Order.{place_of}
use Rattle.member_link.specs.Defaults.{first_inherited}
use Rattle.member_link.proofs.defaults.first_inherited.Given as goal

-- the first of all is the first of those that are left
abbrev pub invariant-loop-interface : goal.invariant-loop-interface
invariant-loop-interface l = (names : List Name) → map (place_of (headers_of l.tree)) names ≡ map Some l.interface-items → first_inherited (headers_of l.tree) l.name l.desc names ≡ first_inherited (headers_of l.tree) l.name l.desc (drop l.interface-index names)
