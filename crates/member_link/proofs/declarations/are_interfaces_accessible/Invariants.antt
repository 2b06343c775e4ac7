use Rattle.class_tree.specs.Headers.{headers_of}
use Rattle.member_link.specs.Access.{IsClassAccessible}
use Rattle.member_link.proofs.SpelledTypes.{IsLeft}
use Rattle.member_link.proofs.declarations.are_interfaces_accessible.Given as goal

abbrev pub invariant-loop-name : goal.invariant-loop-name
invariant-loop-name l = IsLeft (IsClassAccessible (headers_of l.tree) l.header.name) l.header.interfaces l.name-index
