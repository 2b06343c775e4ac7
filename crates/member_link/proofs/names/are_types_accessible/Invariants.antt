use Rattle.class_tree.specs.Headers.{headers_of}
use Rattle.member_link.specs.Access.{IsClassAccessible}
use Rattle.member_link.specs.References.{TypeNames}
use Rattle.member_link.proofs.SpelledTypes.{IsLeft}
use Rattle.member_link.proofs.names.are_types_accessible.Given as goal

abbrev pub invariant-loop-param : goal.invariant-loop-param
invariant-loop-param l = IsLeft (TypeNames (IsClassAccessible (headers_of l.tree) l.from)) l.descriptor.params l.param-index
