use Rattle.class_tree.specs.Headers.{headers_of, IsThere}
use Rattle.member_link.specs.References.{TypeNames}
use Rattle.member_link.proofs.SpelledTypes.{IsLeft}
use Rattle.member_link.proofs.names.are_types_there.Given as goal

abbrev pub invariant-loop-param : goal.invariant-loop-param
invariant-loop-param l = IsLeft (TypeNames (IsThere (headers_of l.tree))) l.descriptor.params l.param-index
