use Rattle.class_tree.specs.Headers.{headers_of}
use Rattle.class_tree.specs.Hierarchy.{height}
use Rattle.member_link.proofs.FieldsUpwards.{IsSearched}
use Rattle.member_link.proofs.fields.find_field.Given as goal

abbrev pub invariant-loop-next : goal.invariant-loop-next
invariant-loop-next l = IsSearched (headers_of l.tree) l.class l.name l.desc l.next

abbrev pub decreases-loop-next : goal.decreases-loop-next
decreases-loop-next l = height (headers_of l.tree) l.next
