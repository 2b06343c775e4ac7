use Rattle.std.proofs.Common.{◌-◌, length}
use Rattle.class_tree.specs.Headers.{all_headers}
use Rattle.class_tree.specs.Order.{members_of}
use Rattle.class_tree.proofs.MemberIndexes.{AreFirstIndexes}
use Rattle.class_tree.proofs.members.member_indexes.Given as goal

abbrev pub invariant-loop-header : goal.invariant-loop-header
invariant-loop-header l = AreFirstIndexes (members_of l.kind) (all_headers l.headers) l.indexes

abbrev pub decreases-loop-header : goal.decreases-loop-header
decreases-loop-header l = length (all_headers l.headers) - length l.indexes
