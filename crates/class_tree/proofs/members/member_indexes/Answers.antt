use Rattle.std.proofs.Common.{◌≡◌, Some, None, length, slice_get, sym, subst, rules}
use Rattle.class_tree.specs.Headers.{all_headers}
use Rattle.class_tree.specs.Order.{members_of}
use Rattle.class_tree.proofs.MemberIndexes.{AreFirstIndexes, another_indexed, all_indexed}
use Rattle.class_tree.proofs.members.member_indexes.Goals as goal

pub loop-header-preserved : goal.loop-header-preserved
loop-header-preserved c =
    let headers = all_headers c.args.headers.now in
    let indexes = c.loop-header.indexes in
    let there : slice_get headers (length indexes) ≡ Some c.in-Some.header.now = search rules in
    subst (AreFirstIndexes (members_of c.args.kind) headers) (sym c.in_ok-push.ensures)
    (another_indexed (members_of c.args.kind) headers indexes c.in-Some.header.now c.as_slice.result.now c.loop-header.invariant there (search rules))

pub returns : goal.returns
returns c =
    let past : slice_get (all_headers c.args.headers.now) (length c.loop-header.indexes) ≡ None = search rules in
    all_indexed (members_of c.args.kind) c.args.headers.now c.loop-header.indexes c.loop-header.invariant past
