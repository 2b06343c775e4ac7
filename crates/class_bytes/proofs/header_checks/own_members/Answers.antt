use Rattle.std.proofs.Common.{◌+◌}
use Rattle.std.proofs.lemmas.Result.{err_from_is_err_and}
use Rattle.class_bytes.proofs.HeaderMembers.{next_within, next_refused}
use Rattle.class_bytes.specs.Inner.HeaderParts.{members_len}
use Rattle.class_bytes.specs.declared.header_cutting.MemberHead.{MemberHead}
use Rattle.class_bytes.proofs.header_checks.own_members.Goals as goal

abbrev none : MemberHead
none = record { flags = 0; name = 0; desc = 0; attrs = 0 }

pub own_member-requires-clause-room : goal.own_member-requires-clause-room
own_member-requires-clause-room c = next_within c.args.members.now c.loop-member.member-index none c.loop-member-test.true _ _ c.loop-member.invariant.0 c.requires.room

pub returns-in_err-own_member : goal.returns-in_err-own_member
returns-in_err-own_member c =
    let p = err_from_is_err_and c.from_residual.result c.from_residual.ensures.1 in
    rw (p.1, p.2) (next_refused c.args.kind c.args.pool.now c.args.members.now c.loop-member.member-index none c.loop-member-test.true c.loop-member.place (c.args.at + members_len c.args.members.now) c.loop-member.invariant.2 c.in_err-own_member.field-0.0 c.in_err-own_member.ensures)
