use Rattle.std.proofs.Common.{◌≡◌, ◌+◌, map, take, drop}
use Rattle.class_model.specs.Laws.Checks.{Remain}
use Rattle.class_bytes.specs.Inner.HeaderParts.{member_in, members_checks, members_len}
use Rattle.class_bytes.proofs.header_checks.own_members.Given as goal

abbrev pub invariant-loop-member : goal.invariant-loop-member
invariant-loop-member l =
    (l.place + members_len (drop l.member-index l.members) ≡ l.at + members_len l.members)
    × (l.all ≡ map (member_in l.pool) (take l.member-index l.members))
    × Remain (members_checks l.kind l.pool l.at l.members) (members_checks l.kind l.pool l.place (drop l.member-index l.members))
