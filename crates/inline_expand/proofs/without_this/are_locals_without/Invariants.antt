use Rattle.std.proofs.Common.{take}
use Rattle.inline_expand.proofs.without_this.are_locals_without.Given as goal
use Rattle.member_link.specs.Rows.MemberRows.{NoUninitThis}

abbrev pub invariant-loop-at : goal.invariant-loop-at
invariant-loop-at l = NoUninitThis (take l.at l.locals)
