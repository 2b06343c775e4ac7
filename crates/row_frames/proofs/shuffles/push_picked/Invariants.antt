use Rattle.std.proofs.Common.{◌≡◌, ◌++◌, take}
use Rattle.member_link.specs.Rows.ShuffleRows.{picked}
use Rattle.row_frames.proofs.shuffles.push_picked.Given as goal

abbrev pub invariant-loop-number : goal.invariant-loop-number
invariant-loop-number l = l.stack ≡ l.initial.stack ++ picked l.operands (take l.number-index l.numbers)
