use Rattle.std.proofs.Common.{◌≡◌, take}
use Rattle.pea_top.proofs.sharing.SharedTexts.members.Given as goal

abbrev pub invariant-loop-member : goal.invariant-loop-member
invariant-loop-member l = l.shared.items ≡ take l.member-index l.members
