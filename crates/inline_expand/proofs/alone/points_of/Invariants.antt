use Rattle.std.proofs.Common.{◌≡◌, take}
use Rattle.expanded_code.specs.Alone.{alone_points}
use Rattle.inline_expand.proofs.alone.points_of.Given as goal
use Rattle.inline_expand.specs.Inner.Numbers.{AreAround}

abbrev pub invariant-loop-number : goal.invariant-loop-number
invariant-loop-number l =
    (l.points.items ≡ alone_points l.host l.class (take l.number l.instrs) (take l.number l.frames)) × AreAround l.numbers l.around
