use Rattle.inline_expand.proofs.ShallowLevels.{Descends}
use Rattle.inline_expand.proofs.shallow.is_shallow.Given as goal

abbrev pub invariant-loop-left : goal.invariant-loop-left
invariant-loop-left l = Descends l.host.tree.now l.host.typed.now l.host.number l.outer l.steps l.fn.root l.left l.level

abbrev pub decreases-loop-left : goal.decreases-loop-left
decreases-loop-left l = l.left
