use Rattle.inline_expand.specs.Inner.Unseen.{unseen}
use Rattle.inline_expand.specs.Inner.Verdicts.{verdict}
use Rattle.inline_expand.specs.Inner.Walks.{Walks}
use Rattle.inline_expand.proofs.ready.is_ready.Given as goal

abbrev pub invariant-loop-stack : goal.invariant-loop-stack
invariant-loop-stack l = Walks l.host.tree.now l.host.typed.now l.host.number l.fn.root l.verdicts l.stack

abbrev pub decreases-loop-stack : goal.decreases-loop-stack
decreases-loop-stack l = unseen (verdict l.verdicts) 0 l.host.tree.now.folder
