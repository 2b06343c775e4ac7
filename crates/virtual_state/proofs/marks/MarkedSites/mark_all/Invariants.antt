use Rattle.std.proofs.Common.{take}
use Rattle.virtual_state.specs.Inner.Marks.{HasMarked}
use Rattle.virtual_state.specs.Sites.{has}
use Rattle.virtual_state.proofs.marks.MarkedSites.mark_all.Given as goal

abbrev pub invariant-loop-site : goal.invariant-loop-site
invariant-loop-site l = HasMarked l.fn.self l.self (has (take l.site-index l.sites))
