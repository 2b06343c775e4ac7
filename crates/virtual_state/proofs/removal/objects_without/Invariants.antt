use Rattle.virtual_state.specs.Inner.Filling.{IsFilled}
use Rattle.virtual_state.specs.Sites.{has}
use Rattle.virtual_state.specs.Without.{objects_without}
use Rattle.virtual_state.proofs.removal.objects_without.Given as goal

abbrev pub invariant-loop-site : goal.invariant-loop-site
invariant-loop-site l = IsFilled (objects_without (has l.away) l.objects) l.rest l.site
