use Rattle.virtual_state.specs.Inner.Filling.{IsFilled, of_sites}
use Rattle.virtual_state.specs.Sites.{has}
use Rattle.virtual_state.proofs.making.objects_among.Given as goal

abbrev pub invariant-loop-site : goal.invariant-loop-site
invariant-loop-site l = IsFilled (of_sites (has l.among) l.objects) l.kept l.site
