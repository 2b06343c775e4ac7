use Rattle.std.proofs.Common.{◌≡◌, ◌<◌, ℕ}
use Rattle.virtual_state.specs.Inner.Filling.{if_among}
use Rattle.virtual_state.specs.Sites.{has}
use Rattle.virtual_state.specs.States.{object_of}
use Rattle.virtual_state.proofs.making.are_among.Given as goal

abbrev pub invariant-loop-site : goal.invariant-loop-site
invariant-loop-site l = (site : ℕ) → site < l.site → if_among (has l.among) (object_of l.objects site) ≡ object_of l.objects site
