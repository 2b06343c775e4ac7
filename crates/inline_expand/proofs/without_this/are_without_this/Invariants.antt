use Rattle.expanded_code.specs.Callees.{IsWithoutThis}
use Rattle.inline_expand.proofs.StandingParts.{IsLeft}
use Rattle.inline_expand.proofs.without_this.are_without_this.Given as goal

abbrev pub invariant-loop-frame : goal.invariant-loop-frame
invariant-loop-frame l = IsLeft IsWithoutThis l.frames l.frame-index
