use Rattle.class_tree.specs.Headers.{headers_of}
use Rattle.inline_expand.proofs.AllLeft.{Left}
use Rattle.inline_expand.specs.Inner.QuietWords.{IsSilentAt}
use Rattle.inline_expand.proofs.quiet.are_silent_at.Given as goal

abbrev pub invariant-loop-place : goal.invariant-loop-place
invariant-loop-place l = Left (IsSilentAt (headers_of l.tree)) l.places l.place-index
