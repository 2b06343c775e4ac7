use Rattle.class_tree.specs.Headers.{headers_of}
use Rattle.inline_expand.proofs.AllLeft.{Left}
use Rattle.inline_expand.specs.Inner.QuietWords.{IsSilent}
use Rattle.inline_expand.proofs.quiet.are_silent.Given as goal

abbrev pub invariant-loop-interface : goal.invariant-loop-interface
invariant-loop-interface l = Left (IsSilent (headers_of l.tree)) l.interfaces l.interface-index
