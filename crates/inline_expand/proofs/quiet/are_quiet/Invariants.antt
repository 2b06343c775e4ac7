use Rattle.std.proofs.Common.{◌≢◌}
use Rattle.class_tree.specs.Headers.{headers_of}
use Rattle.class_tree.specs.Names.{object}
use Rattle.inline_expand.proofs.AllLeft.{Left}
use Rattle.inline_expand.specs.Inner.QuietWords.{IsQuietItself}
use Rattle.inline_expand.proofs.quiet.are_quiet.Given as goal

abbrev pub invariant-loop-class : goal.invariant-loop-class
invariant-loop-class l = Left (λ name. name ≢ object → IsQuietItself (headers_of l.tree) name) l.classes l.class-index
