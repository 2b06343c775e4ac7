use Rattle.std.proofs.Common.{length}
use Rattle.std.specs.Option.{option_copied}
use Rattle.class_tree.specs.Headers.{all_headers}
use Rattle.class_tree.proofs.Duplicates.{AreLeft}
use Rattle.class_tree.proofs.arrange.first_duplicate.Given as goal

abbrev pub invariant-loop-header : goal.invariant-loop-header
invariant-loop-header l = AreLeft l.headers l.rest (option_copied l.last)

abbrev pub decreases-loop-header : goal.decreases-loop-header
decreases-loop-header l = length (all_headers l.rest)
