use Rattle.std.proofs.Common.{length}
use Rattle.class_model.specs.ModifiedUtf8.{IsModifiedUtf8}
use Rattle.class_model.proofs.text.is_modified_utf8.Given as goal

abbrev pub invariant-loop-after : goal.invariant-loop-after
invariant-loop-after l = (IsModifiedUtf8 l.rest → IsModifiedUtf8 l.bytes) × (IsModifiedUtf8 l.bytes → IsModifiedUtf8 l.rest)

abbrev pub decreases-loop-after : goal.decreases-loop-after
decreases-loop-after l = length l.rest
