use Rattle.std.proofs.Common.{◌≡◌, ℕ, ◌++◌, replicate, length}
use Rattle.class_model.proofs.descriptor.after_brackets.Given as goal

abbrev pub invariant-loop-after : goal.invariant-loop-after
invariant-loop-after l = (count : ℕ) × (l.bytes ≡ replicate count 91 ++ l.rest)

abbrev pub decreases-loop-after : goal.decreases-loop-after
decreases-loop-after l = length l.rest
