use Rattle.std.proofs.Common.{◌≡◌, ◌++◌, ℕ, length}
use Rattle.virtual_state.specs.States.{object_of}
use Rattle.virtual_state.proofs.making.put_all.Given as goal

abbrev pub invariant-loop-object : goal.invariant-loop-object
invariant-loop-object l = (site : ℕ) → object_of (l.left.items ++ l.table) site ≡ object_of (l.initial.left.items ++ l.initial.table) site

abbrev pub decreases-loop-object : goal.decreases-loop-object
decreases-loop-object l = length l.left.items
