use Rattle.std.proofs.Common.{◌≡◌, ◌<◌, ◌≤◌, ℕ, slice_get}
use Rattle.verify_folder.proofs.active.is_same_within.Given as goal

abbrev pub invariant-loop-at : goal.invariant-loop-at
invariant-loop-at l = (unit : ℕ) → l.from ≤ unit → unit < l.at → slice_get l.last unit ≡ slice_get l.locals unit
