use Rattle.std.proofs.Common.{◌≡◌, ℕ, [], get_or, length}
use Rattle.inline_expand.proofs.folder_methods.empty_buckets.Given as goal

abbrev pub invariant-loop-slot : goal.invariant-loop-slot
invariant-loop-slot l = (length l.buckets.items ≡ l._slot) × ((slot : ℕ) → get_or l.buckets.items slot [] ≡ [])
