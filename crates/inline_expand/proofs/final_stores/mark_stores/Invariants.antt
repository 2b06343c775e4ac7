use Rattle.std.proofs.Common.{◌||◌, ℕ, Bool, take}
use Rattle.std.specs.List.{list_any}
use Rattle.inline_expand.specs.Inner.StoreWords.{AreMarks, is_store}
use Rattle.inline_expand.proofs.final_stores.mark_stores.Given as goal

abbrev pub invariant-loop-placed : goal.invariant-loop-placed
invariant-loop-placed l =
    (count : ℕ) (test : ℕ → Bool)
    → AreMarks l.fn.marks count test
    → AreMarks l.marks count (λ index. test index || list_any (is_store index) (take l.placed-index l.instrs))
