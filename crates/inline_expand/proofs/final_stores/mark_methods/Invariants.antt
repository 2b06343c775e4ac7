use Rattle.std.proofs.Common.{◌||◌, ℕ, Bool, take}
use Rattle.std.specs.List.{list_any}
use Rattle.inline_expand.specs.Inner.StoreWords.{AreMarks, stores_into}
use Rattle.inline_expand.proofs.final_stores.mark_methods.Given as goal

abbrev pub invariant-loop-method : goal.invariant-loop-method
invariant-loop-method l =
    (count : ℕ) (test : ℕ → Bool)
    → AreMarks l.fn.marks count test
    → AreMarks l.marks count (λ index. test index || list_any (stores_into l.class l.of_initialisers index) (take l.method-index l.methods))
