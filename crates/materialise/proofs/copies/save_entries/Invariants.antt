use Rattle.std.proofs.Common.{drop, map}
use Rattle.making_code.specs.MakeCode.{save}
use Rattle.materialise.proofs.copies.save_entries.Given as goal
use Rattle.materialise.specs.Inner.CodeWords.{WritesRest}
use Rattle.materialise.specs.Inner.StackWords.{entry_meant}

abbrev pub invariant-loop-entry : goal.invariant-loop-entry
invariant-loop-entry l =
    WritesRest l.units l.fn.instrs.items (map (λ entry. save (entry_meant entry)) l.saved) l.instrs.items
    (map (λ entry. save (entry_meant entry)) (drop l.entry-index l.saved))
