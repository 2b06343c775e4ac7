use Rattle.std.proofs.Common.{drop}
use Rattle.std.specs.List.{flat_map}
use Rattle.making_code.specs.MakeCode.{load_entry}
use Rattle.materialise.proofs.copies.load_entries.Given as goal
use Rattle.materialise.specs.Inner.CodeWords.{WritesRest}
use Rattle.materialise.specs.Inner.StackWords.{entry_meant}

abbrev pub invariant-loop-entry : goal.invariant-loop-entry
invariant-loop-entry l =
    WritesRest l.units l.fn.instrs.items (flat_map (λ entry. load_entry l.sites (entry_meant entry)) l.entries) l.instrs.items
    (flat_map (λ entry. load_entry l.sites (entry_meant entry)) (drop l.entry-index l.entries))
