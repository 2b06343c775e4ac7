use Rattle.std.proofs.Common.{◌≡◌, map, take}
use Rattle.code_drafts.proofs.placing.numbers_of.Given as goal
use Rattle.code_drafts.specs.Inner.Parts.{draft_number}

abbrev pub invariant-loop-to : goal.invariant-loop-to
invariant-loop-to l = l.numbers.items ≡ map (draft_number l.starts l.total l.number) (take l.to-index l.targets)
