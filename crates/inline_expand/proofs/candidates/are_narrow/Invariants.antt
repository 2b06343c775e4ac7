use Rattle.std.proofs.Common.{◌≡◌, ◌≤◌, take}
use Rattle.inline_expand.specs.Inner.CandidateWords.{units_of_all}
use Rattle.inline_expand.proofs.candidates.are_narrow.Given as goal

abbrev pub invariant-loop-field : goal.invariant-loop-field
invariant-loop-field l = (l.units ≡ units_of_all (take l.field-index l.fields)) × (l.units ≤ 64)
