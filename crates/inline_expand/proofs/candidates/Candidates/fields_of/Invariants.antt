use Rattle.std.proofs.Common.{◌≡◌, vec_len}
use Rattle.inline_expand.specs.Inner.CandidateWords.{IsLeft}
use Rattle.inline_expand.proofs.candidates.Candidates.fields_of.Given as goal

abbrev pub invariant-loop-name : goal.invariant-loop-name
invariant-loop-name l = (l.self ≡ l.fn.self) × IsLeft l.fn.self l.class l.names.items l.fields

abbrev pub decreases-loop-name : goal.decreases-loop-name
decreases-loop-name l = vec_len l.names
