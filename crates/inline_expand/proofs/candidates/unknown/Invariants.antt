use Rattle.std.proofs.Common.{◌≡◌, replicate}
use Rattle.inline_expand.specs.declared.candidates.Judged.TheVariants.{Unknown}
use Rattle.inline_expand.proofs.candidates.unknown.Given as goal

abbrev pub invariant-loop : goal.invariant-loop
invariant-loop l = l.judged.items ≡ replicate l.counter Unknown
