use Rattle.std.proofs.Common.{◌≡◌}
use Rattle.expanded_code.specs.Alone.{number_at, numbered_type}
use Rattle.inline_expand.proofs.NumberedLocals.{some-changed}
use Rattle.inline_expand.proofs.numbered.numbered_locals.Given as goal

abbrev pub invariant-loop-unit : goal.invariant-loop-unit
invariant-loop-unit l = l.list ≡ some-changed (numbered_type (number_at l.host)) l.unit l.locals
