use Rattle.std.proofs.Common.{◌≡◌}
use Rattle.member_link.specs.Rows.MemberRows.{initialised_type}
use Rattle.type_rules.proofs.MappedSoFar.{mapped_to}
use Rattle.type_rules.proofs.initialisers.initialised_locals.Given as goal
use Rattle.member_link.specs.MemberRefs.{reference_meant}
use Rattle.member_link.specs.Scope.{row_scope}

abbrev pub invariant-loop-index : goal.invariant-loop-index
invariant-loop-index l = l.after ≡ mapped_to (initialised_type (row_scope l.step.rules.now) (reference_meant l.reference) l.receiver) l.index l.before
