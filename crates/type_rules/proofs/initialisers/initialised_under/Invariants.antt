use Rattle.std.proofs.Common.{◌≡◌, map, take}
use Rattle.member_link.specs.Rows.MemberRows.{initialised_type}
use Rattle.type_rules.proofs.initialisers.initialised_under.Given as goal
use Rattle.member_link.specs.MemberRefs.{reference_meant}
use Rattle.member_link.specs.Scope.{row_scope}

abbrev pub invariant-loop-entry : goal.invariant-loop-entry
invariant-loop-entry l = l.stack ≡ map (initialised_type (row_scope l.step.rules.now) (reference_meant l.reference) l.receiver) (take l.entry-index l.entry-items)
