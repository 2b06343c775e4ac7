use Rattle.member_link.specs.Inner.Resolving.{resolved_scope}
use Rattle.member_link.specs.Uses.{type_checks}
use Rattle.member_link.proofs.EachUse.{AskedBelow}
use Rattle.member_link.proofs.frames.check_types.Given as goal

abbrev pub invariant-loop-one : goal.invariant-loop-one
invariant-loop-one l = AskedBelow (type_checks (resolved_scope l.resolver l.member)) l.types l.one-index
