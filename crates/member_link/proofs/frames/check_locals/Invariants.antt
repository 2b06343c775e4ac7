use Rattle.member_link.specs.Inner.Resolving.{resolved_scope}
use Rattle.member_link.specs.Uses.{type_checks}
use Rattle.member_link.proofs.EachUse.{AskedBelow}
use Rattle.member_link.proofs.frames.check_locals.Given as goal

abbrev pub invariant-loop-at : goal.invariant-loop-at
invariant-loop-at l = AskedBelow (type_checks (resolved_scope l.resolver l.member)) l.locals l.at
