use Rattle.member_link.specs.Inner.Resolving.{resolved_scope}
use Rattle.member_link.specs.Uses.{handler_use_checks}
use Rattle.member_link.proofs.EachUse.{UsedBelow}
use Rattle.member_link.proofs.code_uses.check_handlers.Given as goal

abbrev pub invariant-loop-handler : goal.invariant-loop-handler
invariant-loop-handler l = UsedBelow (λ resolver handler. handler_use_checks (resolved_scope resolver l.member) handler) l.handlers l.initial.resolver l.resolver l.handler-index
