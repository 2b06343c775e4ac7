use Rattle.member_link.specs.Inner.Resolving.{resolved_scope}
use Rattle.member_link.specs.Uses.{instr_use_checks}
use Rattle.member_link.proofs.EachUse.{UsedBelow}
use Rattle.member_link.proofs.code_uses.check_instrs.Given as goal

abbrev pub invariant-loop-placed : goal.invariant-loop-placed
invariant-loop-placed l = UsedBelow (λ resolver placed. instr_use_checks (resolved_scope resolver l.member) placed.instr) l.instrs l.initial.resolver l.resolver l.placed-index
