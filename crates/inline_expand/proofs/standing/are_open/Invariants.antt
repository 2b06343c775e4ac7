use Rattle.class_model.specs.declared.instr.Placed.{Placed}
use Rattle.expanded_code.specs.Callees.{NamesOpen}
use Rattle.inline_expand.proofs.StandingParts.{IsLeft}
use Rattle.inline_expand.proofs.standing.are_open.Given as goal

abbrev pub invariant-loop-placed : goal.invariant-loop-placed
invariant-loop-placed l = IsLeft (λ (placed : Placed). NamesOpen l.callee l.host placed.instr) l.instrs l.placed-index
