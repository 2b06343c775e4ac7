use Rattle.std.proofs.Common.{◌+◌, List, take, sym, subst}
use Rattle.machine_code.specs.Inner.Preparing.{AreOps}
use Rattle.member_link.specs.declared.run_op.RunOp.{RunOp}
use Rattle.machine_code.proofs.PreparedCodes.{ops_more}
use Rattle.machine_code.proofs.translating.methods.ops_of.Goals as goal

pub loop-placed-preserved : goal.loop-placed-preserved
loop-placed-preserved c =
    let code = c.args.code.now in
    let instrs = c.args.instrs.now in
    let at = c.loop-placed.placed-index in
    subst (λ (made : List RunOp). AreOps code c.args.numbers.now (take (at + 1) instrs) made)
    (sym {A = List RunOp} c.in_ok-push.ensures.items)
    (ops_more code c.args.numbers.now instrs at c.placed-item.result c.loop-placed.made.items
    c.in_ok-instr_op.field-0 c.loop-placed-test.true c.placed-item.is c.in_ok-instr_op.ensures.is
    c.in_ok-instr_op.ensures.resolved c.loop-placed.invariant)
