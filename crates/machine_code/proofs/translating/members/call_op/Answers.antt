use Rattle.std.proofs.Common.{◌≡◌, IfOk, Option, Some, option_map, sym, subst, rules}
use Rattle.class_model.specs.Pool.{constant_at}
use Rattle.member_link.specs.Machine.Codes.{call_op, or_meaningless}
use Rattle.member_link.specs.References.{Reference}
use Rattle.member_link.specs.Signatures.{reference_of}
use Rattle.machine_code.specs.Inner.Translating.{IsOp, rows_in}
use Rattle.machine_code.proofs.translating.members.call_op.Goals as goal

pub returns-in-Some-clause-is : goal.returns-in-Some-clause-is
returns-in-Some-clause-is c =
    let code = c.args.code.now in
    let at : reference_of code.class.pool (constant_at code.class.pool c.args.index) ≡ Some c.in-Some.named = search rules in
    subst (λ (o : Option Reference). IfOk c.call_of.result (IsOp code.classes (λ links. or_meaningless (option_map (call_op links (rows_in code) c.args.opcode) o)))) (sym at) c.call_of.ensures.is
