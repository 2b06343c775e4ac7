use Rattle.std.proofs.Common.{◌≡◌, IfOk, Option, Some, sym, subst, rules}
use Rattle.class_model.specs.Pool.{constant_at}
use Rattle.class_model.specs.declared.pool.Const.{Const}
use Rattle.class_model.specs.declared.pool.Const.TheVariants.{InvokeDynamic}
use Rattle.member_link.specs.Machine.Codes.{dynamic_op}
use Rattle.machine_code.specs.Inner.Translating.{IsOp, rows_in}
use Rattle.machine_code.proofs.translating.members.dynamic_op.Goals as goal

pub returns-in-Some-InvokeDynamic-clause-is : goal.returns-in-Some-InvokeDynamic-clause-is
returns-in-Some-InvokeDynamic-clause-is c =
    let code = c.args.code.now in
    let at : constant_at code.class.pool c.args.index ≡ Some (InvokeDynamic c.in-Some-InvokeDynamic.bootstrap c.in-Some-InvokeDynamic.member) = search rules in
    subst (λ (o : Option Const). IfOk c.dynamic_call.result (IsOp code.classes (λ links. dynamic_op (rows_in code) o))) (sym at) c.dynamic_call.ensures.is
