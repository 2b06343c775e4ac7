use Rattle.std.proofs.Common.{◌≡◌, ℕ, List, Result, IfOk, inl, inr, sym, subst}
use Rattle.std.proofs.lemmas.Result.{IfOk-weaker}
use Rattle.class_model.specs.declared.instr.Instr.{Instr}
use Rattle.class_tree.specs.Headers.{Classes}
use Rattle.member_link.specs.Machine.Codes.{instr_op}
use Rattle.machine_code.specs.Inner.Translating.{CodeIn, IsOp, OpIsResolved, number_of, rows_in}
use Rattle.member_link.specs.declared.run_op.RunOp.{RunOp}
use Rattle.machine_code.proofs.translating.operations.instr_op.Goals as goal

-- of an instruction that is known
known :
    {E : Type 0} (code : CodeIn) (offsets : List ℕ) {instr one : Instr} (r : Result RunOp E)
    → instr ≡ one
    → IfOk r (IsOp code.classes (λ links. instr_op links (number_of offsets) (rows_in code) one))
    → IfOk r (IsOp code.classes (λ links. instr_op links (number_of offsets) (rows_in code) instr))
known code offsets r is op =
    subst (λ (i : Instr). IfOk r (IsOp code.classes (λ links. instr_op links (number_of offsets) (rows_in code) i))) (sym is) op

pub returns-in-Ldc-clause-is : goal.returns-in-Ldc-clause-is
returns-in-Ldc-clause-is c =
    elim c.in-Ldc.is [
      | inl one ↦ known c.args.code.now c.args.numbers.now c.constant_op.result one c.constant_op.ensures.is
      | inr two ↦ known c.args.code.now c.args.numbers.now c.constant_op.result two c.constant_op.ensures.is
    ]

pub returns-in-Return-clause-is : goal.returns-in-Return-clause-is
returns-in-Return-clause-is c = known c.args.code.now c.args.numbers.now c.return_op.result c.in-Return.is c.return_op.ensures.is

pub returns-in-GetStatic-clause-is : goal.returns-in-GetStatic-clause-is
returns-in-GetStatic-clause-is c = known c.args.code.now c.args.numbers.now c.get_static.result c.in-GetStatic.is c.get_static.ensures.is

pub returns-in-PutStatic-clause-is : goal.returns-in-PutStatic-clause-is
returns-in-PutStatic-clause-is c = known c.args.code.now c.args.numbers.now c.put_static.result c.in-PutStatic.is c.put_static.ensures.is

pub returns-in-GetField-clause-is : goal.returns-in-GetField-clause-is
returns-in-GetField-clause-is c = known c.args.code.now c.args.numbers.now c.get_field.result c.in-GetField.is c.get_field.ensures.is

pub returns-in-PutField-clause-is : goal.returns-in-PutField-clause-is
returns-in-PutField-clause-is c = known c.args.code.now c.args.numbers.now c.put_field.result c.in-PutField.is c.put_field.ensures.is

pub returns-in-Invoke-clause-is : goal.returns-in-Invoke-clause-is
returns-in-Invoke-clause-is c = known c.args.code.now c.args.numbers.now c.call_op.result c.in-Invoke.is c.call_op.ensures.is

pub returns-in-Dynamic-clause-is : goal.returns-in-Dynamic-clause-is
returns-in-Dynamic-clause-is c = known c.args.code.now c.args.numbers.now c.dynamic_op.result c.in-Dynamic.is c.dynamic_op.ensures.is

pub returns-in-New-clause-is : goal.returns-in-New-clause-is
returns-in-New-clause-is c = known c.args.code.now c.args.numbers.now c.new_op.result c.in-New.is c.new_op.ensures.is

pub returns-in-NewRefArray-clause-is : goal.returns-in-NewRefArray-clause-is
returns-in-NewRefArray-clause-is c = known c.args.code.now c.args.numbers.now c.new_ref_array.result c.in-NewRefArray.is c.new_ref_array.ensures.is

pub returns-in-NewMulti-clause-is : goal.returns-in-NewMulti-clause-is
returns-in-NewMulti-clause-is c = known c.args.code.now c.args.numbers.now c.new_multi.result c.in-NewMulti.is c.new_multi.ensures.is

pub returns-in-Cast-clause-is : goal.returns-in-Cast-clause-is
returns-in-Cast-clause-is c = known c.args.code.now c.args.numbers.now c.check_cast.result c.in-Cast.is c.check_cast.ensures.is

pub returns-in-InstanceOf-clause-is : goal.returns-in-InstanceOf-clause-is
returns-in-InstanceOf-clause-is c = known c.args.code.now c.args.numbers.now c.instance_of.result c.in-InstanceOf.is c.instance_of.ensures.is

pub returns-in-ArrayLoad-clause-resolved : goal.returns-in-ArrayLoad-clause-resolved
returns-in-ArrayLoad-clause-resolved c = c.if_between.ensures.resolved c.args.code.now.classes (λ P is. tt)

pub returns-in-ArrayStore-clause-resolved : goal.returns-in-ArrayStore-clause-resolved
returns-in-ArrayStore-clause-resolved c = c.if_between-in-ArrayStore.ensures.resolved c.args.code.now.classes (λ P is. tt)

pub returns-in-If-clause-resolved : goal.returns-in-If-clause-resolved
returns-in-If-clause-resolved c = c.if_between-in-If.ensures.resolved c.args.code.now.classes (λ P is. tt)

pub returns-in-If2-clause-resolved : goal.returns-in-If2-clause-resolved
returns-in-If2-clause-resolved c = c.if_between-in-If2.ensures.resolved c.args.code.now.classes (λ P is. tt)

pub returns-in-IfSame-clause-resolved : goal.returns-in-IfSame-clause-resolved
returns-in-IfSame-clause-resolved c = c.if_between-in-IfSame.ensures.resolved c.args.code.now.classes (λ P is. tt)

pub returns-in-IfNull-clause-resolved : goal.returns-in-IfNull-clause-resolved
returns-in-IfNull-clause-resolved c = c.if_between-in-IfNull.ensures.resolved c.args.code.now.classes (λ P is. tt)

pub returns-in-NewArray-clause-resolved : goal.returns-in-NewArray-clause-resolved
returns-in-NewArray-clause-resolved c =
    IfOk-weaker c.new_array.result (λ op. (classes : Classes) → OpIsResolved classes op) (OpIsResolved c.args.code.now.classes)
    (λ op resolved. resolved c.args.code.now.classes) c.new_array.ensures.resolved
