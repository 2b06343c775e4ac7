use Rattle.std.proofs.Common.{◌≡◌, true, List, [], ◌∷◌, Some, sym, subst, ◌∙◌}
use Rattle.std.proofs.lemmas.Result.{IfOk-weaker}
use Rattle.machine_values.specs.declared.value.Value.{Value}
use Rattle.member_link.specs.Machine.FieldSteps.{begun_first, put_static_begun, put_static_work}
use Rattle.member_link.specs.Machine.Programs.{Program}
use Rattle.machine_step.specs.Completing.{Completes}
use Rattle.member_link.specs.RunOps.{IsFieldTarget}
use Rattle.machine_step.specs.declared.completed.Completed.{Completed}
use Rattle.member_link.specs.declared.run_op.FieldOp.{FieldOp}
use Rattle.machine_step.proofs.FieldWork.{completes_as, one_item, put_fits}
use Rattle.machine_step.proofs.fields.statics.put_operand.Goals as goal

pub returns-in-len1 : goal.returns-in-len1
returns-in-len1 c =
    let memory = c.args.memory.now in
    let target = c.args.target.now in
    let field = target.field in
    let after = c.put_begun.new.memory in
    let value = c.value-item.result in
    let items : c.args.operands.now ≡ value ∷ [] =
    one_item c.args.operands.now value c.in-len1.len_at_least c.in-len1.len_below c.value-item.is
    in
    let step :
    (completed : Completed)
    → ((P : Program) (op : FieldOp) (operands : List Value)
    → IsFieldTarget P op target
    → Completes memory after operands completed (begun_first P memory field.class (put_static_begun P memory field op.initialises value)))
    → (P : Program) (op : FieldOp)
    → IsFieldTarget P op target
    → target.is_static ≡ true
    → Completes memory after c.args.operands.now completed (put_static_work P memory (Some field) op.initialises c.args.operands.now)
    = λ completed done P op is static.
    subst (λ (operands : List Value). Completes memory after operands completed (put_static_work P memory (Some field) op.initialises operands)) (sym items)
    (completes_as (done P op (value ∷ []) is)
    (put_fits P memory field op.initialises value (sym is.static ∙ static) (sym (c.fits.ensures field.desc is.desc) ∙ c.if-fits.true)))
    in
    IfOk-weaker _ _ _ step c.put_begun.ensures
