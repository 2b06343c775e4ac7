use Rattle.std.proofs.Common.{sym, ap, List, ◌∙◌}
use Rattle.std.proofs.lemmas.Result.{IfOk-weaker}
use Rattle.machine_values.specs.declared.value.Value.{Value}
use Rattle.member_link.specs.Machine.FieldSteps.{begun_first, put_static_begun, put_static_value}
use Rattle.member_link.specs.Machine.Programs.{Program, folder_number}
use Rattle.machine_step.specs.Completing.{Completes}
use Rattle.machine_step.specs.Inner.Works.{or_begins}
use Rattle.member_link.specs.RunOps.{IsFieldTarget}
use Rattle.machine_step.specs.declared.completed.Completed.{Completed}
use Rattle.member_link.specs.declared.run_op.FieldOp.{FieldOp}
use Rattle.machine_step.proofs.FieldWork.{completes_as, put_unbarred}
use Rattle.machine_step.proofs.fields.statics.put_begun.Goals as goal

pub returns : goal.returns
returns c =
    let memory = c.args.memory.now in
    let target = c.args.target.now in
    let field = target.field in
    let after = c.put_value.new.memory in
    let step :
    (completed : Completed)
    → ((P : Program) (op : FieldOp) (operands : List Value)
    → IsFieldTarget P op target
    → Completes memory after operands completed (put_static_value P memory field c.kept.result (folder_number P field.class)))
    → (P : Program) (op : FieldOp) (operands : List Value)
    → IsFieldTarget P op target
    → Completes memory after operands completed (begun_first P memory field.class (put_static_begun P memory field op.initialises c.args.value))
    = λ completed done P op operands is.
    let otherwise = put_static_begun P memory field op.initialises c.args.value in
    completes_as (done P op operands is)
    (c.unbegun.ensures P field.class otherwise (is.home ∙ sym c.home_class.ensures)
    ∙ ap (λ o. or_begins o otherwise) c.in_default.is
    ∙ put_unbarred P memory field op.initialises c.args.value (sym is.barred ∙ c.if-target.false)
    ∙ ap (λ (v : Value). put_static_value P memory field v (folder_number P field.class)) (sym (c.kept.ensures field.desc is.desc)))
    in
    IfOk-weaker _ _ _ step c.put_value.ensures
