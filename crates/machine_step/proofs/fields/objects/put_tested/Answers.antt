use Rattle.std.proofs.Common.{◌≡◌, false, List, [], ◌∷◌, Some, sym, subst, ◌∙◌}
use Rattle.std.proofs.lemmas.Result.{IfOk-weaker}
use Rattle.machine_values.specs.declared.value.Value.{Value}
use Rattle.member_link.specs.Machine.FieldSteps.{put_field_in, put_field_work}
use Rattle.member_link.specs.Machine.Programs.{Program}
use Rattle.machine_step.specs.Completing.{Completes}
use Rattle.machine_step.specs.Inner.FieldWords.{IsTargetHere}
use Rattle.machine_step.specs.declared.completed.Completed.{Completed}
use Rattle.member_link.specs.declared.run_op.FieldOp.{FieldOp}
use Rattle.machine_step.proofs.FieldWork.{completes_as, put_allowed, two_items}
use Rattle.machine_step.proofs.fields.objects.put_tested.Goals as goal

pub returns-else-target-clause-completed : goal.returns-else-target-clause-completed
returns-else-target-clause-completed c =
    let classes = c.args.tree.now in
    let memory = c.args.memory.now in
    let named = c.args.named.now in
    let target = c.args.target.now in
    let field = target.field in
    let after = c.put_in.new.memory in
    let receiver = c.receiver-item.result in
    let value = c.value-item.result in
    let items : c.args.operands.now ≡ receiver ∷ value ∷ [] =
    two_items c.args.operands.now receiver value c.in-len2.len_at_least c.in-len2.len_below c.receiver-item.is c.value-item.is
    in
    let step :
    (completed : Completed)
    → ((P : Program) (op : FieldOp) (operands : List Value)
    → IsTargetHere classes P op named target
    → Completes memory after operands completed (put_field_in P memory named field receiver value))
    → (P : Program) (op : FieldOp)
    → IsTargetHere classes P op named target
    → target.is_static ≡ false
    → Completes memory after c.args.operands.now completed (put_field_work P memory named (Some field) op.initialises c.args.operands.now)
    = λ completed done P op here static.
    let is = here.target in
    subst (λ (operands : List Value). Completes memory after operands completed (put_field_work P memory named (Some field) op.initialises operands)) (sym items)
    (completes_as (done P op (receiver ∷ value ∷ []) here)
    (put_allowed P memory named field op.initialises receiver value (sym is.static ∙ static) (sym (c.fits.ensures field.desc is.desc) ∙ c.if-fits.true) (sym is.barred ∙ c.if-target.false)))
    in
    IfOk-weaker _ _ _ step c.put_in.ensures.completed
