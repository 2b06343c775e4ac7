use Rattle.std.proofs.Common.{is_some, sym, ap, ◌∙◌}
use Rattle.machine_values.specs.declared.value.Value.{Value}
use Rattle.member_link.specs.Machine.FieldSteps.{put_field_in}
use Rattle.machine_step.specs.Inner.FieldWords.{put_conforming}
use Rattle.member_link.specs.RunOps.{home_class}
use Rattle.member_link.specs.declared.run_op.FieldHome.{FieldHome}
use Rattle.machine_step.proofs.FieldWork.{completes_as}
use Rattle.machine_step.proofs.fields.objects.put_in.Goals as goal

pub returns-in-Folder-clause-completed : goal.returns-in-Folder-clause-completed
returns-in-Folder-clause-completed c = λ P op operands here.
    let memory = c.args.memory.now in
    let field = c.args.target.now.field in
    completes_as (c.put_own.ensures.completed P op operands here (ap (λ (home : FieldHome). is_some (home_class home)) c.in-Folder.is))
    (ap (λ (receiver : Value). put_field_in P memory c.args.named.now field receiver c.args.value) c.in-Ref.is
    ∙ ap (put_conforming P memory c.args.named.now field c.in-Ref.at) (sym (c.kept-value.ensures field.desc here.target.desc)))
