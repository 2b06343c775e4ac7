use Rattle.std.proofs.Common.{◌≡◌, true, Option, sym, ap, ◌∙◌, rules}
use Rattle.class_model.specs.declared.descriptor.FieldType.{FieldType}
use Rattle.member_link.specs.Machine.Acting.{given_value, pending_of}
use Rattle.member_link.specs.RunOps.{op_of}
use Rattle.machine_run.specs.Inner.ActingWords.{answer_for, value_for}
use Rattle.machine_run.proofs.Waiting.{for_value}
use Rattle.machine_run.proofs.acting.answers.answer_of.Goals as goal

pub returns-in-Some-awaited_text : goal.returns-in-Some-awaited_text
returns-in-Some-awaited_text c = λ P program.
    let w = c.args.w.now in
    let pending = pending_of (op_of c.args.op.now) in
    let awaited : c.is_awaited.result ≡ true = search rules in
    c.value_for.ensures P program
    ∙ ap (λ (type : Option FieldType). value_for P w.memory.heap type (given_value w.known c.in-Some.value)) c.in-Some-awaited_text.ensures
    ∙ sym (for_value P w pending c.in-Some.value (sym c.is_awaited.ensures ∙ awaited))
    ∙ ap (answer_for P w pending) (sym c.in-Some.is)
