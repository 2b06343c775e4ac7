use Rattle.std.proofs.Common.{◌++◌, ap, ◌∙◌}
use Rattle.code_bytes.specs.Inner.FormBytes.{form_bytes}
use Rattle.code_bytes.proofs.ChosenBytes.{written_chosen}
use Rattle.code_bytes.proofs.encoding.encode_into.Goals as goal

pub returns-clause-chosen : goal.returns-clause-chosen
returns-clause-chosen c =
    written_chosen c.args.at c.args.instr.now c.requires (c.form_of-form.ensures.numbers c.len.ensures.keys)

pub returns-clause-written : goal.returns-clause-written
returns-clause-written c =
    c.in_ok-push.ensures
    ∙ ap (λ front. front ++ form_bytes c.form_of-form.result) c.in_ok-reserve.ensures.items
    ∙ ap (λ more. c.args.bytes.now.items ++ more) c.form_of-form.ensures.bytes
