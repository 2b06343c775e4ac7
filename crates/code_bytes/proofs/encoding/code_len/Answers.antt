use Rattle.std.proofs.Common.{length, sym, ap, ◌∙◌}
use Rattle.code_bytes.specs.Forms.{instr_bytes}
use Rattle.code_bytes.proofs.ChosenBytes.{chosen_written, written_chosen}
use Rattle.code_bytes.proofs.encoding.code_len.Goals as goal

pub returns-clause-chosen : goal.returns-clause-chosen
returns-clause-chosen c =
    let instr = c.args.instr.now in
    (instr_bytes c.args.at instr, written_chosen c.args.at instr c.requires (c.form_of.ensures.numbers c.len.ensures.keys), c.len.ensures.len ∙ ap length c.form_of.ensures.bytes)

pub returns-clause-each : goal.returns-clause-each
returns-clause-each c = λ bytes small chosen.
    c.len.ensures.len ∙ ap length (c.form_of.ensures.bytes ∙ sym (chosen_written c.args.at c.args.instr.now bytes small chosen))

pub returns-clause-written : goal.returns-clause-written
returns-clause-written c = c.len.ensures.len ∙ ap length c.form_of.ensures.bytes
