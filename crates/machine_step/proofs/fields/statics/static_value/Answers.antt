use Rattle.std.proofs.Common.{sym, ap, ◌∙◌}
use Rattle.machine_values.specs.Values.{blank_of_kind}
use Rattle.member_link.specs.Machine.Worlds.{Memory, written_static}
use Rattle.machine_step.proofs.FieldWork.{value_blank}
use Rattle.machine_step.proofs.fields.statics.static_value.Goals as goal

pub returns-in-None : goal.returns-in-None
returns-in-None c = λ P field is stored.
    c.blank_of_kind.ensures
    ∙ ap blank_of_kind c.kind.ensures
    ∙ sym
    (value_blank P field c.args.class c.args.number is c.args.memory.now c.args.type_.now
    (ap (λ (m : Memory). written_static m.statics c.args.class c.args.number) (sym c.memory.view_is) ∙ sym c.in-None.ensures)
    stored)
