use Rattle.std.proofs.Common.{Err, ap}
use Rattle.inline_expand.proofs.FieldTexts.{short-spells, spelled-type}
use Rattle.inline_expand.proofs.expanded.fields.type_of.Goals as goal

pub unreachable-requires : goal.unreachable-requires
unreachable-requires c =
    c.in-Err-BadName.ensures.bad_name (ap Err c.in-Err-BadName.field-0-is) c.requires.is.type
    (short-spells c.args.desc.now c.bytes-bytes.ensures.text c.requires c.a_descriptor_of_a_text.ensures)

pub returns-in-Ok : goal.returns-in-Ok
returns-in-Ok c = spelled-type c.args.desc.now c.in-Ok.field_type c.in-Ok.ensures.read
