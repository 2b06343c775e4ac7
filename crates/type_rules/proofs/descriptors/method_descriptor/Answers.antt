use Rattle.std.proofs.Common.{Err, ap}
use Rattle.type_rules.proofs.descriptors.method_descriptor.Goals as goal

pub unreachable-requires : goal.unreachable-requires
unreachable-requires c =
    c.in-Err-BadName.ensures.bad_name (ap Err c.in-Err-BadName.field-0-is) c.requires.0 (c.a_descriptor_of_a_text.ensures c.args.desc.now c.requires.0 c.bytes-bytes.ensures.text c.requires.1)
