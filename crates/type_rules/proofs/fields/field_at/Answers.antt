use Rattle.member_link.specs.MemberRefs.{reference_meant}
use Rattle.type_rules.proofs.PoolFacts.{reference_descriptor}
use Rattle.type_rules.proofs.fields.field_at.Goals as goal

pub field_type-requires : goal.field_type-requires
field_type-requires c = reference_descriptor _ c.rules.invariant.class_file c.args.index (reference_meant c.in-Some.reference) c.in-Some.ensures
