use Rattle.field_constructors.proofs.ConstructorTexts.{closed}
use Rattle.field_constructors.proofs.free.constructor_descriptor.Goals as goal

pub returns-clause-text : goal.returns-clause-text
returns-clause-text c = closed c.args.fields.now c.loop.counter c.in_ok-desc.desc.items c.loop.desc.items _ c.in_ok-desc.ensures c.loop.invariant c.in_ok-extend_from_slice.ensures.items
