use Rattle.class_bytes.proofs.known_shapes.KnownShapes.is_field_type.Goals as goal

pub returns-in-Some : goal.returns-in-Some
returns-in-Some c = c.in-Some.ensures.field c.args.text.now c.requires
