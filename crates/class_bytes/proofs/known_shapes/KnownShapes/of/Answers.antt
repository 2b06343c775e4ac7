use Rattle.class_bytes.proofs.known_shapes.KnownShapes.of.Goals as goal

pub keep-requires : goal.keep-requires
keep-requires c = rw c.loop-index.invariant (record { is = c.shape_at.ensures; field = c.is_field_type_at.ensures })
