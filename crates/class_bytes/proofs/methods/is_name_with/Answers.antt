use Rattle.std.proofs.Common.{refl}
use Rattle.class_bytes.proofs.Shapes.{init_name, no_shape, named_init, always, is_init}
use Rattle.class_bytes.proofs.methods.is_name_with.Goals as goal
use Rattle.class_bytes.proofs.methods.is_name_with.Goals.{in-Some, in-None}

pub returns-else-ne : goal.returns-else-ne
returns-else-ne c = λ text is.
    let init = is_init c.args.name.now c.if-ne.ensures in
    named_init _ text _ (c.if-is_method_name.ensures.0 refl) (elim c.match-shape.branch [
      | in-Some w ↦ rw w.is_void-is (init_name _ text w.in-Some.shape init (rw w.in-Some.is at is))
      | in-None w ↦ always _ w.is_void-is (no_shape _ text (rw w.in-None.is at is))
    ])
