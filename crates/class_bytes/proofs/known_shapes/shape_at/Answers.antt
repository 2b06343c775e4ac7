use Rattle.std.proofs.Common.{Some, sym, ap, subst, ◌∙◌}
use Rattle.class_model.specs.ModifiedUtf8.{IsText}
use Rattle.class_bytes.specs.Inner.Shapes.{IsShape}
use Rattle.class_bytes.proofs.Shapes.{shape_of}
use Rattle.class_bytes.proofs.known_shapes.shape_at.Goals as goal

pub returns : goal.returns
returns c =
    let same = c.bytes.ensures.same in
    let is = c.method_shape.ensures in
    subst (λ text. IsShape text c.method_shape.result) (ap Some same ∙ c.in_ok-text.ensures)
    (shape_of c.bytes.result.now c.a_descriptor_of_a_text.ensures (subst IsText (sym same) c.bytes.ensures.text) c.method_shape.result is.descriptor is.units is.void)
