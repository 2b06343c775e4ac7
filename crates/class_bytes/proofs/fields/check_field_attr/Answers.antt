-- An attribute that is no ConstantValue of a static field.
use Rattle.std.proofs.Common.{◌≡◌, inl, inr, sym, ◌∙◌}
use Rattle.class_model.specs.Members.{constant_value, is_named}
use Rattle.class_bytes.specs.Inner.Cut.{attr_of}
use Rattle.class_bytes.proofs.ClassAttrs.{named_by}
use Rattle.class_bytes.proofs.FieldParts.{not_asked}
use Rattle.class_bytes.proofs.fields.check_field_attr.Goals as goal
use Rattle.class_bytes.proofs.fields.check_field_attr.Goals.{else-has-via-then-has+else-is_value, else-has-via-else-has}

pub returns-else-has : goal.returns-else-has
returns-else-has c = λ before knows.
    let named : is_named c.args.pool.now constant_value (attr_of c.args.attr.now) ≡ c.eq-is_value.result = named_by c.args.pool.now constant_value c.args.attr.now _ _ c.in_ok-name.ensures.1 c.bytes.ensures.same ∙ sym c.eq-is_value.ensures in
    elim c.else-has.branch [
      | else-has-via-then-has+else-is_value w ↦ ((c.in_ok-name.ensures.0.0, not_asked _ _ _ (inr (named ∙ w.if-is_value.false))), sym named)
      | else-has-via-else-has w ↦ ((c.in_ok-name.ensures.0.0, not_asked _ _ _ (inl (sym w.if-has.ensures))), sym named)
    ]
