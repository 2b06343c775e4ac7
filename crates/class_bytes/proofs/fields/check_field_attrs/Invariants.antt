use Rattle.std.proofs.Common.{◌+◌, [], drop}
use Rattle.class_model.specs.Members.{constant_value, attrs_checks, field_attr_checks}
use Rattle.class_bytes.specs.Inner.Cut.{attrs_of, field_of}
use Rattle.class_bytes.specs.Inner.Parts.{attrs_len}
use Rattle.class_bytes.proofs.Attributes.{Checked}
use Rattle.class_bytes.proofs.fields.check_field_attrs.Given as goal

abbrev pub invariant-loop-attr : goal.invariant-loop-attr
invariant-loop-attr l =
    let asks = field_attr_checks l.pool (field_of l.field) in
    Checked l.pool constant_value asks (attrs_checks asks [] l.at (attrs_of l.field.attrs)) (l.at + attrs_len (attrs_of l.field.attrs)) l.has_value l.place (drop l.attr-index l.attr-items)
