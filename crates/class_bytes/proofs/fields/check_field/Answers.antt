use Rattle.std.proofs.Common.{rules}
use Rattle.class_bytes.specs.Inner.Cut.{field_of}
use Rattle.class_bytes.proofs.FieldParts.{field_behind}
use Rattle.class_bytes.proofs.fields.check_field.Goals as goal

pub returns : goal.returns
returns c = λ before same. field_behind _ _ before _ (field_of c.args.field.now) _ (search rules) c.check_field_attrs.ensures
