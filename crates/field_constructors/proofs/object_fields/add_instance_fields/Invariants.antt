use Rattle.std.proofs.Common.{◌≡◌, ◌++◌}
use Rattle.field_constructors.proofs.FieldTextLaws.{instance_taken}
use Rattle.field_constructors.proofs.object_fields.add_instance_fields.Given as goal

abbrev pub invariant-loop-field : goal.invariant-loop-field
invariant-loop-field l = l.fields.items ≡ l.fn.fields.items ++ instance_taken l.header.fields l.field-index
