use Rattle.class_model.specs.Spelling.{field_bytes}
use Rattle.class_bytes.specs.Numbers.{FieldNumbers}
use Rattle.class_bytes.proofs.Pushing.{Pushed}
use Rattle.class_bytes.proofs.writing.push_fields.Given as goal

abbrev pub invariant-loop-field : goal.invariant-loop-field
invariant-loop-field l = Pushed field_bytes FieldNumbers l.fn.out.items l.out.items l.fields l.field-index
