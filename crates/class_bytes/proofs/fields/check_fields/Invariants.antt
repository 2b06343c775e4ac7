use Rattle.std.proofs.Common.{◌+◌, [], drop}
use Rattle.class_model.specs.ClassOf.{fields_checks}
use Rattle.class_bytes.specs.Inner.Cut.{fields_of}
use Rattle.class_bytes.specs.Inner.Parts.{fields_len}
use Rattle.class_bytes.proofs.Members.{MembersChecked, field_kind}
use Rattle.class_bytes.proofs.fields.check_fields.Given as goal

abbrev pub invariant-loop-field : goal.invariant-loop-field
invariant-loop-field l =
    MembersChecked l.pool (field_kind l.pool l.class_flags) (fields_checks l.pool l.class_flags [] l.at (fields_of l.fields)) (l.at + fields_len (fields_of l.fields)) l.signatures l.place (drop l.field-index l.fields)
