-- The instance fields that a header declares.
use Rattle.std.specs.Prelude.{List, not}
use Rattle.std.specs.List.{filter}
use Rattle.class_model.specs.Members.{has, STATIC}
use Rattle.class_model.specs.declared.header.Header.{Header}
use Rattle.class_model.specs.declared.header.Member.{Member}

abbrev pub instance_fields_of : Header → List Member
instance_fields_of header = filter (λ field. not (has field.flags STATIC)) header.fields
