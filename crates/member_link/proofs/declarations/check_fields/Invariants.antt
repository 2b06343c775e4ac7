use Rattle.std.proofs.Common.{drop}
use Rattle.std.specs.Option.{option_copied}
use Rattle.std.specs.Prelude.{IfSome}
use Rattle.class_model.specs.Checks.{asked_each}
use Rattle.class_model.specs.Laws.Checks.{Remain}
use Rattle.class_tree.specs.Headers.{headers_of, IsThere}
use Rattle.member_link.specs.Declarations.{declared_field_checks}
use Rattle.member_link.specs.References.{FieldTypeNames}
use Rattle.member_link.proofs.declarations.check_fields.Given as goal

abbrev pub invariant-loop-field : goal.invariant-loop-field
invariant-loop-field l =
    IfSome (option_copied l.before) (FieldTypeNames (IsThere (headers_of l.tree)))
    × Remain (asked_each (declared_field_checks (headers_of l.tree) l.header) l.header.fields) (asked_each (declared_field_checks (headers_of l.tree) l.header) (drop l.field-index l.field-items))
