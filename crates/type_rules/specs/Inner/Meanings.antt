-- What the code's words for operands mean.
use Rattle.std.specs.Prelude.{[], ◌∷◌}
use Rattle.class_model.specs.Code.{verification_type}
use Rattle.class_model.specs.declared.frame.VType.TheVariants as types
use Rattle.member_link.specs.Rows.Operands as meant
use Rattle.type_rules.specs.declared.need.Need.{Need}
use Rattle.type_rules.specs.declared.need.Need.TheVariants as needs

abbrev pub need_meant : Need → meant.Need
need_meant (needs.OfKind kind) = meant.of_kind kind
need_meant needs.Initialised = meant.initialised
need_meant needs.Uninitialised = meant.uninitialised
need_meant (needs.Value type) = meant.assignable_to (verification_type type.now)
need_meant (needs.Object name) = meant.assignable_to (types.Object name.now)
need_meant (needs.ObjectOrThis name) = meant.assignable_or_this (types.Object name.now)
need_meant (needs.ArrayAmong one other) = meant.array_among (one.now ∷ other.now ∷ [])
need_meant needs.ArrayOfReferences = meant.array_of_references
need_meant needs.SomeArray = meant.some_array
