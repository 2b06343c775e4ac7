-- Values and a list of kinds that is made once for a method.
use Rattle.std.specs.Prelude.{Bool, true, false, List, [], ◌∷◌, ◌&&◌}
use Rattle.class_model.specs.declared.descriptor.Kind.{Kind}
use Rattle.machine_values.specs.Values.{has_kind}
use Rattle.machine_values.specs.declared.value.Value.{Value}

abbrev pub are_of_kinds : List Kind → List Value → Bool
are_of_kinds [] [] = true
are_of_kinds (kind ∷ kinds) (value ∷ values) = has_kind kind value && are_of_kinds kinds values
are_of_kinds kinds values = false
