use Rattle.std.specs.Prelude.{refl}
use Rattle.class_model.specs.Descriptors as descriptors
use Rattle.machine_laws.specs.FinalFieldsCases.{RunFinalFields}

pub final_fields_run : RunFinalFields
unfolding descriptors.types_before
final_fields_run = record {
  final_inside = refl;
  final_outside = refl;
  final_before_null = refl;
  final_static = refl;
}
