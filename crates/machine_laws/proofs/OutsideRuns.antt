use Rattle.std.specs.Prelude.{refl}
use Rattle.class_model.specs.Descriptors as descriptors
use Rattle.machine_laws.specs.OutsideCases.{RunOutside}

pub outside_run : RunOutside
unfolding descriptors.types_before
outside_run = record {
  object_made = refl;
  throwable_made = refl;
  instance_of_second = refl;
  instance_of_superinterface = refl;
  no_instance_of_other = refl;
  cast_to_interface = refl;
  cast_to_second = refl;
  cast_to_superinterface = refl;
  cast_to_other = refl;
  interface_called = refl;
  interface_not_called = refl;
  dynamic_call = refl;
  float_asked = refl;
  external_receiver = refl;
  library_field = refl;
}
