use Rattle.std.specs.Prelude.{refl}
use Rattle.class_model.specs.Descriptors as descriptors
use Rattle.machine_laws.specs.HandlersCases.{RunHandlers}

pub handlers_run : RunHandlers
unfolding descriptors.types_before
handlers_run = record {
  own_class = refl;
  superclass = refl;
  every_class = refl;
  no_handler = refl;
  of_caller = refl;
  caller_not_reached = refl;
  external_by_class = refl;
  external_by_interface = refl;
  external_without_interface = refl;
}
