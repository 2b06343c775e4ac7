use Rattle.std.specs.Prelude.{refl}
use Rattle.class_model.specs.Descriptors as descriptors
use Rattle.machine_laws.specs.InitialisationCases.{RunInitialisation}

pub initialisation_run : RunInitialisation
unfolding descriptors.types_before
initialisation_run = record {
  superclass_first = refl;
  initialiser_throws = refl;
  by_new = refl;
  by_putstatic = refl;
  by_invokestatic = refl;
  by_getstatic = refl;
  by_declaring_class = refl;
  by_call = refl;
  by_construct = refl;
  interface_alone = refl;
  native_initialiser = refl;
  native_initialiser_above = refl;
  initialiser_divides = refl;
}
