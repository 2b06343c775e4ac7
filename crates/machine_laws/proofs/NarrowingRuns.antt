use Rattle.std.specs.Prelude.{refl}
use Rattle.class_model.specs.Descriptors as descriptors
use Rattle.machine_laws.specs.NarrowingCases.{RunNarrowing}

pub narrowing_run : RunNarrowing
unfolding descriptors.types_before
narrowing_run = record {
  byte_field = refl;
  short_field = refl;
  char_field = refl;
  even_boolean_field = refl;
  odd_boolean_field = refl;
  static_field = refl;
  short_result = refl;
  char_result = refl;
  boolean_result = refl;
  argument = refl;
  argument_of_library = refl;
  returned_byte = refl;
  returned_field = refl;
  put_field = refl;
}
